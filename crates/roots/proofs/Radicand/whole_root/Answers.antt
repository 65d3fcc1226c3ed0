-- `whole_root` meets its contract: the library's root is told by two squares, as `whole_root` of specs/ is.
use mathlib.Core.Path.{◌≡◌}
use Prim.Native.Nat.{ℕ, ◌+◌, ◌*◌, ◌%◌, ◌^◌, ◌≤◌, ◌<◌}
use native.Mathlib.Nat.{lt_of_le_of_lt}
use native.Mathlib.Omega.{arith}
use Rattle.roots.specs.Root.{whole_root}
use Rattle.roots.proofs.WholeRoot.{root-unique, sq-lt, whole-root}
use Rattle.roots.proofs.Radicand.whole_root.Goals as goal

-- m * 2 ^ 54 fits in 128 bits
is-root : (m w r : ℕ) → m < 2 ^ 54 → w ≡ m → r * r ≤ w * 2 ^ 54 % 2 ^ 128 → w * 2 ^ 54 % 2 ^ 128 < (r + 1) * (r + 1) → (r ≡ whole_root (m * 2 ^ 54)) × (r < 2 ^ 54)
is-root m w r f e h k =
    let n = m * 2 ^ 54 in
    let low : r * r ≤ n = omega arith in
    let high : n < (r + 1) * (r + 1) = omega arith in
    (root-unique n r (whole_root n) (record { low = low; high = high }) (whole-root n), sq-lt r (2 ^ 54) (lt_of_le_of_lt low (omega arith)))

pub returns : goal.returns
returns c = is-root c.args.self.m c.from.result c.isqrt.result c.args.self.fits c.from.ensures c.isqrt.ensures.square_le c.isqrt.ensures.next_square_gt
