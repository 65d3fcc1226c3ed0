-- Positions by an index. Assumes nothing.
use Prim.Native.Nat.{ℕ, zero, suc, ◌+◌, ◌/◌, ◌<◌}
use native.Mathlib.Omega.{arith}
use mathlib.Core.Path.{◌≡◌, refl, ap, ◌∙◌}
use mathlib.Core.List.{List, [], ◌∷◌, map}
use lib.ListN.{length, get_or}
use lib.Ieee.{Float}
use Rattle.std.specs.Simd.{first_chunks}
use Rattle.means.specs.Mean.{positions}
use Rattle.means.specs.Laid.{from, of_three}

module _ {A : Type 0} (g : ℕ → A) where
  pub length_from : (i k : ℕ) → length (from g i k) ≡ k
  length_from i zero = refl
  length_from i (suc k) = ap suc (length_from (i + 1) k)

  at_from : (i k : ℕ) (d : A) (j : ℕ) → j < k → get_or (from g i k) j d ≡ g (i + j)
  at_from i zero d j h = absurd (omega arith)
  at_from i (suc k) d zero h = ap g (let e : i ≡ i + 0 = omega arith in e)
  at_from i (suc k) d (suc j) h = at_from (i + 1) k d j (omega arith) ∙ ap g (let e : i + 1 + j ≡ i + suc j = omega arith in e)

  pub below-from : (k j : ℕ) → j < length (from g 0 k) → j < k
  below-from k j h = omega (arith, length_from 0 k)

  pub at_start : (k : ℕ) (d : A) (j : ℕ) → j < length (from g 0 k) → get_or (from g 0 k) j d ≡ g j
  at_start k d j h = at_from 0 k d j (below-from k j h) ∙ ap g (let e : 0 + j ≡ j = omega arith in e)

-- coordinates taken three by three
pub positions-by_three : (cs : List Float) → map of_three (first_chunks 3 (length cs / 3) cs) ≡ positions cs
positions-by_three [] = refl
positions-by_three (x ∷ []) = refl
positions-by_three (x ∷ y ∷ []) = refl
positions-by_three (x ∷ y ∷ z ∷ cs) =
    let n : suc (suc (suc (length cs))) / 3 ≡ suc (length cs / 3) = omega arith in
    rw (n, positions-by_three cs)
