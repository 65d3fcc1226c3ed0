-- `whole_root n` is the one number whose square is at most n while the next one's is not. Assumes nothing.
use mathlib.Core.Path.{◌≡◌, sym, subst}
use Prim.Native.Nat.{ℕ, zero, suc, ◌+◌, ◌-◌, ◌*◌, ◌/◌, ◌^◌, ◌≤◌, ◌<◌}
use native.Mathlib.Nat.{le_refl, le_trans, le_of_eq, lt_of_lt_of_le, lt_of_le_of_lt, lt_of_not-le, not-le_of_lt, mul_comm, mul_left_comm}
use native.Mathlib.Nat.{mul-mul-mul_comm, add-mul, mul-add, add_assoc, add_comm, add_left_comm, pow-succ', mul-le-mul, mul-lt-mul_of_pos_right}
use native.Mathlib.Nat.{div-lt_iff_lt-mul, le-div_iff_mul-le, mul-le-mul_right, mul-pos}
use native.Mathlib.Omega.{arith}
use mathlib.Core.Bool.{Bool, true, false, not, ◌&&◌, cond}
use lib.Dec.{T, leb, leb→le, nleb→lt}
use lib.Pow.{pow_pos}
use lib.Ieee.{size}
use lib.Ieee.Digits.{size-lt}
use lib.Ieee.Fits.{and_l, and_r}
use Rattle.roots.specs.Root.{root_step, root_digits, whole_root}

-- r is the whole part of the root of n
pub record IsRoot (n r : ℕ) : Type 0 where
  pub low : r * r ≤ n
  pub high : n < (r + 1) * (r + 1)

-- ---- `whole_root`
fours : (d n : ℕ) → n < 4 ^ suc d → n / 4 < 4 ^ d
fours d n h = let e : 4 ^ suc d ≡ 4 * 4 ^ d = pow-succ' 4 d in let h' : n < 4 * 4 ^ d = subst (λ (z : ℕ). n < z) e h in omega arith

step-root : (n r : ℕ) → IsRoot (n / 4) r → IsRoot n (root_step n r)
step-root n r i = go (leb ((2 * r + 1) * (2 * r + 1)) n) (leb→le ((2 * r + 1) * (2 * r + 1)) n) (nleb→lt ((2 * r + 1) * (2 * r + 1)) n)
  where
    four : 2 * r * (2 * r) ≡ 4 * (r * r)
    four = mul-mul-mul_comm 2 r 2 r

    next : (2 * r + 1 + 1) * (2 * r + 1 + 1) ≡ 4 * ((r + 1) * (r + 1))
    next = simp (mul-add, add-mul, mul_comm, mul_left_comm, add_assoc, add_comm, add_left_comm) (omega arith)

    go : (b : Bool) → (T b → (2 * r + 1) * (2 * r + 1) ≤ n) → (T (not b) → n < (2 * r + 1) * (2 * r + 1)) → IsRoot n (cond b (2 * r + 1) (2 * r))
    go true a z = let h = i.high in let e = next in record { low = a tt; high = omega arith }
    go false a z = let h = i.low in let e = four in record { low = omega arith; high = z tt }

digits-root : (d n : ℕ) → n < 4 ^ d → IsRoot n (root_digits d n)
unfolding root_digits
digits-root zero n h = let h' : n < 1 = h in record { low = omega arith; high = h' }
digits-root (suc d) n h = step-root n (root_digits d (n / 4)) (digits-root d (n / 4) (fours d n h))

four-pow : (d : ℕ) → 2 ^ d ≤ 4 ^ d
four-pow zero = le_refl 1
four-pow (suc d) =
    let a = four-pow d in
    let e : 4 ^ suc d ≡ 4 * 4 ^ d = pow-succ' 4 d in
    let f : 2 ^ suc d ≡ 2 * 2 ^ d = pow-succ' 2 d in
    omega arith

pub whole-root : (n : ℕ) → IsRoot n (whole_root n)
unfolding whole_root
whole-root n = digits-root (size n) n (lt_of_lt_of_le (size-lt n) (four-pow (size n)))

-- ---- squares keep the order
pub sq-lt : (a b : ℕ) → a * a < b * b → a < b
sq-lt a b h = lt_of_not-le (λ (g : b ≤ a). not-le_of_lt h (mul-le-mul g g))

-- two whole parts of one root are the same
pub root-unique : (n q r : ℕ) → IsRoot n q → IsRoot n r → q ≡ r
root-unique n q r i j =
    let a : q < r + 1 = sq-lt q (r + 1) (lt_of_le_of_lt i.low j.high) in
    let b : r < q + 1 = sq-lt r (q + 1) (lt_of_le_of_lt j.low i.high) in
    omega arith

-- half the root, to the nearest whole number, is told by the squares of the odd numbers beside its double
pub half_is : (n r : ℕ) → 0 < r → (leb ((2 * r - 1) * (2 * r - 1)) n && not (leb ((2 * r + 1) * (2 * r + 1)) n)) ≡ true → r ≡ (whole_root n + 1) / 2
half_is n r p h =
    let a = leb ((2 * r - 1) * (2 * r - 1)) n in
    let b = leb ((2 * r + 1) * (2 * r + 1)) n in
    let t : T (a && not b) = subst T (sym h) tt in
    let i = whole-root n in
    let lo : 2 * r - 1 < whole_root n + 1 = sq-lt (2 * r - 1) (whole_root n + 1) (lt_of_le_of_lt (leb→le ((2 * r - 1) * (2 * r - 1)) n (and_l a (not b) t)) i.high) in
    let hi : whole_root n < 2 * r + 1 = sq-lt (whole_root n) (2 * r + 1) (lt_of_le_of_lt i.low (nleb→lt ((2 * r + 1) * (2 * r + 1)) n (and_r a (not b) t))) in
    omega arith

-- ---- the root of n * 4 ^ h begins with the digits of the root of n
pub scaled : (n q h : ℕ) → IsRoot n q → whole_root (n * (2 ^ h * 2 ^ h)) / 2 ^ h ≡ q
scaled n q h i =
    let p = 2 ^ h in
    let P : 0 < p = pow_pos h in
    let w = whole_root (n * (p * p)) in
    let j = whole-root (n * (p * p)) in
    let lo : q * p < w + 1 = sq-lt (q * p) (w + 1) (lt_of_le_of_lt (le_trans (le_of_eq (mul-mul-mul_comm q p q p)) (mul-le-mul_right (p * p) i.low)) j.high) in
    let hi : w < (q + 1) * p =
    sq-lt w ((q + 1) * p)
    (lt_of_le_of_lt j.low (lt_of_lt_of_le (mul-lt-mul_of_pos_right i.high (mul-pos P P)) (le_of_eq (sym (mul-mul-mul_comm (q + 1) p (q + 1) p))))) in
    let a : q ≤ w / p = (le-div_iff_mul-le P).1 (omega arith) in
    let b : w / p < q + 1 = (div-lt_iff_lt-mul P).1 hi in
    omega arith
