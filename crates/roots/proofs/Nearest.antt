-- `nearest-root`: for every positive finite x, `sqrt x` is the one value of binary64 nearest to the exact root of x. Assumes nothing.
use mathlib.Core.Path.{◌≡◌, refl, sym, ap, ◌∙◌, subst}
use Prim.Native.Nat.{ℕ, zero, suc, ◌+◌, ◌-◌, ◌*◌, ◌/◌, ◌%◌, ◌^◌, ◌≤◌, ◌<◌, compare}
use mathlib.Core.Logic.{inl, inr}
use native.Mathlib.Nat.{le_trans, le_of_eq, le_of_suc-le-suc, lt_of_lt_of_le, lt_of_le_of_lt, lt_of_not-le, not-le_of_lt, eq-zero-or-pos, zero-mul}
use native.Mathlib.Nat.{zero-div, mul-one, mul_assoc, mul_right_comm, suc-mul, mul-le-mul_right, mul-lt-mul_of_pos_right, mul-div_cancel, div-one}
use native.Mathlib.Nat.{div-mul-le_self, div-lt_iff_lt-mul, le-add_left}
use native.Mathlib.Omega.{arith}
use mathlib.Core.Bool.{Bool, false, ◌&&◌}
use lib.Dec.{T, leb, ltb, eqb, leb→le, ltb→lt, lit<}
use lib.IntN.{ℤ, pos, negsuc}
use lib.Pow.{pow_pos, pow-add, pow_mono, pow-lt}
use lib.Ieee.{Float, fin, binary64, up, down, size, fits}
use lib.Ieee.Digits.{size_reaches}
use lib.Ieee.Exact.{HasValue, units_val}
use lib.Ieee.Fits.{and_l, and_r, nearest-le, down_pos}
use Rattle.roots.specs.Root.{in_units, sqrt, round_root, NearestRoot}
use Rattle.roots.proofs.WholeRoot.{whole-root, sq-lt}
use Rattle.roots.proofs.Closest.{Holds, w, k, q, kept, is-units, above, below}

-- ---- what the format holds, in units: fewer than 54 digits, and zeros
parts : (m : ℕ) (e : ℤ) → T (fits binary64 (fin false (suc m) e)) → (suc m < 2 ^ 53) × (down e ≤ 2 ^ 1074) × (suc m * up e < 2 ^ 1024 * down e)
unfolding fits
parts m e t =
    let a : Bool = eqb (suc m % 2) 1 in
    let b : Bool = ltb (suc m) (2 ^ 53) in
    let c : Bool = leb (down e) (2 ^ 1074) in
    let d : Bool = ltb (suc m * up e) (2 ^ 1024 * down e) in (
      ltb→lt (suc m) (2 ^ 53) (and_r a b (and_l (a && b) c (and_l (a && b && c) d t))),
      leb→le (down e) (2 ^ 1074) (and_r (a && b) c (and_l (a && b && c) d t)),
      ltb→lt (suc m * up e) (2 ^ 1024 * down e) (and_r (a && b && c) d t),
    )

in_place : (n : ℕ) (e : ℤ) → down e ≤ 2 ^ 1074 → (j : ℕ) × (in_units n e ≡ n * 2 ^ j)
in_place n (pos p) h = (p + 1074, div-one (n * 2 ^ p * 2 ^ 1074) ∙ mul_assoc n (2 ^ p) (2 ^ 1074) ∙ ap (λ (x : ℕ). n * x) (sym (pow-add 2 p 1074)))
in_place n (negsuc p) h =
    let l : suc p ≤ 1074 = le_of_suc-le-suc (lt_of_not-le (λ (g : 1075 ≤ suc p). not-le_of_lt (pow-lt g) h)) in (
      1074 - suc p,
      ap (λ (x : ℕ). x * 2 ^ 1074 / 2 ^ suc p) (mul-one n)
          ∙ ap (λ (x : ℕ). n * x / 2 ^ suc p) (ap (λ (x : ℕ). 2 ^ x) (back p l) ∙ pow-add 2 (1074 - suc p) (suc p))
          ∙ ap (λ (x : ℕ). x / 2 ^ suc p) (sym (mul_assoc n (2 ^ (1074 - suc p)) (2 ^ suc p)))
          ∙ mul-div_cancel (n * 2 ^ (1074 - suc p)) (pow_pos (suc p)),
    )
  where
    back : (p : ℕ) → suc p ≤ 1074 → 1074 ≡ 1074 - suc p + suc p
    back p h = omega arith

holds : (n : ℕ) (e : ℤ) → T (fits binary64 (fin false n e)) → Holds (in_units n e)
holds zero e t =
    record {
      digits = 0;
      place = 0;
      small = pow_pos 53;
      is = ap (λ (x : ℕ). x * 2 ^ 1074 / down e) (zero-mul (up e))
          ∙ ap (λ (x : ℕ). x / down e) (zero-mul (2 ^ 1074)) ∙ zero-div (down e);
    }
holds (suc n) e t = let p = parts n e t in let j = in_place (suc n) e p.1 in record { digits = suc n; place = j.0; small = p.0; is = j.1 }

-- ---- the result does not overflow
module _ (a : ℕ) (small : a < 2 ^ 1586 * 2 ^ 1586) where
  root-lt : w a < 2 ^ 1586
  root-lt = sq-lt (w a) (2 ^ 1586) (lt_of_le_of_lt (whole-root a).low small)

  unit-le : 2 ^ k a ≤ w a + 1
  unit-le = elim (eq-zero-or-pos (k a)) [
    | inl z ↦ le_trans (le_of_eq (ap (λ (n : ℕ). 2 ^ n) z)) (le-add_left 1 (w a))
    | inr p ↦ le_trans (le_trans (pow_mono (more (k a))) (size_reaches (w a) (52 + k a) (lead (size (w a)) p))) (up (w a))
  ]
    where
      lead : (z : ℕ) → 0 < z - 53 → 52 + (z - 53) < z
      lead z h = omega arith

      more : (n : ℕ) → n ≤ 52 + n
      more n = omega arith

      up : (n : ℕ) → n ≤ n + 1
      up n = omega arith

  result-lt : kept a * 2 ^ k a < 2 ^ 2098
  result-lt =
      let p = 2 ^ k a in
      let o = compare (4 * a) ((2 * q a + 1) * p * ((2 * q a + 1) * p)) in
      let b : kept a * p ≤ suc (q a) * p = mul-le-mul_right p (nearest-le (q a) o) in
      let c : suc (q a) * p ≡ q a * p + p = suc-mul (q a) p in
      let d : q a * p ≤ w a = div-mul-le_self (w a) p in
      let u = unit-le in
      let l = root-lt in
      let x : kept a * p ≤ w a + (w a + 1) = omega arith in
      lt_of_le_of_lt x (sum (w a) (2 ^ 1586) (2 ^ 2098) l (lit< tt))
    where
      sum : (x y z : ℕ) → x < y → y + y < z → x + (x + 1) < z
      sum x y z h l = omega arith

root_is : (m : ℕ) (e : ℤ) → sqrt (fin false (suc m) e) ≡ round_root (in_units (suc m) e * 2 ^ 1074)
unfolding sqrt
root_is m e = refl

in-range : (m : ℕ) (e : ℤ) → suc m * up e < 2 ^ 1024 * down e → in_units (suc m) e * 2 ^ 1074 < 2 ^ 1586 * 2 ^ 1586
in-range m e h =
    mul-lt-mul_of_pos_right
    ((div-lt_iff_lt-mul (down_pos e)).1 (lt_of_lt_of_le (mul-lt-mul_of_pos_right h (pow_pos 1074)) (le_of_eq (mul_right_comm (2 ^ 1024) (down e) (2 ^ 1074))))) (pow_pos 1074)

-- "the square root is proved against IEEE 754"
pub nearest-root : (m : ℕ) (e : ℤ) → T (fits binary64 (fin false (suc m) e)) → NearestRoot (in_units (suc m) e * 2 ^ 1074) (sqrt (fin false (suc m) e))
nearest-root m e t =
    let a = in_units (suc m) e * 2 ^ 1074 in
    let s = in-range m e (parts m e t).2 in
    let h = holds (suc m) e t in
    let i : a ≡ h.digits * 2 ^ (h.place + 1074) = ap (λ (n : ℕ). n * 2 ^ 1074) h.is ∙ mul_assoc h.digits (2 ^ h.place) (2 ^ 1074)
    ∙ ap (λ (n : ℕ). h.digits * n) (sym (pow-add 2 h.place 1074)) in
    record {
      result = kept a * 2 ^ k a;
      value = subst (λ (r : Float). HasValue r false (kept a * 2 ^ k a) (2 ^ 1074)) (sym (root_is m e ∙ is-units a)) (units_val binary64 false (kept a) (k a) (result-lt a s));
      none_above = λ n d f l. above a h.digits (h.place + 1074) h.small i (in_units n d) (holds n d f) l;
      none_below = λ n d f l. below a h.digits (h.place + 1074) h.small i (in_units n d) (holds n d f) l;
    }
