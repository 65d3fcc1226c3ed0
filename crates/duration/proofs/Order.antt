-- Floats that are zero or more: their order is that of their fractions, a product of one with a value above zero is one, and below a limit they are finite. Assumes nothing.
use mathlib.Core.Path.{◌≡◌, sym, ap, ◌∙◌, subst}
use Prim.Native.Nat.{ℕ, zero, suc, ◌*◌, ◌≤◌, ◌<◌}
use native.Mathlib.Nat.{lt_of_lt_of_le, le_of_eq, le_of_lt, zero-lt-suc, zero-mul, mul-one, mul-pos, mul_right_comm, lt_of_mul-lt-mul_right}
use native.Mathlib.Omega.{arith}
use mathlib.Core.Bool.{Bool, true, false, cond, ◌&&◌, ◌||◌, true≢false}
use lib.Dec.{T, ltb, eqb, eqb→eq, ltb→lt, eqb-suc-zero}
use lib.IntN.{ℤ}
use lib.Ieee.{Float, nan, inf, fin, binary64, up, down, round, mul, of_int, lt, le}
use lib.Ieee.Exact.{HasValue}
use lib.Ieee.Fits.{and_l, down_pos}
use lib.Ieee.Order.{round_mono}
use lib.Ieee.Positive.{num, den, positive}
use lib.Ieee.Scale.{finite, round_same}
use Rattle.duration.specs.Duration.{zero_or_more}

-- what is zero or more with the sign bit set is a zero
pub minus-zero : (m : ℕ) (e : ℤ) → T (zero_or_more (fin true m e)) → m * up e ≡ 0
unfolding le of_int
minus-zero m e a =
    let z : 0 * 1 * down e ≡ m * up e * 1 = eqb→eq (0 * 1 * down e) (m * up e * 1) (and_l (eqb (0 * 1 * down e) (m * up e * 1)) (false || eqb (0 * 1 * down e) 0) a) in
    sym (mul-one (m * up e)) ∙ sym z ∙ zero-mul (down e)

-- ---- order
either : {p : Type 0} (b c : Bool) → (T b → p) → (T c → p) → T (b || (c && true)) → p
either true c l q t = l tt
either false true l q t = q tt
either false false l q t = absurd t

-- the order of values that are zero or more is that of their fractions
pub le-cross : (x y : Float) → T (zero_or_more x) → T (finite y) → T (le x y) → num x * den y ≤ num y * den x
unfolding le
le-cross nan y a f h = omega arith
le-cross (inf s) y a f h = omega arith
le-cross (fin s m e) nan a f h = absurd f
le-cross (fin s m e) (inf t) a f h = absurd f
le-cross (fin true m e) (fin t k d) a f h = subst (λ (n : ℕ). n * down d ≤ k * up d * down e) (sym (minus-zero m e a)) (omega arith)
le-cross (fin false m e) (fin true k d) a f h =
    let x = m * up e * down d in
    let y = k * up d * down e in
    le_of_eq (eqb→eq x y (and_l (eqb x y) (false || eqb x 0) h))
le-cross (fin false m e) (fin false k d) a f h =
    let x = m * up e * down d in
    let y = k * up d * down e in
    either (ltb x y) (eqb x y) (λ u. le_of_lt (ltb→lt x y u)) (λ u. le_of_eq (eqb→eq x y u)) h

-- ---- a limit

-- finite, and below n in size
pub record Within (x : Float) (n : ℕ) : Type 0 where
  pub is_finite : T (finite x)
  pub below : num x < n * den x

pub within : (x y : Float) (n : ℕ) → 0 < n → HasValue y false n 1 → T (zero_or_more x) → T (lt x y) → Within x n
unfolding le lt of_int
within x nan n N v a b = absurd v
within x (inf t) n N v a b = absurd v
within x (fin true k d) n N v a b = absurd (true≢false v.0)
within nan (fin false k d) n N v a b = absurd b
within (inf true) (fin false k d) n N v a b = absurd a
within (inf false) (fin false k d) n N v a b = absurd b
within (fin true m e) (fin false k d) n N v a b = record { is_finite = tt; below = subst (λ (z : ℕ). z < n * down e) (sym (minus-zero m e a)) (mul-pos N (down_pos e)) }
within (fin false m e) (fin false k d) n N v a b = record {
  is_finite = tt;
  below =
      lt_of_mul-lt-mul_right (down d)
      (lt_of_lt_of_le (ltb→lt (m * up e * down d) (k * up d * down e) b)
      (le_of_eq (ap (λ (z : ℕ). z * down e) (sym (mul-one (k * up d)) ∙ v.1) ∙ mul_right_comm n (down d) (down e))));
}

-- ---- a product of what is zero or more with what is above zero is zero or more
times : (m k : ℕ) (e d : ℤ) → T (zero_or_more (mul binary64 (fin false m e) (fin false k d)))
unfolding mul of_int
times m k e d = round_mono binary64 0 1 (m * up e * (k * up d)) (down e * down d) (zero-lt-suc 0) (mul-pos (down_pos e) (down_pos d)) (omega arith)

minus-zero-times : (m k : ℕ) (e d : ℤ) → m * up e ≡ 0 → T (zero_or_more (mul binary64 (fin true m e) (fin false k d)))
unfolding mul of_int le round
minus-zero-times m k e d z =
    subst (λ (y : Float). T (zero_or_more y))
    (sym (round_same binary64 true (m * up e * (k * up d)) (down e * down d) 0 1 (mul-pos (down_pos e) (down_pos d)) (zero-lt-suc 0) none)) tt
  where
    none : m * up e * (k * up d) * 1 ≡ 0 * (down e * down d)
    none = mul-one (m * up e * (k * up d)) ∙ ap (λ (n : ℕ). n * (k * up d)) z ∙ zero-mul (k * up d) ∙ sym (zero-mul (down e * down d))

infinite-times : (k : ℕ) (d : ℤ) → T (zero_or_more (mul binary64 (inf false) (fin false (suc k) d)))
unfolding mul of_int le
infinite-times k d = subst (λ (b : Bool). T (zero_or_more (cond b nan (inf false)))) (sym (eqb-suc-zero k)) tt

pub zero-or-more-times : (x y : Float) → T (positive y) → T (zero_or_more x) → T (zero_or_more (mul binary64 x y))
unfolding le of_int
zero-or-more-times x nan p a = absurd p
zero-or-more-times x (inf t) p a = absurd p
zero-or-more-times x (fin true k d) p a = absurd p
zero-or-more-times x (fin false zero d) p a = absurd p
zero-or-more-times nan (fin false (suc k) d) p a = absurd a
zero-or-more-times (inf true) (fin false (suc k) d) p a = absurd a
zero-or-more-times (inf false) (fin false (suc k) d) p a = infinite-times k d
zero-or-more-times (fin true m e) (fin false (suc k) d) p a = minus-zero-times m (suc k) e d (minus-zero m e a)
zero-or-more-times (fin false m e) (fin false (suc k) d) p a = times m (suc k) e d
