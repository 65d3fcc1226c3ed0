-- `atan2` of a y whose sign bit is clear lies from 0 to `PI`, for every y and x that are no NaN: interval arithmetic through document 01's rule. With
-- a quotient t up to 1, the series' u is at most a half in size, its Horner value from 0 to 5/4, α from 0 to 3/2, and `PI`/2 and `PI` leave the rest above zero.
-- Assumes nothing.
use mathlib.Core.Path.{◌≡◌, refl, sym, subst}
use mathlib.Core.Logic.{inl, inr}
use Prim.Native.Nat.{ℕ, zero, suc, ◌*◌, ◌^◌, ◌≤◌, ◌<◌, zero-le}
use native.Mathlib.Nat.{le_refl, le_of_suc-le-suc, eq-or-lt_of_le, le_trans, le_of_eq, le_of_lt, lt_of_le_of_lt, zero-mul, mul_comm, mul-le-mul_left, mul-pos, zero-lt-suc}
use native.Mathlib.Omega.{arith}
use mathlib.Core.Bool.{Bool, true, false, not, cond, ◌&&◌}
use borrow.Author.Tests.{ltb-true, ltb-false}
use lib.Dec.{T, ltb, leb, leb→le, lit<, lit≤}
use lib.IntN.{ℤ}
use lib.Ieee.{Float, nan, inf, fin, binary64, up, down, neg, lt, eq, is_nan, of_bits, of_int, div}
use lib.Ieee.Fits.{and_l, and_r, up_pos, down_pos, div-fits}
use lib.Ieee.Scale.{finite}
use Rattle.patterns.specs.Bits.{sign_bit, magnitude}
use Rattle.patterns.specs.Operators.{◌⊕◌, ◌⊖◌, ◌⊗◌, ◌⊘◌, whole, pi}
use Rattle.patterns.proofs.Sums.{add-comm-float}
use Rattle.float.specs.Trig.{steps, horner, arc_coefficient, arc_series, quotient, ratio, arc_bound, arc, subtracted_if, atan2}
use Rattle.float.proofs.Tangent.{both}
use Rattle.spherical.proofs.HalfCircle.{pi_less_one}
use Rattle.patterns.specs.Units.{Has, units_of}
use Rattle.patterns.proofs.Rounded.{rounded}
use Rattle.patterns.proofs.Units.{units-of-lt, units-of-not-lt}
use Rattle.patterns.proofs.Operations.{round-has, whole_has, divided}
use Rattle.patterns.proofs.Intervals.{Within, Clear, within_held, within_of, within_more, clear-more, clear-is}
use Rattle.patterns.proofs.Intervals.{rounded-up-to, sum-clear, mul-within, mul-clear, div-within, add-within, add-clear, sub_within, sub-clear}

-- ---- the numbers of the rule in units: a half is 2 ^ 1073, one 2 ^ 1074

has-zero : Has (whole 0) false 0
has-zero = whole_has 0 (lit< tt)

has_one : Has (whole 1) false (2 ^ 1074)
has_one = whole_has 1 (lit< tt)

-- 0.4140625 is 53/128
has-bound : Has arc_bound false (53 * 2 ^ 1067)
unfolding of_bits
has-bound = (refl, refl)

-- `PI` is so many 2 ^ -48
abbrev pub pi_digits : ℕ
pi_digits = suc pi_less_one

pub has-pi : Has pi false (pi_digits * 2 ^ 1026)
unfolding of_bits
has-pi = (refl, refl)

has-half-pi : Has (pi ⊘ whole 2) false (pi_digits * 2 ^ 1025)
unfolding of_bits of_int div
has-half-pi = (refl, refl)

has-quarter-pi : Has (pi ⊘ whole 4) false (pi_digits * 2 ^ 1024)
unfolding of_bits of_int div
has-quarter-pi = (refl, refl)

-- ---- Horner's rule, from coefficients of which the last is 1 and the others are a half at most

module _ (c : ℕ → Float) (z : Float) (last : Has (c 0) false (2 ^ 1074)) (bz : Within z (2 ^ 1072)) where
  step : (a : Float) → Within a (2 ^ 1074) → Within (a ⊗ z) (1 * 2 ^ 1072)
  step a w = mul-within 1 1072 (lit< tt) (lit< tt) (lit≤ tt) w bz

  pub steps-in : (n : ℕ) → ((k : ℕ) → k < n → Within (c (suc k)) (2 ^ 1073)) → (a : Float) → Within a (2 ^ 1074)
      → Clear (steps c z (suc n) a) 0 (5 * 2 ^ 1072)
  steps-in zero small a w =
      rw (add-comm-float binary64 (a ⊗ z) (c 0)) (add-clear 5 1072 (lit< tt) (lit< tt) (lit≤ tt) (lit≤ tt) (clear-is (2 ^ 1074) last) (step a w))
  steps-in (suc n) small a w =
      steps-in n (λ k h. small k (omega arith)) (a ⊗ z ⊕ c (suc n)) (add-within 1 1074 (lit< tt) (lit< tt) (lit≤ tt) (step a w) (small n (omega arith)))

-- the coefficients of the arc: computed one by one
abbrev is_small : Float → Bool
is_small x = finite x && leb (units_of x) (2 ^ 1073)

abbrev all_small : ℕ → Bool
all_small zero = true
all_small (suc k) = is_small (arc_coefficient (suc k)) && all_small k

all_small_lem : T (all_small 20)
unfolding units_of neg div of_int
all_small_lem = tt

one_of : (n k : ℕ) → T (all_small n) → k < n → T (is_small (arc_coefficient (suc k)))
one_of zero k t h = let z : ⊥ = omega arith in absurd z
one_of (suc n) k t h = elim (eq-or-lt_of_le (le_of_suc-le-suc h)) [
  | inl e ↦ subst (λ (i : ℕ). T (is_small (arc_coefficient (suc i)))) (sym e) (and_l (is_small (arc_coefficient (suc n))) (all_small n) t)
  | inr l ↦ one_of n k (and_r (is_small (arc_coefficient (suc n))) (all_small n) t) l
]

coefficient-in : (k : ℕ) → k < 20 → Within (arc_coefficient (suc k)) (2 ^ 1073)
coefficient-in k h =
    let x = arc_coefficient (suc k) in
    let t = one_of 20 k all_small_lem h in
    within_held x (2 ^ 1073) (div-fits binary64 _ _) (and_l (finite x) _ t) (leb→le (units_of x) (2 ^ 1073) (and_r (finite x) _ t))

-- ---- the series

first-coefficient : Has (arc_coefficient 0) false (2 ^ 1074)
unfolding div of_int
first-coefficient = (refl, refl)

horner-in : (u : Float) → Within u (2 ^ 1073) → Clear (horner arc_coefficient 20 (u ⊗ u)) 0 (5 * 2 ^ 1072)
horner-in u w =
    steps-in arc_coefficient (u ⊗ u) first-coefficient (mul-within 1 1072 (lit< tt) (lit< tt) (lit≤ tt) w w) 19 (λ k h. coefficient-in k (omega arith))
    (arc_coefficient 20) (within_more (lit≤ tt) (coefficient-in 19 (lit< tt)))

series-within : (u : Float) → Within u (2 ^ 1073) → Within (arc_series u) (5 * 2 ^ 1071)
unfolding arc_series
series-within u w = mul-within 5 1071 (lit< tt) (lit< tt) (lit≤ tt) w (within_of (horner-in u w))

series-clear : (u : Float) → Clear u 0 (2 ^ 1073) → Clear (arc_series u) 0 (5 * 2 ^ 1071)
unfolding arc_series
series-clear u w = mul-clear 5 1071 (lit< tt) (lit< tt) (lit≤ tt) w (horner-in u (within_of w))

-- ---- α, of a quotient t up to 1

turned-in : (t : Float) → Clear t (53 * 2 ^ 1067) (2 ^ 1074) → Within ((t ⊖ whole 1) ⊘ (t ⊕ whole 1)) (2 ^ 1073)
turned-in t w =
    div-within 1 1073 (lit< tt) (lit< tt) {x = t ⊖ whole 1} {y = t ⊕ whole 1} (lit< tt) (lit≤ tt)
    (sub_within 5 1071 (lit< tt) (lit< tt) (lit≤ tt) (lit≤ tt) w (clear-is (2 ^ 1074) has_one))
    (sum-clear 1 1075 (lit< tt) (lit< tt) 11 1071 (lit< tt) (lit≤ tt) (lit≤ tt) w (clear-is (2 ^ 1074) has_one))

arc-in : (t : Float) → Clear t 0 (2 ^ 1074) → Clear (arc t) 0 (3 * 2 ^ 1073)
unfolding arc
arc-in t w = go (lt arc_bound t) refl
  where
    go : (b : Bool) → lt arc_bound t ≡ b
        → Clear (cond b (pi ⊘ whole 4 ⊕ arc_series ((t ⊖ whole 1) ⊘ (t ⊕ whole 1))) (whole 0 ⊕ arc_series t)) 0 (3 * 2 ^ 1073)
    go true e =
        let l = units-of-lt arc_bound t (53 * 2 ^ 1067) w.units has-bound w.has e in
        let u = (t ⊖ whole 1) ⊘ (t ⊕ whole 1) in
        let v = turned-in t (record { units = w.units; has = w.has; low = le_of_lt l; high = w.high }) in
        add-clear 3 1073 (lit< tt) (lit< tt) {x = pi ⊘ whole 4} {y = arc_series u} (lit≤ tt) (lit≤ tt) (clear-is (pi_digits * 2 ^ 1024) has-quarter-pi) (series-within u v)
    go false e =
        let h = units-of-not-lt arc_bound t (53 * 2 ^ 1067) w.units has-bound w.has e in
        let s = series-clear t (record { units = w.units; has = w.has; low = zero-le; high = le_trans h (lit≤ tt) }) in
        rw (add-comm-float binary64 (whole 0) (arc_series t))
        (add-clear 3 1073 (lit< tt) (lit< tt) {x = arc_series t} {y = whole 0} (lit≤ tt) (lit≤ tt) s (within_of (clear-is 0 has-zero)))

-- ---- the quotient of two magnitudes

by-nothing : (d : ℤ) → eq (fin false 0 d) (whole 0) ≡ true
unfolding eq of_int
by-nothing d = simp zero-mul

-- the lesser over the greater, both finite
quotient-in : (m n : ℕ) (e d : ℤ) → m * up e * down d ≤ n * up d * down e → Clear (quotient (fin false m e) (fin false n d)) 0 (2 ^ 1074)
unfolding quotient
quotient-in m zero e d h = rw (by-nothing d) (clear-more zero-le zero-le (clear-is 0 has-zero))
quotient-in m (suc n) e d h = go (eq (fin false (suc n) d) (whole 0))
  where
    positive : 0 < suc n * up d * down e
    positive = mul-pos (mul-pos (zero-lt-suc n) (up_pos d)) (down_pos e)

    one_at_most : rounded (m * up e * down d * 2 ^ 1074) (suc n * up d * down e) ≤ 1 * 2 ^ 1074
    one_at_most = rounded-up-to 1 1074 (lit< tt) (lit< tt) _ _ positive (le_trans (le_of_eq (mul_comm _ (2 ^ 1074))) (mul-le-mul_left (2 ^ 1074) h))

    go : (b : Bool) → Clear (cond b (whole 0) (fin false m e ⊘ fin false (suc n) d)) 0 (2 ^ 1074)
    go true = clear-more zero-le zero-le (clear-is 0 has-zero)
    go false = rw (divided false false m n e d) (record {
      units = rounded (m * up e * down d * 2 ^ 1074) (suc n * up d * down e);
      has = round-has false _ _ (lt_of_le_of_lt one_at_most (lit< tt));
      low = zero-le;
      high = one_at_most;
    })

ratio-in : (y x : Float) → T (not (is_nan y)) → T (not (is_nan x)) → Clear (ratio (magnitude y) (magnitude x)) 0 (2 ^ 1074)
unfolding ratio lt eq div is_nan
ratio-in nan x a b = absurd a
ratio-in (inf s) nan a b = absurd b
ratio-in (inf s) (inf t) a b = clear-more zero-le (le_refl (2 ^ 1074)) (clear-is (2 ^ 1074) (refl, refl))
ratio-in (inf s) (fin t n d) a b = clear-more zero-le zero-le (clear-is 0 (refl, refl))
ratio-in (fin s m e) nan a b = absurd b
ratio-in (fin s m e) (inf t) a b = clear-more zero-le zero-le (clear-is 0 (refl, refl))
ratio-in (fin s m e) (fin t n d) a b = go (ltb (m * up e * down d) (n * up d * down e)) refl
  where
    go : (b : Bool) → ltb (m * up e * down d) (n * up d * down e) ≡ b
        → Clear (cond b (quotient (fin false m e) (fin false n d)) (quotient (fin false n d) (fin false m e))) 0 (2 ^ 1074)
    go true l = quotient-in m n e d (le_of_lt (ltb-true _ _ l))
    go false l = quotient-in n m d e (ltb-false _ _ l)

-- ---- atan2

less-in : (b : Bool) (c x : Float) (q j U : ℕ) → q < 2 ^ 53 → q * 2 ^ j < 2 ^ 2098 → U ≤ q * 2 ^ j → Has c false (q * 2 ^ j) → Clear x 0 U
    → Clear (subtracted_if b c x) 0 (q * 2 ^ j)
less-in true c x q j U s f h k w = sub-clear q j s f (le_refl _) h (clear-is (q * 2 ^ j) k) w
less-in false c x q j U s f h k w = clear-more (le_refl 0) h w

pub atan2-in : (y x : Float) → sign_bit y ≡ false → T (not (is_nan y)) → T (not (is_nan x)) → Clear (atan2 y x) 0 (pi_digits * 2 ^ 1026)
atan2-in y x s a b =
    rw (both y x a b, s)
    (less-in (sign_bit x) pi _ pi_digits 1026 (pi_digits * 2 ^ 1025) (lit< tt) (lit< tt) (lit≤ tt) has-pi
    (less-in (lt (magnitude x) (magnitude y)) (pi ⊘ whole 2) _ pi_digits 1025 (3 * 2 ^ 1073) (lit< tt) (lit< tt) (lit≤ tt) has-half-pi
    (arc-in (ratio (magnitude y) (magnitude x)) (ratio-in y x a b))))
