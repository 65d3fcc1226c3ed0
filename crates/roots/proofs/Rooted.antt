-- The tests of `sqrt`, and that it goes by the number of units. Assumes nothing.
use mathlib.Core.Path.{◌≡◌, refl, sym, ap, ◌∙◌, subst}
use Prim.Native.Nat.{ℕ, zero, suc, ◌+◌, ◌*◌, ◌/◌, ◌^◌, ◌<◌}
use native.Mathlib.Nat.{lt_irrefl, zero-mul, mul-pos, mul-div_cancel, zero-lt-suc}
use native.Mathlib.Omega.{arith}
use mathlib.Core.Bool.{Bool, true, false, ◌&&◌, ◌||◌, beq, not, true≢false}
use lib.Dec.{T, eqb, ltb, eqb→eq, ltb→lt, lt→ltb}
use lib.IntN.{ℤ}
use lib.Ieee.{Float, nan, inf, fin, binary64, up, down, of_bits, to_bits, fits, eq, lt, is_nan}
use lib.Ieee.Bits.{is_true}
use lib.Ieee.Exact.{HasValue}
use lib.Ieee.Fits.{down_pos, up_pos, and_l}
use lib.Ieee.Positive.{positive, positive-finite, first_pos, value_pos}
use lib.Pow.{pow_pos}
use Rattle.roots.specs.Root.{round_root, sqrt}
use Rattle.patterns.specs.Bits.{digits, place}
use Rattle.patterns.proofs.Value.{HasParts, parts-value}

pub at-nan : (x : Float) → x ≡ nan → sqrt x ≡ x
unfolding sqrt
at-nan x e = ap sqrt e ∙ sym e

-- ---- zero, as x == 0.0 tells it
zero-units : (e : ℤ) → (0 * up e * 1 ≡ 0) × (0 * 1 * down e ≡ 0)
zero-units e = (ap (λ (y : ℕ). y * 1) (zero-mul (up e)), zero-mul (down e))

pub at_zero : (x : Float) → eq x (of_bits binary64 0) ≡ true → sqrt x ≡ x
unfolding eq of_bits sqrt
at_zero nan h = refl
at_zero (inf s) h = absurd (true≢false (sym h))
at_zero (fin s zero e) h = refl
at_zero (fin s (suc m) e) h =
    let z : suc m * up e * 1 ≡ 0 * 1 * down e = eqb→eq (suc m * up e * 1) (0 * 1 * down e)
    (and_l (eqb (suc m * up e * 1) (0 * 1 * down e)) (beq s false || eqb (suc m * up e * 1) 0) (subst T (sym h) tt)) in
    absurd (lt_irrefl 0 (subst (λ (y : ℕ). 0 < y) (z ∙ (zero-units e).1) (mul-pos (mul-pos (zero-lt-suc m) (up_pos e)) (zero-lt-suc 0))))

-- ---- below zero
pub at-negative : (x : Float) → lt x (of_bits binary64 0) ≡ true → sqrt x ≡ nan
unfolding lt of_bits sqrt
at-negative nan h = refl
at-negative (inf true) h = refl
at-negative (inf false) h = absurd (true≢false (sym h))
at-negative (fin true zero e) h =
    let z : 0 < 0 * up e * 1 + 0 * 1 * down e = ltb→lt 0 (0 * up e * 1 + 0 * 1 * down e) (subst T (sym h) tt) in
    let u = zero-units e in
    let w : ⊥ = omega arith in
    absurd w
at-negative (fin true (suc m) e) h = refl
at-negative (fin false m e) h =
    let z : m * up e * 1 < 0 * 1 * down e = ltb→lt (m * up e * 1) (0 * 1 * down e) (subst T (sym h) tt) in
    let u = zero-units e in
    let w : ⊥ = omega arith in
    absurd w

pub at-infinity : (x : Float) → eq x (inf false) ≡ true → sqrt x ≡ x
unfolding eq sqrt
at-infinity nan h = refl
at-infinity (inf true) h = absurd (true≢false (sym h))
at-infinity (inf false) h = refl
at-infinity (fin s m e) h = absurd (true≢false (sym h))

-- ---- none of these: a positive finite value
level-zero : (a b : ℕ) (s : Bool) → a ≡ 0 → b ≡ 0 → (eqb a b && (beq s false || eqb a 0)) ≡ true
level-zero a b s p q = ap (λ (y : ℕ). eqb y b && (beq s false || eqb y 0)) p ∙ ap (λ (y : ℕ). eqb 0 y && (beq s false || true)) q ∙ last s
  where
    last : (s : Bool) → (true && (beq s false || true)) ≡ true
    last true = refl
    last false = refl

pub left_over : (x : Float) → T (not (is_nan x)) → eq x (of_bits binary64 0) ≡ false → lt x (of_bits binary64 0) ≡ false → eq x (inf false) ≡ false → T (positive x)
unfolding is_nan eq lt of_bits
left_over nan h k l n = absurd h
left_over (inf true) h k l n = absurd (true≢false l)
left_over (inf false) h k l n = absurd (true≢false n)
left_over (fin s zero e) h k l n = let u = zero-units e in absurd (true≢false (sym (level-zero (0 * up e * 1) (0 * 1 * down e) s u.0 u.1) ∙ k))
left_over (fin true (suc m) e) h k l n =
    let p : 0 < suc m * up e * 1 = mul-pos (mul-pos (zero-lt-suc m) (up_pos e)) (zero-lt-suc 0) in
    let q : 0 < suc m * up e * 1 + 0 * 1 * down e = omega arith in
    absurd (true≢false (sym (is_true (ltb 0 (suc m * up e * 1 + 0 * 1 * down e)) (lt→ltb 0 (suc m * up e * 1 + 0 * 1 * down e) q)) ∙ l))
left_over (fin false (suc m) e) h k l n = lt→ltb 0 (suc m) (zero-lt-suc m)

-- ---- the root goes by the units of a positive value
of-units : (x : Float) (a : ℕ) → T (positive x) → HasValue x false a (2 ^ 1074) → sqrt x ≡ round_root (a * 2 ^ 1074)
unfolding sqrt
of-units nan a p v = absurd p
of-units (inf s) a p v = absurd p
of-units (fin true m e) a p v = absurd p
of-units (fin false zero e) a p v = absurd (lt_irrefl 0 (ltb→lt 0 0 p))
of-units (fin false (suc m) e) a p v = ap (λ (y : ℕ). round_root (y / down e * 2 ^ 1074)) v.1 ∙ ap (λ (y : ℕ). round_root (y * 2 ^ 1074)) (mul-div_cancel a (down_pos e))

-- q and k are the parts of a positive value
pub record Rooted (x : Float) (q k : ℕ) : Type 0 where
  pub digits_pos : 0 < q
  pub is : sqrt x ≡ round_root (q * 2 ^ k * 2 ^ 1074)

own : (x : Float) (q k : ℕ) → T (positive x) → HasParts x q k → Rooted x q k
own nan q k p h = absurd p
own (inf s) q k p h = absurd p
own (fin true m e) q k p h = absurd p
own (fin false m e) q k p h =
    let x = fin false m e in
    record {
      digits_pos = first_pos q (2 ^ k)
          (value_pos x (q * 2 ^ k) (2 ^ 1074) p (pow_pos 1074) h.value);
      is = of-units x (q * 2 ^ k) p h.value;
    }

pub rooted : (x : Float) → T (fits binary64 x) → T (positive x) → Rooted x (digits (to_bits binary64 x)) (place (to_bits binary64 x))
rooted x f p = own x (digits (to_bits binary64 x)) (place (to_bits binary64 x)) p (parts-value x f (positive-finite x p))
