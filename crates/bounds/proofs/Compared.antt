-- The ranges of a radius' worth, by tests as floats compare: a zero of either sign is one number. Assumes nothing.
use mathlib.Core.Path.{◌≡◌, refl, sym, ap, ◌∙◌, subst}
use Prim.Native.Nat.{ℕ, zero, suc, ◌*◌, ◌^◌, ◌<◌, zero-le}
use native.Mathlib.Nat.{le_trans, le_of_eq, zero-mul, zero-add, add-zero, mul-pos}
use native.Mathlib.Omega.{arith}
use mathlib.Core.Bool.{Bool, true, false, ◌&&◌, true≢false}
use borrow.Author.Tests.{le-ltb}
use lib.Dec.{T, eqb, eqb→eq, lit<}
use lib.IntN.{ℤ}
use lib.Pow.{pow_pos}
use lib.Ieee.{Float, nan, inf, fin, binary64, up, down, fits, le}
use lib.Ieee.Fits.{and_l, and_r, down_pos}
use Rattle.patterns.specs.Bits.{sign_bit, magnitude}
use Rattle.patterns.specs.Operators.{◌⊗◌, whole}
use Rattle.patterns.proofs.Held.{above_zero}
use Rattle.patterns.specs.Units.{Has, units_of}
use Rattle.bounds.specs.Radius.{Between, Radii}
use Rattle.bounds.specs.Compared.{TestsTell, OrderTells, MonoAsCompared}
use Rattle.patterns.proofs.Units.{as-fin, both-fin, units-exact, units-is, magnitude-has, units-of-le, le-of-units}
use Rattle.patterns.proofs.Operations.{whole_has}
use Rattle.bounds.proofs.Radius.{radius-mono}

-- ---- -0.0 compares as +0.0 does

both-same : (b : Bool) → (b && b) ≡ (b && true)
both-same true = refl
both-same false = refl

zero_left : (e : ℤ) (y : Float) → le (fin true 0 e) y ≡ le (fin false 0 e) y
unfolding le
zero_left e nan = refl
zero_left e (inf t) = refl
zero_left e (fin true n d) = rw (zero-mul (up e), zero-mul (down d), le-ltb (n * up d * down e) 0 zero-le)
zero_left e (fin false n d) = rw (zero-mul (up e), zero-mul (down d), zero-add (n * up d * down e))

zero_right : (d : ℤ) (x : Float) → le x (fin true 0 d) ≡ le x (fin false 0 d)
unfolding le
zero_right d nan = refl
zero_right d (inf s) = refl
zero_right d (fin true m e) = rw (zero-mul (up d), zero-mul (down e), add-zero (m * up e * down d), both-same (eqb (m * up e * down d) 0))
zero_right d (fin false m e) = rw (zero-mul (up d), zero-mul (down e), le-ltb (m * up e * down d) 0 zero-le, both-same (eqb (m * up e * down d) 0))

-- a value that is not zero has units
some-units : (s : Bool) (m : ℕ) (e : ℤ) (n : ℕ) → Has (fin s (suc m) e) s n → n ≡ 0 → ⊥
some-units s m e n h z =
    never (suc m * up e * 2 ^ 1074) (mul-pos (above_zero m e) (pow_pos 1074)) (h.1 ∙ ap (λ (k : ℕ). k * down e) z ∙ zero-mul (down e))
  where
    never : (k : ℕ) → 0 < k → k ≡ 0 → ⊥
    never k p e = omega arith

module _ {lo hi : ℕ} where
  size-has : (x : Float) → Between lo hi x → Has (magnitude x) false (units_of x)
  size-has x f = magnitude-has x (sign_bit x) (units_of x) (units-exact x f.held f.is_finite)

  left : (x y : Float) → Between lo hi x → le x y ≡ le (magnitude x) y
  left nan y f = refl
  left (inf s) y f = absurd f.is_finite
  left (fin false m e) y f = refl
  left (fin true zero e) y f = zero_left e y
  left (fin true (suc m) e) y f = absurd (some-units true m e _ (units-exact (fin true (suc m) e) f.held tt) (f.not_below refl))

  right : (x y : Float) → Between lo hi y → le x y ≡ le x (magnitude y)
  right x nan f = refl
  right x (inf s) f = absurd f.is_finite
  right x (fin false m e) f = refl
  right x (fin true zero e) f = zero_right e x
  right x (fin true (suc m) e) f = absurd (some-units true m e _ (units-exact (fin true (suc m) e) f.held tt) (f.not_below refl))

pub order-tells : OrderTells
order-tells lo hi lo' hi' x y f g =
    let e : le x y ≡ le (magnitude x) (magnitude y) = left x y f ∙ right (magnitude x) y g in (
      λ t. units-of-le (magnitude x) (magnitude y) (units_of x) (units_of y) (size-has x f) (size-has y g) (subst T e t),
      λ l. subst T (sym e) (le-of-units (magnitude x) (magnitude y) (units_of x) (units_of y) (size-has x f) (size-has y g) l),
    )

-- ---- between two floats whose sign bits are clear lies no NaN, no infinity, and nothing below zero

no_nan : (n : ℕ) (d : ℤ) → T (le (fin false n d) nan) → ⊥
unfolding le
no_nan n d t = t

no-infinity : (n l : ℕ) (d c : ℤ) (s : Bool) → T (le (fin false n d) (inf s)) → T (le (inf s) (fin false l c)) → ⊥
unfolding le
no-infinity n l d c true t u = t
no-infinity n l d c false t u = u

none_below : (n m : ℕ) (d e : ℤ) → T (le (fin false n d) (fin true (suc m) e)) → ⊥
unfolding le
none_below n m d e t =
    let a = n * up d * down e in
    let b = suc m * up e * down d in
    never a b (mul-pos (above_zero m e) (down_pos d)) (eqb→eq a b (and_l (eqb a b) (eqb a 0) t)) (eqb→eq a 0 (and_r (eqb a b) (eqb a 0) t))
  where
    never : (a b : ℕ) → 0 < b → a ≡ b → a ≡ 0 → ⊥
    never a b p e f = omega arith

nothing-has : (s : Bool) (e : ℤ) → Has (fin s 0 e) s 0
nothing-has s e = (refl, ap (λ (k : ℕ). k * 2 ^ 1074) (zero-mul (up e)) ∙ sym (zero-mul (down e)))

module _ (w v : Float) (lo hi : ℕ) (hw : Has w false (lo * 2 ^ 1074)) (hv : Has v false (hi * 2 ^ 1074)) where
  between : (x : Float) → T (fits binary64 x) → T (le w x) → T (le x v) → Between lo hi x
  between nan f t u = absurd (as-fin w false _ (λ w. T (le w nan) → ⊥) hw (λ n d p. no_nan n d) t)
  between (inf s) f t u =
      absurd (both-fin w v false false _ _ hw hv (λ w v. T (le w (inf s)) → T (le (inf s) v) → ⊥) (λ n l d c p q. no-infinity n l d c s) t u)
  between (fin true (suc m) e) f t u = absurd (as-fin w false _ (λ w. T (le w (fin true (suc m) e)) → ⊥) hw (λ n d p. none_below n m d e) t)
  between (fin true zero e) f t u =
      let z : units_of (fin true 0 e) ≡ 0 = units-is (fin true 0 e) true 0 (nothing-has true e) in
      record {
        held = f;
        is_finite = tt;
        not_below = λ _. z;
        low = le_trans (units-of-le w (fin false 0 e) _ 0 hw (nothing-has false e) (subst T (zero_right e w) t)) zero-le;
        high = le_trans (le_of_eq z) zero-le;
      }
  between (fin false m e) f t u =
      let h = units-exact (fin false m e) f tt in
      record {
        held = f;
        is_finite = tt;
        not_below = λ z. absurd (true≢false (sym z));
        low = units-of-le w (fin false m e) _ _ hw h t;
        high = units-of-le (fin false m e) v _ _ h hv u;
      }

pub tests-tell : TestsTell
tests-tell lo hi x l h p = between (whole lo) (whole hi) lo hi (whole_has lo l) (whole_has hi h) x p.held p.low p.high

pub mono-as-compared : MonoAsCompared
mono-as-compared a r s pa pr ps t =
    let fr = tests-tell 1 (2 ^ 30) r (lit< tt) (lit< tt) pr in
    let fs = tests-tell 1 (2 ^ 30) s (lit< tt) (lit< tt) ps in
    let w : Radii 30 r s = record { first = fr; second = fs; rising = (order-tells 1 (2 ^ 30) 1 (2 ^ 30) r s fr fs).0 t } in
    let m = radius-mono a r s (tests-tell 0 4 a (lit< tt) (lit< tt) pa) w in
    (order-tells 0 (2 ^ 32) 0 (2 ^ 32) (a ⊗ r) (a ⊗ s) m.first m.second).1 m.rising
