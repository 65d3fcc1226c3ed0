-- Request 2026-03 without a special case: an angle up to half a circle is itself, a greater one is less whole half circles. And what of the
-- old answers the request keeps. Assumes nothing.
use mathlib.Core.Path.{◌≡◌, refl, sym, ap, ◌∙◌}
use mathlib.Core.Bool.{Bool, true, false, cond, false≢true}
use mathlib.Core.Logic.{◌⊎◌, inl, inr, ⊎_elim}
use Prim.Native.Nat.{ℕ, suc, ◌*◌, ◌%◌, zero-le}
use native.Mathlib.Nat.{zero-mul}
use borrow.Author.Tests.{le-ltb}
use lib.Dec.{T, eqb}
use lib.IntN.{ℤ, pos, negsuc}
use lib.Ieee.{Float, nan, inf, fin, binary64, up, down, of_bits, round, neg, eq, lt, le, rem, fits}
use lib.Ieee.Bits.{is_true}
use lib.Ieee.Fits.{down_pos, neg-fits}
use lib.Ieee.Order.{le_of_values}
use Rattle.patterns.specs.Bits.{magnitude, sign_bit}
use Rattle.patterns.specs.Operators.{◌⊗◌, pi}
use Rattle.patterns.proofs.Held.{eq-same}
use Rattle.patterns.proofs.Products.{product-comm, product-of-equal}
use Rattle.patterns.proofs.Sign.{round-sign}
use Rattle.vectors.specs.Literal.{zero}
use Rattle.jord.specs.Angle.{from_radians, normalised_to, NEG_HALF_CIRCLE}
use Rattle.jord.specs.Length.{from_metres, mul_angle}
use Rattle.jord.specs.declared.length.Length.{Length}
use Rattle.spherical.specs.Before as before
use Rattle.spherical.specs.Sphere.{arc_of, angle_to_distance}

-- `PI` is 884279719003555 * 2 ^ -48
abbrev pub pi_less_one : ℕ
pi_less_one = 884279719003554

abbrev pub pi_place : ℤ
pi_place = negsuc 47

pub pi-is : pi ≡ fin false (suc pi_less_one) pi_place
unfolding of_bits
pi-is = refl

-- ---- floats without a sign bit lie at zero or above

from_zero : (m : ℕ) (e : ℤ) → le zero (fin false m e) ≡ true
unfolding of_bits
from_zero m e =
    is_true _
    (le_of_values (fin false 0 (pos 0)) (fin false m e) 0 1 (m * up e) (down e) (down_pos (pos 0)) (down_pos e) (refl, refl) (refl, refl)
    (rw (zero-mul (down e)) zero-le))

not_below : (x : Float) → sign_bit x ≡ false → lt x zero ≡ false
unfolding lt of_bits
not_below nan h = refl
not_below (inf s) h = h
not_below (fin false m e) h = rw (zero-mul (down e)) (le-ltb (m * up e * 1) 0 zero-le)
not_below (fin true m e) h = absurd (false≢true (sym h))

rem-sign : (m n : ℕ) (e d : ℤ) → sign_bit (rem binary64 (fin false m e) (fin false n d)) ≡ false
unfolding rem
rem-sign m n e d = go (eqb n 0)
  where
    go : (b : Bool) → sign_bit (cond b nan (round binary64 false (m * up e * down d % (n * up d * down e)) (down e * down d))) ≡ false
    go true = refl
    go false = round-sign false (m * up e * down d % (n * up d * down e)) (down e * down d)

rem-not-below : (m : ℕ) (e : ℤ) → lt (rem binary64 (fin false m e) pi) zero ≡ false
rem-not-below m e = rw pi-is (not_below _ (rem-sign m (suc pi_less_one) e pi_place))

-- ---- without a special case

-- a itself up to half a circle, else a % HALF_CIRCLE
abbrev pub less_halves : Float → Float
less_halves a = cond (le a pi) a (rem binary64 a pi)

module _ (l : Length) (m : ℕ) (e : ℤ) where
  abbrev a : Float
  a = fin false m e

  of-half : eq a pi ≡ true → l.metres ⊗ pi ≡ a ⊗ l.metres
  unfolding of_bits
  of-half p = product-comm l.metres pi ∙ sym (product-of-equal false m pi_less_one e pi_place l.metres (rw pi-is at p))

  by_tests : (equal below : Bool) → eq a pi ≡ equal → lt a pi ≡ below → arc_of l (from_radians a) ≡ mul_angle l (from_radians (less_halves a))
  unfolding normalised_to
  by_tests true true p q = rw (p, q) (ap from_metres (of-half p))
  by_tests true false p q = rw (q, p) (ap from_metres (of-half p))
  by_tests false true p q = rw (p, q, from_zero m e)
  by_tests false false p q = rw (p, q, from_zero m e, rem-not-below m e)

pub arc-of : (l : Length) (x : Float) → arc_of l (from_radians (magnitude x)) ≡ mul_angle l (from_radians (less_halves (magnitude x)))
unfolding normalised_to eq of_bits
arc-of l nan = refl
arc-of l (inf s) = refl
arc-of l (fin s m e) = by_tests l m e (eq (fin false m e) pi) (lt (fin false m e) pi) refl refl

-- ---- the old rule

-- what compares equal to `PI` but for its sign is `PI` or -`PI`
pi-or-minus-pi : (x : Float) → T (fits binary64 x) → eq (magnitude x) pi ≡ true → (x ≡ pi) ⊎ (x ≡ NEG_HALF_CIRCLE.radians)
unfolding eq fits of_bits neg
pi-or-minus-pi nan f h = absurd (false≢true h)
pi-or-minus-pi (inf s) f h = absurd (false≢true h)
pi-or-minus-pi (fin false m e) f h = inl (eq-same (fin false m e) false pi_less_one pi_place f tt h)
pi-or-minus-pi (fin true m e) f h = inr (ap neg (eq-same (fin false m e) false pi_less_one pi_place (neg-fits binary64 (fin true m e) f) tt h))

pub others_keep : before.OthersKeep
unfolding angle_to_distance before.angle_to_distance
others_keep s a f p n = go (eq (magnitude a.radians) pi) refl
  where
    go : (b : Bool) → eq (magnitude a.radians) pi ≡ b → angle_to_distance s a ≡ before.angle_to_distance s a
    go true e = absurd (⊎_elim (λ r. p (ap from_radians r)) (λ r. n (ap from_radians r)) (pi-or-minus-pi a.radians f e))
    go false e = rw e
