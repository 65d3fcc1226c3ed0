-- 0.0 + x is x, but for -0, of which it makes +0; a zero of either sign and an x that is not zero are x. Assumes nothing.
use mathlib.Core.Path.{◌≡◌, refl, sym, ap, ◌∙◌}
use Prim.Native.Nat.{ℕ, zero, suc, ◌*◌, ◌<◌}
use native.Mathlib.Nat.{zero-mul, zero-add, mul-one, one-mul, sub-zero, lt_irrefl}
use mathlib.Core.Bool.{Bool, true, false, cond}
use borrow.Author.Tests.{lt-ltb}
use lib.Dec.{T, eqb-suc-zero}
use lib.IntN.{ℤ, pos}
use lib.Ieee.{Float, nan, inf, fin, binary64, up, down, round, sum, add, neg, eq, level, fits, of_bits}
use Rattle.patterns.specs.Operators.{◌⊕◌}
use Rattle.patterns.proofs.Held.{round-held, zero_exponent, above_zero}
use Rattle.vectors.specs.Literal as literal
use Rattle.vectors.specs.Zero.{is_minus_zero}

of_zero : (s : Bool) → literal.zero ⊕ fin s 0 (pos 0) ≡ cond (is_minus_zero (fin s 0 (pos 0))) literal.zero (fin s 0 (pos 0))
unfolding add eq of_bits
of_zero true = refl
of_zero false = refl

-- the other finite values are not -0
not-zero : (s : Bool) (m : ℕ) (e : ℤ) → is_minus_zero (fin s (suc m) e) ≡ false
unfolding eq of_bits
not-zero false m e = refl
not-zero true m e = rw (zero-mul (down e), mul-one (suc m * up e)) (go (suc m * up e) (above_zero m e))
  where
    go : (n : ℕ) → 0 < n → level true n false 0 ≡ false
    go zero h = absurd (lt_irrefl 0 h)
    go (suc n) h = rw eqb-suc-zero

-- nothing and a number above it
from_zero : (s t : Bool) (b c : ℕ) → 0 < b → sum binary64 s 0 t b c ≡ round binary64 t b c
unfolding sum
from_zero true true b c h = rw (zero-add b)
from_zero false false b c h = rw (zero-add b)
from_zero true false b c h = rw (lt-ltb 0 b h, sub-zero b)
from_zero false true b c h = rw (lt-ltb 0 b h, sub-zero b)

-- a zero of either sign and a value that is not zero: that value
pub zero-plus : (s t : Bool) (m : ℕ) (e : ℤ) → T (fits binary64 (fin t (suc m) e)) → fin s 0 (pos 0) ⊕ fin t (suc m) e ≡ fin t (suc m) e
unfolding add
zero-plus s t m e f = simp (zero-mul, mul-one, one-mul) (from_zero s t (suc m * up e) (down e) (above_zero m e) ∙ round-held t (suc m) e f)

of_other : (s : Bool) (m : ℕ) (e : ℤ) → T (fits binary64 (fin s (suc m) e)) → literal.zero ⊕ fin s (suc m) e ≡ fin s (suc m) e
unfolding of_bits
of_other s m e f = zero-plus false s m e f

pub plus-zero : (x : Float) → T (fits binary64 x) → literal.zero ⊕ x ≡ cond (is_minus_zero x) literal.zero x
unfolding add eq of_bits
plus-zero nan f = refl
plus-zero (inf true) f = refl
plus-zero (inf false) f = refl
plus-zero (fin s zero e) f = rw (zero_exponent s e f) (of_zero s)
plus-zero (fin s (suc m) e) f = of_other s m e f ∙ ap (λ (b : Bool). cond b literal.zero (fin s (suc m) e)) (sym (not-zero s m e))

-- 0.0 + x is never -0
zero-plain : is_minus_zero literal.zero ≡ false
unfolding eq of_bits
zero-plain = refl

pub no_minus_zero : (x : Float) → T (fits binary64 x) → is_minus_zero (literal.zero ⊕ x) ≡ false
no_minus_zero x f = rw (plus-zero x f) (go (is_minus_zero x) refl)
  where
    go : (b : Bool) → is_minus_zero x ≡ b → is_minus_zero (cond b literal.zero x) ≡ false
    go true e = zero-plain
    go false e = e

-- 0.0 plus x is x where x is not -0.0
pub kept : (x : Float) → T (fits binary64 x) → is_minus_zero x ≡ false → literal.zero ⊕ x ≡ x
kept x f n = plus-zero x f ∙ ap (λ (b : Bool). cond b literal.zero x) n

-- ---- negated and added to 0.0, twice over: no more than 0.0 + x
twice-of-zero : (s : Bool) → literal.zero ⊕ neg (literal.zero ⊕ neg (fin s 0 (pos 0))) ≡ literal.zero ⊕ fin s 0 (pos 0)
unfolding add neg of_bits
twice-of-zero true = refl
twice-of-zero false = refl

twice-of-other : (s : Bool) (m : ℕ) (e : ℤ) → T (fits binary64 (fin s (suc m) e)) → literal.zero ⊕ neg (literal.zero ⊕ neg (fin s (suc m) e)) ≡ literal.zero ⊕ fin s (suc m) e
unfolding neg fits
twice-of-other true m e f = ap (λ (y : Float). literal.zero ⊕ neg y) (of_other false m e f)
twice-of-other false m e f = ap (λ (y : Float). literal.zero ⊕ neg y) (of_other true m e f)

pub twice : (x : Float) → T (fits binary64 x) → literal.zero ⊕ neg (literal.zero ⊕ neg x) ≡ literal.zero ⊕ x
unfolding add neg of_bits
twice nan f = refl
twice (inf true) f = refl
twice (inf false) f = refl
twice (fin s zero e) f = rw (zero_exponent s e f) (twice-of-zero s)
twice (fin s (suc m) e) f = twice-of-other s m e f
