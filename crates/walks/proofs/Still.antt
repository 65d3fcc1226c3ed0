-- A correction that leaves a time where it was, as floats compare, leaves that very value, unless it is below 1e-11: of values that
-- compare equal only the two zeros differ, and a zero less anything but a zero is none. Assumes nothing.
use mathlib.Core.Path.{◌≡◌, refl, sym, ◌∙◌}
use mathlib.Core.Bool.{Bool, true, false, not, false≢true}
use Prim.Native.Nat.{ℕ, zero, suc, ◌*◌, ◌<◌}
use native.Mathlib.Nat.{zero-mul, mul-pos, zero-lt-suc}
use native.Mathlib.Omega.{arith}
use borrow.Author.Tests.{eqb-true}
use lib.Dec.{T, eqb}
use lib.IntN.{ℤ, pos}
use lib.Ieee.{Float, nan, inf, fin, binary64, up, down, add, sub, neg, eq, lt, level, fits, of_bits}
use lib.Ieee.Fits.{sub-fits, neg-fits}
use Rattle.patterns.specs.Operators.{◌⊖◌}
use Rattle.patterns.specs.Bits.{magnitude}
use Rattle.patterns.proofs.Held.{both_hold, zero_exponent, above_zero, eq-same}
use Rattle.vectors.proofs.PlusZero.{zero-plus}
use Rattle.walks.specs.Walk.{intercept_epsilon}

-- ---- a zero less a correction

zero-less : (s u : Bool) (n : ℕ) (d : ℤ) → T (fits binary64 (fin u (suc n) d)) → fin s 0 (pos 0) ⊖ fin u (suc n) d ≡ fin (not u) (suc n) d
unfolding sub neg
zero-less s u n d f = zero-plus s (not u) n d (neg-fits binary64 (fin u (suc n) d) f)

level-zero : (s t : Bool) (a b : ℕ) → 0 < a → b ≡ 0 → level s a t b ≡ true → ⊥
level-zero s t a b h z e = omega (arith, eqb-true a b (both_hold (eqb a b) _ e).0)

-- only the two zeros equal a zero
pub not-zero : (s t : Bool) (m : ℕ) (e : ℤ) → eq (fin s (suc m) e) (fin t 0 (pos 0)) ≡ true → ⊥
unfolding eq
not-zero s t m e h = level-zero s t (suc m * up e * 1) (0 * down e) (mul-pos (above_zero m e) (zero-lt-suc 0)) (zero-mul (down e)) h

-- a zero that a correction leaves a zero: the correction is a zero
zero-still : (s : Bool) (fi : Float) → T (fits binary64 fi) → eq (fin s 0 (pos 0) ⊖ fi) (fin s 0 (pos 0)) ≡ true → lt (magnitude fi) intercept_epsilon ≡ true
unfolding eq sub add neg lt of_bits
zero-still s nan f h = absurd (false≢true h)
zero-still s (inf u) f h = absurd (false≢true h)
zero-still s (fin u zero d) f h = rw (zero_exponent u d f)
zero-still s (fin u (suc n) d) f h = absurd (not-zero (not u) s n d (rw (zero-less s u n d f) at h))

-- ---- a time that a correction leaves where it was

infinite-still : (s : Bool) (fi : Float) → eq (inf s ⊖ fi) (inf s) ≡ true → inf s ⊖ fi ≡ inf s
unfolding eq sub add neg
infinite-still s nan h = absurd (false≢true h)
infinite-still true (inf true) h = absurd (false≢true h)
infinite-still true (inf false) h = refl
infinite-still false (inf true) h = refl
infinite-still false (inf false) h = absurd (false≢true h)
infinite-still s (fin u n d) h = refl

pub still : (t fi : Float) → T (fits binary64 t) → T (fits binary64 fi) → lt (magnitude fi) intercept_epsilon ≡ false → eq (t ⊖ fi) t ≡ true → t ⊖ fi ≡ t
unfolding sub add
still nan fi f g l h = refl
still (inf s) fi f g l h = infinite-still s fi h
still (fin s zero e) fi f g l h = absurd (false≢true (sym l ∙ zero-still s fi g (rw (zero_exponent s e f) at h)))
still (fin s (suc m) e) fi f g l h = eq-same (fin s (suc m) e ⊖ fi) s m e (sub-fits binary64 (fin s (suc m) e) fi) f h
