-- Request 2026-05: "The zero-separation test of the first stays ahead". It does, and no float shows it: where the separation is zero the
-- correction is a NaN, which passes no other test. Assumes nothing.
use mathlib.Core.Path.{◌≡◌, refl, sym, ap, ◌∙◌}
use mathlib.Core.Bool.{Bool, true, false, cond, false≢true}
use mathlib.Core.Logic.{◌⊎◌, inl, inr, ⊎_elim}
use Prim.Native.Nat.{zero, suc}
use lib.Dec.{T}
use lib.IntN.{pos}
use lib.Ieee.{Float, nan, inf, fin, binary64, add, sub, div, neg, eq, lt, fits, of_bits}
use Rattle.patterns.specs.Operators.{◌⊕◌, ◌⊖◌, ◌⊗◌, ◌⊘◌}
use Rattle.patterns.specs.Bits.{magnitude}
use Rattle.float.specs.Trig.{sin}
use Rattle.patterns.proofs.NonFinite.{non_finite, mul-non-finite, non-finite-mul, sub-non-finite, div-non-finite}
use Rattle.float.proofs.Tangent.{atan2-fits}
use Rattle.vectors.specs.Literal as literal
use Rattle.patterns.proofs.Held.{zero_exponent}
use Rattle.walks.specs.Walk.{sep, intercept_epsilon, corrected, min_quotient, min_correction_at, min_correction, int_min_step}
use Rattle.walks.specs.declared.Chase.{Chase}
use Rattle.walks.specs.declared.Step.TheVariants as step
use Rattle.walks.proofs.Counts.{cond_same}
use Rattle.walks.proofs.Still.{not-zero}

-- ---- a zero

-- a value that equals zero is one of the two
zero_is : (x : Float) → T (fits binary64 x) → eq x literal.zero ≡ true → (x ≡ fin true 0 (pos 0)) ⊎ (x ≡ fin false 0 (pos 0))
unfolding eq of_bits
zero_is nan f h = absurd (false≢true h)
zero_is (inf s) f h = absurd (false≢true h)
zero_is (fin true zero e) f h = inl (ap (fin true 0) (zero_exponent true e f))
zero_is (fin false zero e) f h = inr (ap (fin false 0) (zero_exponent false e f))
zero_is (fin s (suc m) e) f h = absurd (not-zero s false m e h)

-- -1.0 / sin si there
slope-non-finite : (s : Bool) → non_finite (neg literal.one ⊘ sin (fin s 0 (pos 0))) ≡ true
unfolding sin neg div of_bits
slope-non-finite true = refl
slope-non-finite false = refl

-- ---- where the separation is zero

quotient-nan : (t si a b v v2 : Float) → non_finite a ≡ true → min_quotient t si a b v v2 ≡ nan
quotient-nan t si a b v v2 h =
    div-non-finite (t ⊗ a ⊗ v ⊖ si) (t ⊗ (a ⊗ (b ⊗ v ⊗ v ⊕ v2)))
    (sub-non-finite (t ⊗ a ⊗ v) si (mul-non-finite (t ⊗ a) v (non-finite-mul t a h)))
    (non-finite-mul t _ (mul-non-finite a _ h))

at_zero : (t v v2 : Float) (s : Bool) → min_correction_at t (fin s 0 (pos 0)) v v2 ≡ nan
at_zero t v v2 s = quotient-nan t (fin s 0 (pos 0)) _ _ v v2 (slope-non-finite s)

sep-fits : (k : Chase) (t : Float) → T (fits binary64 (sep k t))
unfolding sep
sep-fits k t = atan2-fits _ _

pub correction-nan : (k : Chase) (t : Float) → eq (sep k t) literal.zero ≡ true → min_correction k t ≡ nan
correction-nan k t h = ⊎_elim (λ e. rw e (at_zero t _ _ true)) (λ e. rw e (at_zero t _ _ false)) (zero_is (sep k t) (sep-fits k t) h)

-- ---- the order of the tests

nan-moves : (t : Float) → eq (t ⊖ nan) t ≡ false
unfolding eq sub add neg
nan-moves nan = refl
nan-moves (inf s) = refl
nan-moves (fin s m e) = refl

ordered : (t fi si : Float) (b c : Bool) → eq si literal.zero ≡ b → eq (t ⊖ fi) t ≡ c → (eq si literal.zero ≡ true → fi ≡ nan)
    → cond (eq si literal.zero) (step.Accepted t) (corrected t fi)
    ≡ cond (eq (t ⊖ fi) t) (step.Accepted (t ⊖ fi)) (cond (eq si literal.zero) (step.Accepted t) (corrected t fi))
unfolding corrected
ordered t fi si b false p q h = rw q
ordered t fi si true true p q h = absurd (false≢true (sym (nan-moves t) ∙ (rw (h p) at q)))
ordered t fi si false true p q h = rw (p, q) (cond_same (lt (magnitude fi) intercept_epsilon) (step.Accepted (t ⊖ fi)))

-- the test whether the time moves, put before that of a zero separation, makes the same step
pub order-free : (k : Chase) (t : Float)
    → int_min_step k t
    ≡ cond (eq (t ⊖ min_correction k t) t) (step.Accepted (t ⊖ min_correction k t))
    (cond (eq (sep k t) literal.zero) (step.Accepted t) (corrected t (min_correction k t)))
unfolding int_min_step
order-free k t = ordered t (min_correction k t) (sep k t) _ _ refl refl (correction-nan k t)
