-- A longest time to a target at rest is refused with 13: the walk starts at a quotient by zero, which is infinite or a NaN, the target's
-- angular speed is a zero or a NaN, and so their product, the separation and every time from the second on are NaNs. Assumes nothing.
use mathlib.Core.Path.{◌≡◌, refl, ap}
use mathlib.Core.Bool.{Bool, true, false, false≢true}
use Prim.Native.Nat.{ℕ, zero, suc, ◌*◌}
use native.Mathlib.Nat.{zero-mul, mul-pos, zero-lt-suc}
use lib.Dec.{eqb-suc-zero}
use lib.IntN.{ℤ, pos}
use lib.Ieee.{Float, nan, inf, fin, binary64, up, down, round, add, sub, mul, div, neg, eq, lt, unlike, of_bits}
use lib.Ieee.Fits.{down_pos}
use lib.Ieee.Scale.{round_same}
use Rattle.patterns.specs.Operators.{◌⊕◌, ◌⊖◌, ◌⊗◌, ◌⊘◌}
use Rattle.float.specs.Trig.{atan2}
use Rattle.float.specs.Table.{cosine-of-nan, sine-of-nan}
use Rattle.patterns.proofs.NonFinite.{non_finite}
use Rattle.vectors.specs.Literal as literal
use Rattle.patterns.proofs.Held.{above_zero}
use Rattle.walks.specs.Walk as walks
use Rattle.walks.specs.Walk.{most_steps, walk, chase_new, chase_start, sep, corrected, min_correction_at, int_min_step}
use Rattle.walks.specs.Outcome.{of_seconds}
use Rattle.walks.specs.Times.{max_time_to_intercept}
use Rattle.walks.specs.AtRest.{LongestAtRest}
use Rattle.walks.specs.declared.Chase.{Chase}
use Rattle.walks.specs.declared.Step.{Step}
use Rattle.walks.specs.declared.Step.TheVariants as step
use Rattle.walks.specs.declared.Walk.TheVariants.{NotConverged}
use Rattle.walks.proofs.Still.{not-zero}

-- ---- a NaN goes through

add-nan : (x : Float) → x ⊕ nan ≡ nan
unfolding add
add-nan nan = refl
add-nan (inf s) = refl
add-nan (fin s m e) = refl

sub-nan : (x : Float) → x ⊖ nan ≡ nan
unfolding sub neg
sub-nan x = add-nan x

mul-nan : (x : Float) → x ⊗ nan ≡ nan
unfolding mul
mul-nan nan = refl
mul-nan (inf s) = refl
mul-nan (fin s m e) = refl

nan-div : (x : Float) → nan ⊘ x ≡ nan
unfolding div
nan-div x = refl

atan2-nan : (y : Float) → atan2 y nan ≡ nan
unfolding atan2
atan2-nan nan = refl
atan2-nan (inf s) = refl
atan2-nan (fin s m e) = refl

-- ---- a step where the angle that the target has moved is a NaN

sep-nan : (k : Chase) (t : Float) → k.s2 ⊘ k.radius ⊗ t ≡ nan → sep k t ≡ nan
unfolding sep walks.pos
sep-nan k t h = rw h (simp (cosine-of-nan, sine-of-nan, mul-nan, add-nan, atan2-nan))

correction-of-nan : (t v v2 : Float) → min_correction_at t nan v v2 ≡ nan
correction-of-nan t v v2 = simp (sub-nan, nan-div)

corrected-nan : (t : Float) → corrected t nan ≡ step.Next nan
unfolding corrected lt eq
corrected-nan t = rw (sub-nan t)

next-nan : (k : Chase) (t : Float) → k.s2 ⊘ k.radius ⊗ t ≡ nan → int_min_step k t ≡ step.Next nan
unfolding int_min_step eq
next-nan k t h = rw (sep-nan k t h, correction-of-nan) (corrected-nan t)

-- ---- a walk whose times become NaNs

not-converged : (f : Float → Step) (n : ℕ) (t : Float) → f nan ≡ step.Next nan → f t ≡ step.Next nan → walk f n t ≡ NotConverged
unfolding walk
not-converged f zero t a b = refl
not-converged f (suc n) t a b = rw b (not-converged f n nan a a)

-- ---- a target at rest

zero-times : (s : Bool) (t : Float) → non_finite t ≡ true → fin s 0 (pos 0) ⊗ t ≡ nan
unfolding mul
zero-times s nan h = refl
zero-times s (inf u) h = refl
zero-times s (fin u m e) h = absurd (false≢true h)

zero-rounded : (s : Bool) (n : ℕ) (e d : ℤ) → round binary64 s (0 * up e * down d) (suc n * up d * down e) ≡ fin s 0 (pos 0)
unfolding round
zero-rounded s n e d =
    round_same binary64 s (0 * up e * down d) (suc n * up d * down e) 0 1 (mul-pos (above_zero n d) (down_pos e)) (zero-lt-suc 0) (simp zero-mul)

-- a zero over any radius is a zero or a NaN
zero-over : (s : Bool) (e : ℤ) (r t : Float) → non_finite t ≡ true → fin s 0 e ⊘ r ⊗ t ≡ nan
unfolding div mul
zero-over s e nan t h = refl
zero-over s e (inf u) t h = zero-times (unlike s u) t h
zero-over s e (fin u zero d) t h = refl
zero-over s e (fin u (suc n) d) t h = rw (eqb-suc-zero n, zero-rounded (unlike s u) n e d) (zero-times (unlike s u) t h)

over_zero : (s : Bool) (e : ℤ) (x : Float) → non_finite (x ⊘ fin s 0 e) ≡ true
unfolding div
over_zero s e nan = refl
over_zero s e (inf u) = refl
over_zero s e (fin u zero d) = refl
over_zero s e (fin u (suc m) d) = rw (eqb-suc-zero m)

-- the angle at the walk's start, x being the distance
start-nan : (s2 r x : Float) → eq s2 literal.zero ≡ true → s2 ⊘ r ⊗ (x ⊘ s2) ≡ nan
unfolding eq of_bits
start-nan nan r x h = absurd (false≢true h)
start-nan (inf s) r x h = absurd (false≢true h)
start-nan (fin s zero e) r x h = zero-over s e r (x ⊘ fin s 0 e) (over_zero s e x)
start-nan (fin s (suc m) e) r x h = absurd (not-zero s false m e h)

pub longest-at-rest : LongestAtRest
unfolding max_time_to_intercept chase_new chase_start
longest-at-rest radius p v h =
    let k = chase_new radius p v in
    ap of_seconds (not-converged (int_min_step k) most_steps (chase_start k) (next-nan k nan (mul-nan _)) (next-nan k (chase_start k) (start-nan k.s2 k.radius _ h)))
