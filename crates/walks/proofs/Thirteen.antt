-- Request 2026-05: "Number 13 then means fifty steps in which no test of that walk passed", and neither more nor less. Assumes nothing.
use mathlib.Core.Path.{◌≡◌, refl, sym, ap, ◌∙◌}
use mathlib.Core.Bool.{Bool, true, false, cond, false≢true}
use mathlib.Core.Logic.{◌↔◌}
use Prim.Native.Nat.{ℕ, ◌-◌, ◌<◌}
use native.Mathlib.Omega.{arith}
use lib.Ieee as Ieee
use lib.Ieee.{Float, lt}
use Rattle.patterns.specs.Operators.{◌⊖◌, ◌⊘◌}
use Rattle.patterns.specs.Bits.{magnitude}
use Rattle.duration.specs.Duration.{from_seconds, from_hours}
use Rattle.std.specs.Prelude.{Result, Ok, Err}
use Rattle.duration.specs.declared.OutOfRange.{OutOfRange}
use Rattle.duration.specs.declared.OutOfRange.TheVariants as refused
use Rattle.vectors.specs.Literal as literal
use Rattle.jord.specs.declared.speed.Speed.{Speed}
use Rattle.jord.specs.declared.vehicle.Vehicle.{Vehicle}
use Rattle.jord.specs.declared.positions.NVector.{NVector}
use Rattle.walks.specs.Walk.{most_steps, walk, cpa_new, cpa_value, cpa_slope, cpa_step, cpa_start, one_milli_hours, chase_new, sep, intercept_epsilon}
use Rattle.walks.specs.Walk.{corrected, min_correction, int_min_step, spd_correction, int_spd_step, intercept_start}
use Rattle.walks.specs.Outcome.{number_of, of_converted, of_walk}
use Rattle.walks.specs.Times.{cpa_steps, time_to_cpa, per_second, intercept_steps, time_to_intercept, longest_steps, longest_start, max_time_to_intercept}
use Rattle.walks.specs.Counts.{time_after, goes_on, Ends, Told, CpaMoves, Moves, SpdMoves, MinMoves}
use Rattle.walks.specs.declared.Cpa.{Cpa}
use Rattle.walks.specs.declared.Chase.{Chase}
use Rattle.walks.specs.declared.Step.{Step}
use Rattle.walks.specs.declared.Step.TheVariants as step
use Rattle.walks.specs.declared.Walk.{Walk}
use Rattle.walks.specs.declared.Walk.TheVariants as walked
use Rattle.jord.specs.declared.length.Length.{Length}
use Rattle.walks.proofs.Counts.{outcome-tells-steps}

-- ---- a step goes on exactly where no test passes

not-accepted : (b : Bool) (t : Float) (s : Step) → goes_on (cond b (step.Accepted t) s) ≡ true → (b ≡ false) × (goes_on s ≡ true)
not-accepted true t s e = absurd (false≢true e)
not-accepted false t s e = (refl, e)

not-flat : (b : Bool) (s : Step) → goes_on (cond b step.ZeroDerivative s) ≡ true → (b ≡ false) × (goes_on s ≡ true)
not-flat true s e = absurd (false≢true e)
not-flat false s e = (refl, e)

cpa-moves : (k : Cpa) (x : Float) → goes_on (cpa_step k x) ≡ true ↔ CpaMoves k x
unfolding cpa_step
cpa-moves k x = (to, λ h. rw (h.steep, h.not_small))
  where
    to : goes_on (cpa_step k x) ≡ true → CpaMoves k x
    to e =
        let m = cpa_value k x ⊘ cpa_slope k x in
        let small = lt (magnitude m) one_milli_hours in
        let a = not-flat (Ieee.eq (cpa_slope k x) literal.zero) (cond small (step.Accepted x) (step.Next (x ⊖ m))) e in
        record { steep = a.0; not_small = (not-accepted small x (step.Next (x ⊖ m)) a.1).0 }

moves : (t fi : Float) → goes_on (corrected t fi) ≡ true ↔ Moves t fi
unfolding corrected
moves t fi = (to, λ h. rw (h.not_small, h.moved))
  where
    to : goes_on (corrected t fi) ≡ true → Moves t fi
    to e =
        let a = not-accepted (lt (magnitude fi) intercept_epsilon) (t ⊖ fi) (cond (Ieee.eq (t ⊖ fi) t) (step.Accepted (t ⊖ fi)) (step.Next (t ⊖ fi))) e in
        record { not_small = a.0; moved = (not-accepted (Ieee.eq (t ⊖ fi) t) (t ⊖ fi) (step.Next (t ⊖ fi)) a.1).0 }

spd-moves : (k : Chase) (w1 t : Float) → goes_on (int_spd_step k w1 t) ≡ true ↔ SpdMoves k w1 t
unfolding int_spd_step
spd-moves k w1 t = moves t (spd_correction k w1 t)

min-moves : (k : Chase) (t : Float) → goes_on (int_min_step k t) ≡ true ↔ MinMoves k t
unfolding int_min_step
min-moves k t = (to, λ h. rw h.apart ((moves t (min_correction k t)).1 h.moves))
  where
    to : goes_on (int_min_step k t) ≡ true → MinMoves k t
    to e =
        let a = not-accepted (Ieee.eq (sep k t) literal.zero) t (corrected t (min_correction k t)) e in
        record { apart = a.0; moves = (moves t (min_correction k t)).0 a.1 }

-- ---- a walk says 13 exactly where fifty steps go on

went_on : (duration : Float → Result ℕ OutOfRange) (f : Float → Step) (t : Float) (w : Walk) → Told f t w → number_of (of_walk duration w) ≡ 13
    → (i : ℕ) → i < most_steps → goes_on (f (time_after f t i)) ≡ true
went_on duration f t (walked.Accepted u count) r e i l = absurd (spans (duration u) e)
  where
    spans : (s : Result ℕ OutOfRange) → number_of (of_converted s count) ≡ 13 → ⊥
    spans (Ok ns) e = omega arith
    spans (Err refused.Negative) e = omega arith
    spans (Err refused.TooLong) e = omega arith
went_on duration f t (walked.ZeroDerivative count) r e i l = absurd (twelve e)
  where
    twelve : ◌≡◌ {A = ℕ} 12 13 → ⊥
    twelve e = omega arith
went_on duration f t walked.NotConverged r e i l = r i l

-- a step that ends the walk is among the fifty, and does not go on
ended : (f : Float → Step) (t : Float) (count : ℕ) (s : Step) → Ends f t count s → goes_on s ≡ false
    → ((i : ℕ) → i < most_steps → goes_on (f (time_after f t i)) ≡ true) → ⊥
ended f t count s r e h =
    let some = r.counted.some in
    let most = r.counted.most in
    false≢true (sym e ∙ sym (ap goes_on r.finds) ∙ h (count - 1) (omega arith))

spent : (duration : Float → Result ℕ OutOfRange) (f : Float → Step) (t : Float) (w : Walk) → Told f t w
    → ((i : ℕ) → i < most_steps → goes_on (f (time_after f t i)) ≡ true) → number_of (of_walk duration w) ≡ 13
spent duration f t (walked.Accepted u count) r h = absurd (ended f t count (step.Accepted u) r refl h)
spent duration f t (walked.ZeroDerivative count) r h = absurd (ended f t count step.ZeroDerivative r refl h)
spent duration f t walked.NotConverged r h = refl

means : (duration : Float → Result ℕ OutOfRange) (f : Float → Step) (t : Float) (Moving : Float → Type 0) → ((u : Float) → goes_on (f u) ≡ true ↔ Moving u)
    → number_of (of_walk duration (walk f most_steps t)) ≡ 13 ↔ ((i : ℕ) → i < most_steps → Moving (time_after f t i))
means duration f t Moving m =
    let w = walk f most_steps t in (
      λ e i l. (m (time_after f t i)).0 (went_on duration f t w (outcome-tells-steps f t) e i l),
      λ h. spent duration f t w (outcome-tells-steps f t) (λ i l. (m (time_after f t i)).1 (h i l)),
    )

pub thirteen-cpa : (radius : Length) (own int : Vehicle)
    → number_of (time_to_cpa radius own int) ≡ 13
    ↔ ((i : ℕ) → i < most_steps → CpaMoves (cpa_new radius own int) (time_after (cpa_steps radius own int) cpa_start i))
unfolding time_to_cpa
thirteen-cpa radius own int =
    let k = cpa_new radius own int in
    means from_hours (cpa_steps radius own int) cpa_start (CpaMoves k) (cpa-moves k)

pub thirteen-intercept : (radius : Length) (p : NVector) (v : Speed) (int : Vehicle)
    → number_of (time_to_intercept radius p v int) ≡ 13
    ↔ ((i : ℕ) → i < most_steps → SpdMoves (chase_new radius p int) (per_second radius v) (time_after (intercept_steps radius p v int) intercept_start i))
unfolding time_to_intercept
thirteen-intercept radius p v int =
    let k = chase_new radius p int in
    means from_seconds (intercept_steps radius p v int) intercept_start (SpdMoves k (per_second radius v)) (spd-moves k (per_second radius v))

pub thirteen-longest : (radius : Length) (p : NVector) (int : Vehicle)
    → number_of (max_time_to_intercept radius p int) ≡ 13
    ↔ ((i : ℕ) → i < most_steps → MinMoves (chase_new radius p int) (time_after (longest_steps radius p int) (longest_start radius p int) i))
unfolding max_time_to_intercept
thirteen-longest radius p int =
    let k = chase_new radius p int in
    means from_seconds (longest_steps radius p int) (longest_start radius p int) (MinMoves k) (min-moves k)
