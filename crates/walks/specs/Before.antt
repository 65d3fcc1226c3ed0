-- The walks to an intercept before request 2026-05, and what of their answers the request keeps. Definitions only.
-- Before it a corrected time was accepted for a correction below 1e-11 alone. All else is as in Walk and Times.
use Rattle.std.specs.Prelude.{ℕ, ◌-◌, cond, ◌≢◌, ◌≡◌, T, Float}
use Rattle.std.specs.Float.Ieee as Ieee
use Rattle.std.specs.Float.{binary64}
use Rattle.std.specs.Float.Ieee.{fits, lt}
use Rattle.patterns.specs.Operators.{◌⊖◌}
use Rattle.patterns.specs.Bits.{magnitude}
use Rattle.vectors.specs.Literal as literal
use Rattle.jord.specs.declared.speed.Speed.{Speed}
use Rattle.jord.specs.declared.vehicle.Vehicle.{Vehicle}
use Rattle.jord.specs.declared.positions.NVector.{NVector}
use Rattle.walks.specs.Walk as walks
use Rattle.walks.specs.Walk.{most_steps, walk, chase_new, sep, intercept_epsilon, min_correction, spd_correction, intercept_start}
use Rattle.walks.specs.Outcome.{number_of, of_seconds}
use Rattle.walks.specs.Times as times
use Rattle.walks.specs.Times.{per_second, longest_start}
use Rattle.walks.specs.declared.Chase.{Chase}
use Rattle.walks.specs.declared.Step.{Step}
use Rattle.walks.specs.declared.Step.TheVariants as step
use Rattle.walks.specs.declared.Walk.{Walk}
use Rattle.walks.specs.declared.Walk.TheVariants.{NotConverged}
use Rattle.walks.specs.declared.Outcome.{Outcome}
use Rattle.jord.specs.declared.length.Length.{Length}

-- ---- the old rule

-- "a correction below 1e-11 (the corrected time)", else "the next time"
unfoldable pub corrected : Float → Float → Step
corrected t fi = cond (lt (magnitude fi) intercept_epsilon) (step.Accepted (t ⊖ fi)) (step.Next (t ⊖ fi))

unfoldable pub int_min_step : Chase → Float → Step
int_min_step k t = cond (Ieee.eq (sep k t) literal.zero) (step.Accepted t) (corrected t (min_correction k t))

abbrev pub int_min_nr_rec : Chase → Float → ℕ → Walk
int_min_nr_rec k t i = walk (int_min_step k) (most_steps - i) t

unfoldable pub int_spd_step : Chase → Float → Float → Step
int_spd_step k w1 t = corrected t (spd_correction k w1 t)

abbrev pub int_spd_nr_rec : Chase → Float → Float → ℕ → Walk
int_spd_nr_rec k w1 t i = walk (int_spd_step k w1) (most_steps - i) t

unfoldable pub time_to_intercept : Length → NVector → Speed → Vehicle → Outcome
time_to_intercept radius interceptor speed intruder =
    of_seconds (int_spd_nr_rec (chase_new radius interceptor intruder) (per_second radius speed) intercept_start 0)

unfoldable pub max_time_to_intercept : Length → NVector → Vehicle → Outcome
max_time_to_intercept radius interceptor intruder =
    of_seconds (int_min_nr_rec (chase_new radius interceptor intruder) (longest_start radius interceptor intruder) 0)

-- ---- "Each time that the old rule finds, for any input, must come out equal, with an equal count"

-- of outcomes: whatever the old rule answered, but for 13, is answered; so a found time with its nanoseconds and its count
abbrev pub Keeps : Outcome → Outcome → Type 0
Keeps before now = number_of before ≢ 13 → now ≡ before

-- of walks: whatever the old rule came to, but for no time within its steps
abbrev pub KeepsWalk : Walk → Walk → Type 0
KeepsWalk before now = before ≢ NotConverged → now ≡ before

-- for any radius, positions, speeds and bearings; and for any coefficients, from any time that f64 holds, after any number of steps
pub record FarMeetings : Type 0 where
  pub intercept : (radius : Length) (p : NVector) (v : Speed) (int : Vehicle) → Keeps (time_to_intercept radius p v int) (times.time_to_intercept radius p v int)
  pub longest : (radius : Length) (p : NVector) (int : Vehicle) → Keeps (max_time_to_intercept radius p int) (times.max_time_to_intercept radius p int)
  pub int_spd : (k : Chase) (w1 t : Float) (i : ℕ) → T (fits binary64 t) → KeepsWalk (int_spd_nr_rec k w1 t i) (walks.int_spd_nr_rec k w1 t i)
  pub int_min : (k : Chase) (t : Float) (i : ℕ) → T (fits binary64 t) → KeepsWalk (int_min_nr_rec k t i) (walks.int_min_nr_rec k t i)
