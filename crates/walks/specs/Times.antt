-- The three times of sphere.rs on a sphere of a radius: `time_to_cpa`, `time_to_intercept` and `max_time_to_intercept`. Definitions only.
use Rattle.std.specs.Prelude.{Float}
use Rattle.patterns.specs.Operators.{◌⊘◌}
use Rattle.jord.specs.declared.length.Length.{Length}
use Rattle.jord.specs.declared.positions.NVector.{NVector}
use Rattle.jord.specs.declared.speed.Speed.{Speed}
use Rattle.jord.specs.declared.vehicle.Vehicle.{Vehicle}
use Rattle.walks.specs.Walk.{cpa_new, cpa_step, newton_raphson, chase_new, chase_start, int_min_step, int_min_nr_rec, int_spd_step, int_spd_nr_rec, intercept_start}
use Rattle.walks.specs.Outcome.{of_seconds, of_hours}
use Rattle.walks.specs.declared.Step.{Step}
use Rattle.walks.specs.declared.Walk.{Walk}
use Rattle.walks.specs.declared.Outcome.{Outcome}

-- ---- the closest approach, over hours

abbrev pub cpa_steps : Length → Vehicle → Vehicle → Float → Step
cpa_steps radius own int = cpa_step (cpa_new radius own int)

abbrev pub cpa_walk : Length → Vehicle → Vehicle → Walk
cpa_walk radius own int = newton_raphson (cpa_new radius own int)

unfoldable pub time_to_cpa : Length → Vehicle → Vehicle → Outcome
time_to_cpa radius own int = of_hours (cpa_walk radius own int)

-- ---- the intercept at a given speed, over seconds

-- w1 = intercept_speed_mps / r_m
abbrev pub per_second : Length → Speed → Float
per_second radius speed = speed.mps ⊘ radius.metres

abbrev pub intercept_steps : Length → NVector → Speed → Vehicle → Float → Step
intercept_steps radius interceptor speed intruder = int_spd_step (chase_new radius interceptor intruder) (per_second radius speed)

abbrev pub intercept_walk : Length → NVector → Speed → Vehicle → Walk
intercept_walk radius interceptor speed intruder =
    int_spd_nr_rec (chase_new radius interceptor intruder) (per_second radius speed) intercept_start 0

unfoldable pub time_to_intercept : Length → NVector → Speed → Vehicle → Outcome
time_to_intercept radius interceptor speed intruder = of_seconds (intercept_walk radius interceptor speed intruder)

-- ---- the longest intercept, over seconds

abbrev pub longest_steps : Length → NVector → Vehicle → Float → Step
longest_steps radius interceptor intruder = int_min_step (chase_new radius interceptor intruder)

abbrev pub longest_start : Length → NVector → Vehicle → Float
longest_start radius interceptor intruder = chase_start (chase_new radius interceptor intruder)

abbrev pub longest_walk : Length → NVector → Vehicle → Walk
longest_walk radius interceptor intruder = int_min_nr_rec (chase_new radius interceptor intruder) (longest_start radius interceptor intruder) 0

unfoldable pub max_time_to_intercept : Length → NVector → Vehicle → Outcome
max_time_to_intercept radius interceptor intruder = of_seconds (longest_walk radius interceptor intruder)
