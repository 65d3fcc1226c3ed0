-- What the law of proofs/AtRest says of a target at rest. Definitions only.
use Rattle.std.specs.Prelude.{◌≡◌, Bool, true}
use Rattle.std.specs.Float.Ieee as Ieee
use Rattle.vectors.specs.Literal as literal
use Rattle.jord.specs.declared.positions.NVector.{NVector}
use Rattle.jord.specs.declared.vehicle.Vehicle.{Vehicle}
use Rattle.walks.specs.Times.{max_time_to_intercept}
use Rattle.walks.specs.declared.Outcome.TheVariants.{NotConverged}
use Rattle.jord.specs.declared.length.Length.{Length}

-- the vehicle's speed equals 0.0, as floats compare: -0.0 does, a NaN does not
abbrev pub at_rest : Vehicle → Bool
at_rest v = Ieee.eq v.speed.mps literal.zero

-- a longest time to a target at rest is refused with 13, whatever the sphere, the own ship's position and the target's
abbrev pub LongestAtRest : Type 0
LongestAtRest = (radius : Length) (interceptor : NVector) (intruder : Vehicle) → at_rest intruder ≡ true → max_time_to_intercept radius interceptor intruder ≡ NotConverged
