-- What the law of proofs/OneAngle says of the angles that a step to an intercept takes. Definitions only.
use Rattle.std.specs.Prelude.{◌≡◌, Float}
use Rattle.patterns.specs.Operators.{◌⊗◌, ◌⊘◌}
use Rattle.jord.specs.declared.length.Length.{Length}
use Rattle.jord.specs.declared.positions.NVector.{NVector}
use Rattle.jord.specs.declared.vehicle.Vehicle.{Vehicle}
use Rattle.walks.specs.Walk.{chase_new}
use Rattle.walks.specs.declared.Chase.{Chase}

-- the angle of `pos`, mps / radius_m * t_secs, and that of the derivatives, w2 * t_secs, are one float
abbrev pub OneAngleOf : Chase → Float → Type 0
OneAngleOf k t = k.s2 ⊘ k.radius ⊗ t ≡ k.w2 ⊗ t

-- whatever the radius, the own ship's position and the target, at any time: in `time_to_intercept` and in `max_time_to_intercept`
abbrev pub OneAngle : Type 0
OneAngle = (radius : Length) (interceptor : NVector) (intruder : Vehicle) (t : Float) → OneAngleOf (chase_new radius interceptor intruder) t
