-- Rows of document 01's table that concern this crate, and the working of the constants that are given by their bits.
use Rattle.std.specs.Prelude.{◌≡◌, refl}
use Rattle.std.specs.Float.Ieee as Ieee
use Rattle.std.specs.Float.Ieee.{neg, of_bits, of_int}
use Rattle.patterns.specs.Operators.{◌⊗◌, ◌⊘◌, whole}
use Rattle.roots.specs.Root.{sqrt}
use Rattle.float.specs.Trig.{sin, cos, atan2}
use Rattle.vectors.specs.Literal.{one}
use Rattle.vectors.specs.Vec3.{UNIT_X}
use Rattle.vectors.specs.Mat33 as mat33
use Rattle.jord.specs.Angle as angle
use Rattle.jord.specs.Length.{from_metres}
use Rattle.jord.specs.Speed as speed
use Rattle.jord.specs.Positions.{nvector_new, nvector_to_latlong}
use Rattle.jord.specs.Vehicle as vehicle
use Rattle.jord.specs.declared.vehicle.Vehicle.{Vehicle}
use Rattle.walks.specs.Course.{course, course_rx, course_ry, course_rz}
use Rattle.walks.specs.Walk.{walk, cpa_coefficients, cpa_new, sines_at, cpa_fn, cpa_derivate, cpa_step, one_milli_hours}
use Rattle.walks.specs.Times.{time_to_cpa}
use Rattle.walks.specs.declared.Outcome.TheVariants.{ZeroDerivative}

-- "both vehicles at X with bearing and speed zero"
abbrev at_rest : Vehicle
at_rest = vehicle.new (nvector_new UNIT_X) angle.ZERO speed.ZERO

-- "Radius 1.0 ..: closest approach 12, count 1"
pub cpa-at-rest : time_to_cpa (from_metres one) at_rest at_rest ≡ ZeroDerivative 1
unfolding time_to_cpa walk course course_rx course_ry course_rz cpa_coefficients cpa_new sines_at cpa_fn cpa_derivate cpa_step
    mat33.mul mat33.vec3_mul nvector_to_latlong sqrt sin cos atan2 neg Ieee.lt Ieee.eq Ieee.add Ieee.sub Ieee.mul Ieee.div of_bits
cpa-at-rest = refl

pub one-milli-hours : one_milli_hours ≡ whole 1 ⊘ (whole 3600 ⊗ whole 1000)
unfolding Ieee.mul Ieee.div of_bits of_int
one-milli-hours = refl
