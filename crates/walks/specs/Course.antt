-- `course` of sphere.rs: the unit vector along which a vehicle heads. Definitions only.
use Rattle.std.specs.Prelude.{Float}
use Rattle.std.specs.Float.Ieee.{neg}
use Rattle.float.specs.Trig.{sin, cos}
use Rattle.vectors.specs.Literal.{zero}
use Rattle.vectors.specs.Vec3 as vec3
use Rattle.vectors.specs.Mat33 as mat33
use Rattle.jord.specs.Positions.{from_nvector}
use Rattle.vectors.specs.declared.vec3.Vec3.{Vec3}
use Rattle.vectors.specs.declared.mat33.Mat33.{Mat33}
use Rattle.jord.specs.declared.positions.LatLong.{LatLong}
use Rattle.jord.specs.declared.angle.Angle.{Angle}
use Rattle.jord.specs.declared.vehicle.Vehicle.{Vehicle}

-- Mat33::new(Vec3::UNIT_X, Vec3::new(0.0, c, s), Vec3::new(0.0, -s, c))
unfoldable pub course_rx : Float → Mat33
course_rx theta =
    mat33.new vec3.UNIT_X
    (vec3.new zero (cos theta) (sin theta))
    (vec3.new zero (neg (sin theta)) (cos theta))

-- Mat33::new(Vec3::new(c, 0.0, -s), Vec3::UNIT_Y, Vec3::new(s, 0.0, c))
unfoldable pub course_ry : Float → Mat33
course_ry theta =
    mat33.new (vec3.new (cos theta) zero (neg (sin theta)))
    vec3.UNIT_Y
    (vec3.new (sin theta) zero (cos theta))

-- Mat33::new(Vec3::new(c, s, 0.0), Vec3::new(-s, c, 0.0), Vec3::UNIT_Z)
unfoldable pub course_rz : Float → Mat33
course_rz theta =
    mat33.new (vec3.new (cos theta) (sin theta) zero)
    (vec3.new (neg (sin theta)) (cos theta) zero)
    vec3.UNIT_Z

-- r = (course_rz(-lng_rads) * course_ry(lat_rads)) * course_rx(bearing_rads), and Vec3::UNIT_Z * r
abbrev course_by : LatLong → Angle → Vec3
course_by ll bearing =
    mat33.vec3_mul vec3.UNIT_Z
    (mat33.mul
    (mat33.mul (course_rz (neg ll.longitude.radians)) (course_ry ll.latitude.radians))
    (course_rx bearing.radians))

-- with ll = LatLong::from_nvector(vehicle.position())
unfoldable pub course : Vehicle → Vec3
course vehicle = course_by (from_nvector vehicle.position) vehicle.bearing
