-- positions.rs: n-vectors, and latitude with longitude. Definitions only.
use Rattle.std.specs.Prelude.{Bool, cond, Float}
use Rattle.std.specs.Float.Ieee as Ieee
use Rattle.patterns.specs.Operators.{◌⊕◌, ◌⊗◌}
use Rattle.float.specs.Trig.{sin, cos, atan2}
use Rattle.roots.specs.Root.{sqrt}
use Rattle.jord.specs.Angle as angle
use Rattle.vectors.specs.Vec3 as vec3
use Rattle.jord.specs.declared.angle.Angle.{Angle}
use Rattle.vectors.specs.declared.vec3.Vec3.{Vec3}
use Rattle.jord.specs.declared.positions.LatLong.{LatLong}
use Rattle.jord.specs.declared.positions.NVector.{NVector}

-- LatLong::new: Self { latitude, longitude }
abbrev pub lat_long_new : Angle → Angle → LatLong
lat_long_new latitude longitude = record { latitude = latitude; longitude = longitude }

-- LatLong::from_degrees: Self::new(Angle::from_degrees(latitude), Angle::from_degrees(longitude))
abbrev pub from_degrees : Float → Float → LatLong
from_degrees latitude longitude = lat_long_new (angle.from_degrees latitude) (angle.from_degrees longitude)

-- self.latitude
abbrev pub latitude : LatLong → Angle
latitude l = l.latitude

-- self.longitude
abbrev pub longitude : LatLong → Angle
longitude l = l.longitude

-- NVector::new: Self(v)
abbrev pub nvector_new : Vec3 → NVector
nvector_new v = record { 0 = v }

-- self.0
abbrev pub as_vec3 : NVector → Vec3
as_vec3 p = p.0

-- lat = z.atan2((x * x + y * y).sqrt()), lon = y.atan2(x)
unfoldable pub nvector_to_latlong : Vec3 → LatLong
nvector_to_latlong v =
    lat_long_new
    (angle.from_radians (atan2 v.z (sqrt (v.x ⊗ v.x ⊕ v.y ⊗ v.y))))
    (angle.from_radians (atan2 v.y v.x))

-- LatLong::from_nvector: nvector_to_latlong(nvector.0)
abbrev pub from_nvector : NVector → LatLong
from_nvector p = nvector_to_latlong (as_vec3 p)

-- x = cl * longitude.cos(), y = cl * longitude.sin(), z = latitude.sin(), with cl = latitude.cos()
abbrev at_radians : Float → Float → Vec3
at_radians latitude longitude = vec3.new (cos latitude ⊗ cos longitude) (cos latitude ⊗ sin longitude) (sin latitude)

-- if latitude == QUARTER_CIRCLE { UNIT_Z }, if latitude == NEG_QUARTER_CIRCLE { NEG_UNIT_Z }
unfoldable pub latlong_to_nvector : Angle → Angle → Vec3
unfolding sin cos Ieee.eq Ieee.add Ieee.mul
latlong_to_nvector latitude longitude =
    cond (angle.eq latitude angle.QUARTER_CIRCLE) vec3.UNIT_Z
    (cond (angle.eq latitude angle.NEG_QUARTER_CIRCLE) vec3.NEG_UNIT_Z
    (at_radians latitude.radians longitude.radians))

-- NVector::from_lat_long: Self::new(latlong_to_nvector(latitude, longitude))
abbrev pub from_lat_long : Angle → Angle → NVector
from_lat_long latitude longitude = nvector_new (latlong_to_nvector latitude longitude)

-- NVector::from_lat_long_degrees: Self::from_lat_long(Angle::from_degrees(latitude), Angle::from_degrees(longitude))
abbrev pub from_lat_long_degrees : Float → Float → NVector
from_lat_long_degrees latitude longitude = from_lat_long (angle.from_degrees latitude) (angle.from_degrees longitude)

-- LatLong::to_nvector: NVector::new(latlong_to_nvector(self.latitude, self.longitude))
abbrev pub to_nvector : LatLong → NVector
to_nvector l = from_lat_long l.latitude l.longitude

-- -self.0
abbrev pub antipode : NVector → NVector
antipode p = nvector_new (vec3.neg (as_vec3 p))

-- self.0 + o.0 == Vec3::ZERO
abbrev pub is_antipode_of : NVector → NVector → Bool
is_antipode_of p o = vec3.eq (vec3.add (as_vec3 p) (as_vec3 o)) vec3.ZERO

-- self.0 == o.0
abbrev pub eq : NVector → NVector → Bool
eq p o = vec3.eq (as_vec3 p) (as_vec3 o)
