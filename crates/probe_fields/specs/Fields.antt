-- The pieces of each kind of result, in the order in which they are written. Definitions only.
use Rattle.std.specs.Prelude.{ℕ, Bool, cond, Float, List, [], ◌∷◌, ◌++◌, Result, Ok, Err}
use Rattle.std.specs.Float.{binary64}
use Rattle.std.specs.Float.Ieee.{to_bits}
use Rattle.hex_digits.specs.Hex.{digits}
use Rattle.arcs.specs.MinorArc as minor_arcs
use Rattle.arcs.specs.Side.{side_number}
use Rattle.duration.specs.Duration.{refusal_number}
use Rattle.jord.specs.Angle as angles
use Rattle.jord.specs.Length as lengths
use Rattle.jord.specs.Positions as positions
use Rattle.jord.specs.Speed as speeds
use Rattle.jord.specs.Vehicle as vehicles
use Rattle.means.specs.Mean as means
use Rattle.spherical.specs.Interpolated as interpolated
use Rattle.vectors.specs.Mat33 as mat33s
use Rattle.vectors.specs.Vec3 as vec3s
use Rattle.walks.specs.Outcome as outcomes
use Rattle.arcs.specs.declared.Side.{Side}
use Rattle.arcs.specs.declared.minor_arc.MinorArc.{MinorArc}
use Rattle.duration.specs.declared.OutOfRange.{OutOfRange}
use Rattle.float.specs.declared.trig.SinCos.{SinCos}
use Rattle.jord.specs.declared.angle.Angle.{Angle}
use Rattle.jord.specs.declared.length.Length.{Length}
use Rattle.jord.specs.declared.speed.Speed.{Speed}
use Rattle.jord.specs.declared.positions.LatLong.{LatLong}
use Rattle.jord.specs.declared.positions.NVector.{NVector}
use Rattle.jord.specs.declared.vehicle.Vehicle.{Vehicle}
use Rattle.means.specs.declared.NoMean.{NoMean}
use Rattle.spherical.specs.declared.interpolated.Outside.{Outside}
use Rattle.vectors.specs.declared.vec3.Vec3.{Vec3}
use Rattle.vectors.specs.declared.mat33.Mat33.{Mat33}
use Rattle.walks.specs.declared.Outcome.{Outcome}

-- 64 bits: 16 digits
abbrev pub word : ℕ → List (List ℕ)
word v = digits 16 v ∷ []

-- a float by its bits
abbrev pub float : Float → List (List ℕ)
float x = word (to_bits binary64 x)

-- a number of one byte: 2 digits
abbrev pub byte : ℕ → List (List ℕ)
byte n = digits 2 n ∷ []

-- 01 for true, 00 for false
abbrev pub bool : Bool → List (List ℕ)
bool b = byte (cond b 1 0)

-- two results with a space between
unfoldable pub spaced : List (List ℕ) → List (List ℕ) → List (List ℕ)
spaced xs ys = xs ++ ((32 ∷ []) ∷ ys)

-- 00 and the result, or why there is none
abbrev pub result : {A E : Type 0} → (A → List (List ℕ)) → (E → List (List ℕ)) → Result A E → List (List ℕ)
result f g (Ok a) = spaced (byte 0) (f a)
result f g (Err e) = g e

-- in radians
abbrev pub angle : Angle → List (List ℕ)
angle a = float (angles.as_radians a)

-- in metres
abbrev pub length : Length → List (List ℕ)
length l = float (lengths.as_metres l)

-- in metres a second
abbrev pub speed : Speed → List (List ℕ)
speed s = float (speeds.as_metres_per_second s)

abbrev pub vec3 : Vec3 → List (List ℕ)
vec3 v = spaced (spaced (float (vec3s.x v)) (float (vec3s.y v))) (float (vec3s.z v))

abbrev pub nvector : NVector → List (List ℕ)
nvector p = vec3 (positions.as_vec3 p)

-- row by row
abbrev pub mat33 : Mat33 → List (List ℕ)
mat33 m = spaced (spaced (vec3 (mat33s.row0 m)) (vec3 (mat33s.row1 m))) (vec3 (mat33s.row2 m))

abbrev pub lat_long : LatLong → List (List ℕ)
lat_long l = spaced (angle (positions.latitude l)) (angle (positions.longitude l))

abbrev pub vehicle : Vehicle → List (List ℕ)
vehicle v = spaced (spaced (nvector (vehicles.position v)) (angle (vehicles.bearing v))) (speed (vehicles.speed v))

abbrev pub minor_arc : MinorArc → List (List ℕ)
minor_arc a = spaced (spaced (nvector (minor_arcs.start a)) (nvector (minor_arcs.end a))) (vec3 (minor_arcs.normal a))

abbrev pub sin_cos : SinCos → List (List ℕ)
sin_cos s = spaced (float s.sin) (float s.cos)

-- 00 Left, 01 Right, 02 Collinear
abbrev pub side : Side → List (List ℕ)
side s = byte (side_number s)

-- the number, the nanoseconds and the count of an outcome
abbrev pub outcome : Outcome → List (List ℕ)
outcome o = spaced (spaced (byte (outcomes.number_of o)) (word (outcomes.nanoseconds_of o))) (byte (outcomes.count_of o))

-- the number of a refusal
abbrev pub out_of_range : OutOfRange → List (List ℕ)
out_of_range why = byte (refusal_number why)

-- the number of no mean
abbrev pub no_mean : NoMean → List (List ℕ)
no_mean why = byte (means.number_of (Err why))

-- the number of a fraction outside of 0 to 1
abbrev pub outside : Outside → List (List ℕ)
outside why = byte (interpolated.number_of (Err why))
