-- What the fields of a call are read as, from the place of the next on. Definitions only.
use Rattle.std.specs.Prelude.{ℕ, ◌+◌, ◌-◌, ◌/◌, ◌^◌, Float, from_bits, length, min}
use Rattle.std.specs.Float.{binary64}
use Rattle.unhex.specs.Digits.{lows_in}
use Rattle.jord.specs.Angle as angles
use Rattle.jord.specs.Length as lengths
use Rattle.jord.specs.Positions as positions
use Rattle.jord.specs.Speed as speeds
use Rattle.jord.specs.Vehicle as vehicles
use Rattle.vectors.specs.Mat33 as mat33s
use Rattle.vectors.specs.Vec3 as vec3s
use Rattle.jord.specs.declared.angle.Angle.{Angle}
use Rattle.jord.specs.declared.length.Length.{Length}
use Rattle.jord.specs.declared.speed.Speed.{Speed}
use Rattle.jord.specs.declared.positions.NVector.{NVector}
use Rattle.jord.specs.declared.vehicle.Vehicle.{Vehicle}
use Rattle.vectors.specs.declared.vec3.Vec3.{Vec3}
use Rattle.vectors.specs.declared.mat33.Mat33.{Mat33}
use Rattle.probe_fields.specs.declared.args.Args.{Args}

-- a place n bytes on, and the last that a word can tell where that is further
abbrev pub on : ℕ → ℕ → ℕ
on at n = min (at + n) (2 ^ 64 - 1)

-- the digits of a field
abbrev pub digits : ℕ
digits = 16

-- the bytes of a field: a space, and its digits
abbrev pub field : ℕ
field = 1 + digits

-- how many fields there are from the place on
abbrev pub left : Args → ℕ
left a = (length a.fields.now - a.at) / field

-- past the next field
unfoldable pub pass : Args → Args
pass a = record a { at = on a.at field }

-- past three fields
abbrev pub pass3 : Args → Args
pass3 a = pass (pass (pass a))

-- past the fields of two positions, of a vehicle and of a matrix
abbrev pub pass6 : Args → Args
pass6 a = pass3 (pass3 a)

abbrev pub pass5 : Args → Args
pass5 a = pass (pass (pass3 a))

abbrev pub pass9 : Args → Args
pass9 a = pass3 (pass3 (pass3 a))

-- past all
abbrev pub pass_rest : Args → Args
pass_rest a = record a { at = length a.fields.now }

-- the number of the next field's digits
unfoldable pub whole : Args → ℕ
whole a = lows_in a.fields.now (on a.at 1) digits

-- the float whose bits the next field tells
unfoldable pub float : Args → Float
float a = from_bits binary64 (whole a)

-- an angle in radians
abbrev pub angle : Args → Angle
angle a = angles.from_radians (float a)

-- a length in metres
abbrev pub length_of : Args → Length
length_of a = lengths.from_metres (float a)

-- a speed in metres a second
abbrev pub speed : Args → Speed
speed a = speeds.from_metres_per_second (float a)

-- a vector of the next three floats
abbrev pub vec3 : Args → Vec3
vec3 a = vec3s.new (float a) (float (pass a)) (float (pass (pass a)))

-- a matrix of the next three vectors
abbrev pub mat33 : Args → Mat33
mat33 a = mat33s.new (vec3 a) (vec3 (pass3 a)) (vec3 (pass3 (pass3 a)))

-- a position of the next vector
abbrev pub nvector : Args → NVector
nvector a = positions.nvector_new (vec3 a)

-- a vehicle of the next position, bearing and speed
abbrev pub vehicle : Args → Vehicle
vehicle a = vehicles.new (nvector a) (angle (pass3 a)) (speed (pass (pass3 a)))
