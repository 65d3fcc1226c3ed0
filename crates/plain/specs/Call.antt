-- What is made of the numbers handed over, the target that a call names, and the number and values of each answer. Definitions only.
use Rattle.std.specs.Prelude.{ℕ, Option, Some, None, Result, Ok, Err}
use Rattle.jord.specs.Angle.{from_radians}
use Rattle.jord.specs.Positions.{nvector_new}
use Rattle.jord.specs.Speed.{from_metres_per_second}
use Rattle.vectors.specs.Vec3 as vec3
use Rattle.jord.specs.Vehicle as vehicles
use Rattle.jord.specs.declared.positions.NVector.{NVector}
use Rattle.jord.specs.declared.vehicle.Vehicle.{Vehicle}
use Rattle.plain.specs.declared.line.Line.{Line}
use Rattle.plain.specs.declared.line.Ends.{Ends}
use Rattle.plain.specs.declared.call.Coordinates.{Coordinates}
use Rattle.plain.specs.declared.call.Fix.{Fix}
use Rattle.plain.specs.declared.call.Call.{Call}
use Rattle.plain.specs.declared.call.Call.TheVariants.{Report, Withdraw, OwnShip, Track, Solve}
use Rattle.plain.specs.declared.call.Refusal.{Refusal}
use Rattle.plain.specs.declared.call.Refusal.TheVariants.{RadiusNotPositive, IdentityZero, NotFinite, NotUnit, SpeedNegative, NoGreatCircle}
use Rattle.plain.specs.declared.call.Refusal.TheVariants.{NotHeld, BoardFull, NoOwnShip, NoTrack, NoMeeting}

-- what a board answers to a call: done, with the line of a solve, or refused
abbrev pub Answer : Type 0
Answer = Result (Option Line) Refusal

-- "Three numbers handed over as a position pass through `Vec3::new`"
abbrev pub position : Coordinates → NVector
position c = nvector_new (vec3.new c.x c.y c.z)

-- "bearings are radians, speeds metres a second"
abbrev pub vehicle : Fix → Vehicle
vehicle f = vehicles.new (position f.position) (from_radians f.bearing) (from_metres_per_second f.speed)

abbrev pub ends : Coordinates → Coordinates → Ends
ends s e = record { start = position s; end = position e }

-- "Report, withdraw and solve name a target by the identity handed over, held or not"
unfoldable pub named : Call → Option ℕ
named (Report i f) = Some i
named (Withdraw i) = Some i
named (OwnShip f) = None
named (Track s e) = None
named (Solve i) = Some i

-- "the first no gives its number"
abbrev pub number_of : Refusal → ℕ
number_of RadiusNotPositive = 2
number_of IdentityZero = 3
number_of NotFinite = 4
number_of NotUnit = 5
number_of SpeedNegative = 6
number_of NoGreatCircle = 7
number_of NotHeld = 8
number_of BoardFull = 9
number_of NoOwnShip = 10
number_of NoTrack = 11
number_of NoMeeting = 19

-- the number of an answer to a call; 0 is done
abbrev pub answer_number : Answer → ℕ
answer_number (Ok l) = 0
answer_number (Err r) = number_of r

-- the values of an answer: "Solve: makes, stores and returns that target's line"; no other answer has any
abbrev pub answer_line : Answer → Option Line
answer_line (Ok l) = l
answer_line (Err r) = None
