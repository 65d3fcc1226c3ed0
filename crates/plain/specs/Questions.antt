-- Document 01's questions that belong to the board, in its words. Definitions only.
use Rattle.std.specs.Prelude.{ℕ, Bool, true, false, not, ◌&&◌, ltb, eqb, Float, Option, Some, None, Result, Ok, Err}
use Rattle.std.specs.Float.{nan, inf, fin, binary64}
use Rattle.std.specs.Float.Ieee.{of_bits, le, lt}
use Rattle.patterns.specs.Bits.{magnitude}
use Rattle.patterns.specs.Operators.{◌⊖◌}
use Rattle.vectors.specs.Literal.{zero, one}
use Rattle.jord.specs.Positions.{as_vec3}
use Rattle.vectors.specs.Vec3.{squared_norm}
use Rattle.jord.specs.declared.positions.NVector.{NVector}
use Rattle.spherical.specs.Sphere.{is_great_circle}
use Rattle.jord.specs.declared.vehicle.Vehicle.{Vehicle}
use Rattle.plain.specs.declared.line.Scene.{Scene}
use Rattle.plain.specs.declared.line.Ends.{Ends}
use Rattle.plain.specs.declared.targets.Held.{Held}
use Rattle.plain.specs.declared.call.Coordinates.{Coordinates}
use Rattle.plain.specs.declared.call.Fix.{Fix}
use Rattle.plain.specs.declared.call.Refusal.{Refusal}
use Rattle.plain.specs.declared.call.Refusal.TheVariants.{RadiusNotPositive, IdentityZero, NotFinite, NotUnit, SpeedNegative, NoGreatCircle}
use Rattle.plain.specs.declared.call.Refusal.TheVariants.{NotHeld, BoardFull, NoOwnShip, NoTrack}
use Rattle.plain.specs.Call.{Answer, position}
use Rattle.plain.specs.Line.{solve_line}
use Rattle.plain.specs.Targets.{most_targets}

-- what is said to a question: yes, or no with the refusal that it gives
abbrev pub Said : Type 0
Said = Result (Unit {0}) Refusal

-- "the first no gives its number": the question's no, or what the questions after it come to
abbrev pub ask : {A : Type 0} → Said → Result A Refusal → Result A Refusal
ask (Ok u) a = a
ask (Err r) a = Err r

-- yes where the truth value is true, else no with this refusal
abbrev pub unless : Bool → Refusal → Said
unless true r = Ok tt
unless false r = Err r

-- "finite": neither a NaN nor infinite
abbrev pub finite : Float → Bool
finite nan = false
finite (inf s) = false
finite (fin s m e) = true

abbrev pub all_finite : Coordinates → Bool
all_finite c = finite c.x && finite c.y && finite c.z

-- 2^-40
abbrev pub slack : Float
slack = of_bits binary64 0x3d70000000000000

-- "`squared_norm`, less 1.0, at most 2^-40 in magnitude"
abbrev pub unit : NVector → Bool
unit p = le (magnitude (squared_norm (as_vec3 p) ⊖ one)) slack

-- "Fresh board: is the radius finite and above zero? 2"
abbrev pub radius_asked : Float → Said
radius_asked radius = unless (finite radius && lt zero radius) RadiusNotPositive

-- "Is the identity, 16 bits, other than 0? 3"
abbrev pub identity_asked : ℕ → Said
identity_asked i = unless (not (eqb i 0)) IdentityZero

-- "Are all numbers handed over finite? 4", of a vehicle: the coordinates, the bearing and the speed
abbrev pub fix_finite_asked : Fix → Said
fix_finite_asked f = unless (all_finite f.position && finite f.bearing && finite f.speed) NotFinite

-- "Is each position's `squared_norm`, less 1.0, at most 2^-40 in magnitude? 5"
abbrev pub fix_unit_asked : Fix → Said
fix_unit_asked f = unless (unit (position f.position)) NotUnit

-- "Is the speed zero or more? 6": -0.0 is
abbrev pub speed_asked : Fix → Said
speed_asked f = unless (le zero f.speed) SpeedNegative

-- the questions of a vehicle in their order, then those after it
abbrev pub ask_fix : {A : Type 0} → Fix → Result A Refusal → Result A Refusal
ask_fix f a = ask (fix_finite_asked f) (ask (fix_unit_asked f) (ask (speed_asked f) a))

-- those of a vehicle alone
abbrev pub fix_asked : Fix → Said
fix_asked f = ask_fix f (Ok tt)

-- 4, of a track: the six coordinates
abbrev pub ends_finite_asked : Coordinates → Coordinates → Said
ends_finite_asked s e = unless (all_finite s && all_finite e) NotFinite

-- 5, of both positions
abbrev pub ends_unit_asked : Coordinates → Coordinates → Said
ends_unit_asked s e = unless (unit (position s) && unit (position e)) NotUnit

-- "Are the track's ends a great circle by `is_great_circle`? 7"
abbrev pub circle_asked : Coordinates → Coordinates → Said
circle_asked s e = unless (is_great_circle (position s) (position e)) NoGreatCircle

-- the questions of a track in their order, then those after it
abbrev pub ask_ends : {A : Type 0} → Coordinates → Coordinates → Result A Refusal → Result A Refusal
ask_ends s e a = ask (ends_finite_asked s e) (ask (ends_unit_asked s e) (ask (circle_asked s e) a))

-- those of a track alone
abbrev pub ends_asked : Coordinates → Coordinates → Said
ends_asked s e = ask_ends s e (Ok tt)

-- "Withdraw, solve: does the board hold this identity? 8"
abbrev pub held_asked : Option Held → Said
held_asked None = Err NotHeld
held_asked (Some h) = Ok tt

-- "Report: is the identity held, or are fewer than 64 held? 9"
abbrev pub room_asked : Option Held → ℕ → Said
room_asked None n = unless (ltb n most_targets) BoardFull
room_asked (Some h) n = Ok tt

-- "does the board hold this identity? 8. Solve: has an own ship been set? 10. A track? 11": the first that lacks, or what a solve sees
abbrev pub see : Option Held → Option Vehicle → Option Ends → Result Scene Refusal
see None own track = Err NotHeld
see (Some h) None track = Err NoOwnShip
see (Some h) (Some o) None = Err NoTrack
see (Some h) (Some o) (Some e) = Ok (record { own = o; track = e; report = h.report })

-- a solve's answer, on the sphere of this radius
abbrev pub solved : Float → Result Scene Refusal → Answer
solved radius (Err r) = Err r
solved radius (Ok v) = Ok (Some (solve_line radius v))
