-- Functions 70 to 78 and 7a: the sphere, its walks, and all that a line of the board holds. Definitions only.
use Rattle.std.specs.Prelude.{ℕ, cond, eqb, List, Option, None}
use Rattle.arcs.specs.GreatCircle as great_circle
use Rattle.jord.specs.Vehicle as vehicles
use Rattle.spherical.specs.Sphere as sphere
use Rattle.jord.specs.declared.length.Length.{Length}
use Rattle.jord.specs.declared.positions.NVector.{NVector}
use Rattle.jord.specs.declared.vehicle.Vehicle.{Vehicle}
use Rattle.walks.specs.declared.Outcome.{Outcome}
use Rattle.spherical.specs.declared.sphere.Sphere.{Sphere}
use Rattle.probe_fields.specs.Answered.{Answered, gives}
use Rattle.probe_fields.specs.Args.{length_of, nvector, pass, pass3, pass5, speed, vehicle}
use Rattle.probe_fields.specs.Fields as fields
use Rattle.probe_fields.specs.declared.args.Args.{Args}

-- the sphere of a radius in metres
abbrev pub sphere_of : Args → Sphere
sphere_of a = sphere.new (length_of a)

-- the distance of p from the great circle through two positions
abbrev pub offset : Sphere → NVector → NVector → NVector → Length
offset s p start end = sphere.cross_track_distance s p (great_circle.new start end)

-- the same, of a radius and three positions
abbrev pub cross_track : Args → Length
cross_track a = offset (sphere_of a) (nvector (pass a)) (nvector (pass3 (pass a))) (nvector (pass3 (pass3 (pass a))))

-- past a radius and three positions
abbrev pub past_cross_track : Args → Args
past_cross_track a = pass3 (pass3 (pass3 (pass a)))

-- the time in which a position, at a speed, meets a vehicle
abbrev pub meeting : Args → Outcome
meeting a = sphere.time_to_intercept (sphere_of a) (nvector (pass a)) (speed (pass3 (pass a))) (vehicle (pass (pass3 (pass a))))

-- past a radius, a position, a speed and a vehicle
abbrev pub past_meeting : Args → Args
past_meeting a = pass5 (pass (pass3 (pass a)))

-- what a board's line has: distance, bearing, side and offset, then closest approach, meeting at own speed and longest time to meet
abbrev pub line_of : Sphere → Vehicle → NVector → NVector → NVector → Vehicle → List (List ℕ)
line_of s own p start end target =
    fields.spaced
    (fields.spaced
    (fields.spaced (fields.length (sphere.distance s (vehicles.position own) p)) (fields.angle (sphere.initial_bearing (vehicles.position own) p)))
    (fields.spaced (fields.side (sphere.side p start end)) (fields.length (offset s p start end))))
    (fields.spaced
    (fields.spaced (fields.outcome (sphere.time_to_cpa s own target)) (fields.outcome (sphere.time_to_intercept s (vehicles.position own) (vehicles.speed own) target)))
    (fields.outcome (sphere.max_time_to_intercept s (vehicles.position own) target)))

-- the target of radius, own ship, the track's ends and target
abbrev pub target_of : Args → Vehicle
target_of a = vehicle (pass3 (pass3 (pass5 (pass a))))

-- the line of radius, own ship, the track's ends and target
abbrev pub solve : Args → List (List ℕ)
solve a =
    line_of (sphere_of a) (vehicle (pass a)) (vehicles.position (target_of a)) (nvector (pass5 (pass a))) (nvector (pass3 (pass5 (pass a)))) (target_of a)

-- past these
abbrev pub past_solve : Args → Args
past_solve a = pass5 (pass3 (pass3 (pass5 (pass a))))

-- what a call of each comes to: its fields, and the arguments that are left
unfoldable pub sphere_calls : ℕ → Args → Option Answered
sphere_calls f a =
    cond (eqb f 0x70) (gives (fields.bool (sphere.is_great_circle (nvector a) (nvector (pass3 a)))) (pass3 (pass3 a)))
    (cond (eqb f 0x71) (gives (fields.angle (sphere.angle (nvector a) (nvector (pass3 a)))) (pass3 (pass3 a)))
    (cond (eqb f 0x72) (gives (fields.length (sphere.distance (sphere_of a) (nvector (pass a)) (nvector (pass3 (pass a))))) (pass3 (pass3 (pass a))))
    (cond (eqb f 0x73) (gives (fields.angle (sphere.initial_bearing (nvector a) (nvector (pass3 a)))) (pass3 (pass3 a)))
    (cond (eqb f 0x74) (gives (fields.side (sphere.side (nvector a) (nvector (pass3 a)) (nvector (pass3 (pass3 a))))) (pass3 (pass3 (pass3 a))))
    (cond (eqb f 0x75) (gives (fields.length (cross_track a)) (past_cross_track a))
    (cond (eqb f 0x76) (gives (fields.outcome (sphere.time_to_cpa (sphere_of a) (vehicle (pass a)) (vehicle (pass5 (pass a))))) (pass5 (pass5 (pass a))))
    (cond (eqb f 0x77) (gives (fields.outcome (meeting a)) (past_meeting a))
    (cond (eqb f 0x78) (gives (fields.outcome (sphere.max_time_to_intercept (sphere_of a) (nvector (pass a)) (vehicle (pass3 (pass a))))) (pass5 (pass3 (pass a))))
    (cond (eqb f 0x7a) (gives (solve a) (past_solve a))
    None)))))))))
