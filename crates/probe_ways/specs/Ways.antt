-- Functions 80 to 8c: projections, minor arcs, and the ways and angles on the sphere that no board needs. Definitions only.
use Rattle.std.specs.Prelude.{ℕ, cond, eqb, List, Option, None}
use Rattle.arcs.specs.GreatCircle as great_circles
use Rattle.arcs.specs.MinorArc as minor_arcs
use Rattle.means.specs.Mean as means
use Rattle.means.specs.Mean.{Mean}
use Rattle.probe_sphere.specs.Sphere.{sphere_of}
use Rattle.spherical.specs.Interpolated.{Interpolated}
use Rattle.spherical.specs.Sphere as sphere
use Rattle.arcs.specs.declared.great_circle.GreatCircle.{GreatCircle}
use Rattle.jord.specs.declared.length.Length.{Length}
use Rattle.jord.specs.declared.positions.NVector.{NVector}
use Rattle.arcs.specs.declared.minor_arc.MinorArc.{MinorArc}
use Rattle.probe_fields.specs.Answered.{Answered, gives}
use Rattle.probe_fields.specs.Args.{angle, float, length_of, nvector, pass, pass3, pass5, pass6, pass9, vehicle, whole}
use Rattle.probe_fields.specs.Fields as fields
use Rattle.probe_fields.specs.declared.args.Args.{Args}

-- the great circle through the next two positions
abbrev pub great_circle : Args → GreatCircle
great_circle a = great_circles.new (nvector a) (nvector (pass3 a))

-- the arc from the next position to the one after it
abbrev pub minor_arc : Args → MinorArc
minor_arc a = minor_arcs.new (nvector a) (nvector (pass3 a))

-- the position at a bearing and a distance from the next position
abbrev pub destination : Args → NVector
destination a = sphere.destination_position (sphere_of a) (nvector (pass a)) (angle (pass3 (pass a))) (length_of (pass (pass3 (pass a))))

-- past a radius, a position, a bearing and a distance
abbrev pub past_destination : Args → Args
past_destination a = pass (pass (pass3 (pass a)))

-- the position at an angle from the first of two positions, on their great circle
abbrev pub on_great_circle : Args → NVector
on_great_circle a = sphere.position_on_great_circle (nvector a) (nvector (pass3 a)) (angle (pass6 a))

-- the position between two, at a fraction of the way
abbrev pub interpolated : Args → Interpolated
interpolated a = sphere.interpolated_position (nvector a) (nvector (pass3 a)) (float (pass6 a))

-- the mean of three positions
abbrev pub triangle_mean : Args → Mean
triangle_mean a = means.triangle_mean_position (nvector a) (nvector (pass3 a)) (nvector (pass6 a))

-- the radii of a sphere, of the earth and of the moon
abbrev pub radii : Args → (Length × Length × Length)
radii a = (sphere.radius (sphere_of a), sphere.radius sphere.EARTH, sphere.radius sphere.MOON)

-- the three radii as they are written
abbrev pub put_radii : (Length × Length × Length) → List (List ℕ)
put_radii (l, m, n) = fields.spaced (fields.spaced (fields.length l) (fields.length m)) (fields.length n)

-- what a call of each comes to: its fields, and the arguments that are left
unfoldable pub ways : ℕ → Args → Option Answered
ways f a =
    cond (eqb f 0x80) (gives (fields.nvector (great_circles.projection (great_circle a) (nvector (pass6 a)))) (pass3 (pass6 a)))
    (cond (eqb f 0x81) (gives (fields.minor_arc (minor_arc a)) (pass6 a))
    (cond (eqb f 0x82) (gives (fields.length (sphere.along_track_distance (sphere_of a) (nvector (pass a)) (minor_arc (pass3 (pass a))))) (pass6 (pass3 (pass a))))
    (cond (eqb f 0x83) (gives (fields.length (sphere.angle_to_distance (sphere_of a) (angle (pass a)))) (pass (pass a)))
    (cond (eqb f 0x84) (gives (fields.angle (sphere.distance_to_angle (sphere_of a) (length_of (pass a)))) (pass (pass a)))
    (cond (eqb f 0x85) (gives (fields.nvector (destination a)) (past_destination a))
    (cond (eqb f 0x86) (gives (fields.angle (sphere.final_bearing (nvector a) (nvector (pass3 a)))) (pass3 (pass3 a)))
    (cond (eqb f 0x87) (gives (fields.nvector (on_great_circle a)) (pass (pass6 a)))
    (cond (eqb f 0x88) (gives (fields.result fields.nvector fields.outside (interpolated a)) (pass (pass6 a)))
    (cond (eqb f 0x89) (gives (fields.result fields.nvector fields.no_mean (triangle_mean a)) (pass9 a))
    (cond (eqb f 0x8a) (gives (fields.angle (sphere.turn (nvector a) (nvector (pass3 a)) (nvector (pass6 a)))) (pass9 a))
    (cond (eqb f 0x8b) (gives (fields.nvector (sphere.position_after (sphere_of a) (vehicle (pass a)) (whole (pass5 (pass a))))) (pass (pass5 (pass a))))
    (cond (eqb f 0x8c) (gives (put_radii (radii a)) (pass a))
    None))))))))))))
