-- The line of a target, and its counts. Definitions only.
use Rattle.std.specs.Prelude.{ℕ, ◌+◌, ◌^◌, Float}
use Rattle.jord.specs.Length.{from_metres}
use Rattle.arcs.specs.GreatCircle as circle
use Rattle.walks.specs.Outcome.{count_of}
use Rattle.spherical.specs.Sphere as sphere
use Rattle.spherical.specs.declared.sphere.Sphere.{Sphere}
use Rattle.plain.specs.declared.line.Line.{Line}
use Rattle.plain.specs.declared.line.Scene.{Scene}

-- "A line holds three outcomes: closest approach, meeting at own speed, longest time to meet. In all three the target is the intruder
-- and the own ship the other party. Before them stand `distance` and `initial_bearing` own ship to target, `side` of the target to
-- (start, end), `cross_track_distance` to `GreatCircle::new(start, end)`"
abbrev line_on : Sphere → Scene → Line
line_on s v =
    record {
      distance = (sphere.distance s v.own.position v.report.position).metres;
      bearing = (sphere.initial_bearing v.own.position v.report.position).radians;
      side = sphere.side v.report.position v.track.start v.track.end;
      offset = (sphere.cross_track_distance s v.report.position (circle.new v.track.start v.track.end)).metres;
      closest = sphere.time_to_cpa s v.own v.report;
      meeting = sphere.time_to_intercept s v.own.position v.own.speed v.report;
      longest = sphere.max_time_to_intercept s v.own.position v.report;
    }

-- what a solve makes of a scene, on the sphere of this radius in metres
unfoldable pub solve_line : Float → Scene → Line
solve_line radius v = line_on (sphere.new (from_metres radius)) v

-- "its three counts", summed
unfoldable pub counts : Line → ℕ
counts l = count_of l.closest + count_of l.meeting + count_of l.longest

-- "a 32-bit number that returns to 0 after 2^32 - 1": the total is counted modulo this
abbrev pub totals : ℕ
totals = 2 ^ 32
