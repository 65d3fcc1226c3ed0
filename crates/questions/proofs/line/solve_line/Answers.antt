-- `solve_line` meets its contract. Each part of the line is what its function ensures.
use Rattle.plain.specs.Line.{solve_line}
use Rattle.questions.proofs.line.solve_line.Goals as goal

pub returns : goal.returns
unfolding solve_line
returns c =
    rw (
      c.max_time_to_intercept-longest.ensures,
      c.time_to_intercept-meeting.ensures,
      c.time_to_cpa-closest.ensures,
      c.cross_track_distance-offset.ensures,
      c.new.ensures,
      c.side-side.ensures,
      c.initial_bearing-bearing.ensures,
      c.distance-distance.ensures,
      c.new-sphere.ensures,
      c.from_metres.ensures,
    )
