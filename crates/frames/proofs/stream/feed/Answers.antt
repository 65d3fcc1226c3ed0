-- The line that has begun, and then the lines after it.
use native.Mathlib.Omega.{arith}
use Rattle.frames.proofs.Feeds.{used-within, feeding-then}
use Rattle.frames.proofs.stream.feed.Goals as goal

pub overflow_add-result : goal.overflow_add-result
overflow_add-result c =
    omega (arith, c.well_formed.1.0.0, used-within c.go_on-first.ensures c.lines-rest.ensures)

pub returns-clause-feeding : goal.returns-clause-feeding
returns-clause-feeding c =
    let went = c.go_on-first.ensures in
    feeding-then went c.lines-rest.ensures
