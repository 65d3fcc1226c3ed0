-- A line waits for its end or for room.
use borrow.Author.Tests.{lt-ltb, le-ltb, le-leb}
use Rattle.frames.specs.Turn.{waits}
use Rattle.frames.proofs.stream.waits.Goals as goal

pub returns-then-end-length : goal.returns-then-end-length
unfolding waits
returns-then-end-length c = simp (le-ltb _ _ c.if-end-length.true, le-leb _ _ c.if-end-length.true)

pub returns-else-end-length : goal.returns-else-end-length
unfolding waits
returns-else-end-length c = simp (lt-ltb _ _ c.if-end-length.false)
