-- `session_of` meets its contract.
use Rattle.sessions.specs.Quick.{session_of}
use Rattle.frames.proofs.stream.session_of.Goals as goal

pub returns-in-Some : goal.returns-in-Some
unfolding session_of
returns-in-Some c = rw (c.in-Some.is, c.board_of.ensures)

pub returns-in-None : goal.returns-in-None
unfolding session_of
returns-in-None c = rw (c.in-None.is)
