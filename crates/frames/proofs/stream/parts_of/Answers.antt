-- A session's parts, or none of a board.
use Rattle.sessions.proofs.Quicks.{session-parts, session-none}
use Rattle.frames.proofs.stream.parts_of.Goals as goal

pub returns-in-Some : goal.returns-in-Some
returns-in-Some c = record { same = session-parts c.args.session.now _ c.in-Some.is c.setting_of.ensures }

pub returns-in-None : goal.returns-in-None
returns-in-None c = record { same = session-none c.args.session.now _ c.in-None.is }
