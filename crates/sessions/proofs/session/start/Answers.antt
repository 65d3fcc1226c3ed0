-- A fresh board where the radius is accepted, and what was there where not.
use Rattle.sessions.proofs.Sessions.{started, stayed}
use Rattle.sessions.proofs.session.start.Goals as goal

pub returns-in-Ok : goal.returns-in-Ok
returns-in-Ok c = started c.told-reply.ensures.value c.fresh-made.ensures c.in-Ok.is

pub returns-in-Err : goal.returns-in-Err
returns-in-Err c = stayed c.told-reply.ensures.value c.fresh-made.ensures c.in-Err.is
