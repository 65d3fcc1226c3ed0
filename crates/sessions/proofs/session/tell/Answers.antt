-- A call of the board, or number 1 where there is none.
use Rattle.sessions.proofs.Sessions.{not-heard, heard}
use Rattle.sessions.proofs.session.tell.Goals as goal

pub returns-in-None : goal.returns-in-None
returns-in-None c = not-heard _ _ c.in-None.is

pub returns-in-Some : goal.returns-in-Some
returns-in-Some c =
    let h = c.hear-answer.ensures in
    heard _ _ c.in-Some.is h.answer_is h.board_is c.kind_of.ensures c.told-reply.ensures.value
