-- The reply to each choice, and what is printed of it.
use Rattle.sessions.specs.Session.{pick_told}
use Rattle.sessions.proofs.Printed.{of_pick}
use Rattle.sessions.proofs.session.pick_told.Goals as goal

pub returns-in-Ok-clause-value : goal.returns-in-Ok-clause-value
unfolding pick_told
returns-in-Ok-clause-value c = rw c.in-Ok.is

pub returns-in-Err-clause-value : goal.returns-in-Err-clause-value
unfolding pick_told
returns-in-Err-clause-value c = rw c.in-Err.is

pub returns-in-Ok-clause-printed : goal.returns-in-Ok-clause-printed
returns-in-Ok-clause-printed c = of_pick _ (returns-in-Ok-clause-value c)

pub returns-in-Err-clause-printed : goal.returns-in-Err-clause-printed
returns-in-Err-clause-printed c = of_pick _ (returns-in-Err-clause-value c)
