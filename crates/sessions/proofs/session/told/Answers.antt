-- The reply to each answer, and what is printed of it.
use Rattle.sessions.specs.Session.{told}
use Rattle.sessions.proofs.Printed.{of_call}
use Rattle.sessions.proofs.session.told.Goals as goal

pub returns-in-Ok-None-clause-value : goal.returns-in-Ok-None-clause-value
unfolding told
returns-in-Ok-None-clause-value g c = rw (c.in-Ok-None.is, rw c.in-Ok-None.is at c.in-Ok-None.field-0-is)

pub returns-in-Ok-Some-clause-value : goal.returns-in-Ok-Some-clause-value
unfolding told
returns-in-Ok-Some-clause-value g c = rw (c.in-Ok-Some.is, rw c.in-Ok-Some.is at c.in-Ok-Some.field-0-is)

pub returns-in-Err-clause-value : goal.returns-in-Err-clause-value
unfolding told
returns-in-Err-clause-value g c = rw c.in-Err.is

pub returns-in-Ok-None-clause-printed : goal.returns-in-Ok-None-clause-printed
returns-in-Ok-None-clause-printed g c = of_call _ _ (returns-in-Ok-None-clause-value g c)

pub returns-in-Ok-Some-clause-printed : goal.returns-in-Ok-Some-clause-printed
returns-in-Ok-Some-clause-printed g c = of_call _ _ (returns-in-Ok-Some-clause-value g c)

pub returns-in-Err-clause-printed : goal.returns-in-Err-clause-printed
returns-in-Err-clause-printed g c = of_call _ _ (returns-in-Err-clause-value g c)
