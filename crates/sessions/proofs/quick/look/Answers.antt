-- A frame, kind by kind.
use mathlib.Core.Logic.{inl, inr}
use mathlib.Core.Path.{ap, ◌∙◌}
use Rattle.std.specs.Prelude.{Some}
use Rattle.sessions.specs.declared.quick.Quick.TheVariants.{Stays}
use Rattle.sessions.specs.Quick.{look}
use Rattle.wire.specs.declared.kind.Kind.{Kind}
use Rattle.wire.specs.declared.reply.Reason.{Reason}
use Rattle.wire.specs.declared.reply.Reply.{Reply}
use Rattle.sessions.proofs.quick.look.Goals as goal

pub returns-in_default-clause-value : goal.returns-in_default-clause-value
unfolding look
returns-in_default-clause-value g c = rw c.in_default.is

pub returns-in-Fresh-clause-value : goal.returns-in-Fresh-clause-value
unfolding look
returns-in-Fresh-clause-value g c = elim c.in-Fresh.is [
  | inl z ↦ rw (c.in-Some.is, z.1)
  | inr (inl z) ↦ rw (c.in-Some.is, z)
  | inr (inr z) ↦ rw (c.in-Some.is, z)
]

pub returns-in-Told-clause-value : goal.returns-in-Told-clause-value
unfolding look
returns-in-Told-clause-value g c = rw (c.in-Some.is, c.in-Told.is) c.at_call.ensures

pub returns-in-Total-clause-value : goal.returns-in-Total-clause-value
unfolding look
returns-in-Total-clause-value g c = ap (λ (y : Reply Kind Reason). Some (Stays y)) c.total_reply.ensures ∙ rw (c.in-Some.is, c.in-Total.is)
