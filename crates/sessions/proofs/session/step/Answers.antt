-- Each frame by its kind.
use mathlib.Core.Path.{refl, ap, ◌∙◌}
use Rattle.std.proofs.Common.{rules}
use Rattle.std.specs.Prelude.{Some}
use Rattle.plain.specs.Asking.{mean, pick}
use Rattle.wire.specs.declared.frame.Frame.TheVariants.{Mean, Pick, Total}
use Rattle.wire.specs.declared.reply.Reply.TheVariants as reply
use Rattle.sessions.specs.Session.{next, reply_of, mean_told, pick_told}
use Rattle.sessions.proofs.Sessions.{asked, asked-of, no-frame}
use Rattle.sessions.proofs.session.step.Goals as goal

pub returns-in-Some-Mean : goal.returns-in-Some-Mean
unfolding next reply_of
returns-in-Some-Mean c =
    asked _ (Some Mean) (c.in-Some-Mean.is ∙ ap Some (rw c.in-Some-Mean.is at c.in-Some-Mean.field-0-is)) c.asked.ensures.session_is
    (asked-of c.args.s (λ b. mean_told (mean b)) (search rules)) refl

pub returns-in-Some-Pick : goal.returns-in-Some-Pick
unfolding next reply_of
returns-in-Some-Pick c =
    asked _ (Some Pick) (c.in-Some-Pick.is ∙ ap Some (rw c.in-Some-Pick.is at c.in-Some-Pick.field-0-is)) c.asked-in-Some-Pick.ensures.session_is
    (asked-of c.args.s (λ b. pick_told (pick b)) (search rules)) refl

pub returns-in-Some-Total : goal.returns-in-Some-Total
unfolding next reply_of
returns-in-Some-Total c =
    asked _ (Some Total) (c.in-Some-Total.is ∙ ap Some (rw c.in-Some-Total.is at c.in-Some-Total.field-0-is)) c.asked-in-Some-Total.ensures.session_is
    (asked-of c.args.s (λ b. reply.Total b.total) (search rules)) refl

pub returns-in-None : goal.returns-in-None
returns-in-None c = no-frame _ c.in-None.is
