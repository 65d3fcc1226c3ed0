-- A call, by the glance at the board.
use mathlib.Core.Path.{◌≡◌, ap, ◌∙◌}
use Rattle.std.proofs.Common.{rules}
use Rattle.std.specs.Prelude.{Some, None}
use Rattle.board.specs.declared.glance.Hint.{Hint}
use Rattle.wire.specs.declared.kind.Kind.{Kind}
use Rattle.wire.specs.declared.reply.Reason.{Reason}
use Rattle.wire.specs.declared.reply.Reply.{Reply}
use Rattle.sessions.specs.declared.quick.Quick.TheVariants.{Stays}
use Rattle.sessions.specs.Quick.{hinted, at_call}
use Rattle.sessions.proofs.Quicks.{call-goes}
use Rattle.sessions.proofs.quick.at_call.Goals as goal

pub returns-in_default : goal.returns-in_default
unfolding at_call
returns-in_default g c = rw c.in_default.is

pub returns-in_err-hint : goal.returns-in_err-hint
unfolding hinted
returns-in_err-hint g c =
    let none : c.from_residual.result ≡ None = search rules in
    none ∙ call-goes _ _ _ c.in-Some.is c.kind_of-kind.ensures c.glance.ensures.value c.in_err-hint.was

pub returns-in-Stays : goal.returns-in-Stays
unfolding hinted
returns-in-Stays g c =
    let told = c.in_ok-hint.was ∙ ap (λ (h : Hint). Some h) c.in-Stays.is in
    ap (λ (y : Reply Kind Reason). Some (Stays y)) c.told.ensures.value ∙ call-goes _ _ _ c.in-Some.is c.kind_of-kind.ensures c.glance.ensures.value told

pub returns-in-Puts : goal.returns-in-Puts
unfolding hinted
returns-in-Puts g c =
    let told = c.in_ok-hint.was ∙ ap (λ (h : Hint). Some h) c.in-Puts.is in
    call-goes _ _ _ c.in-Some.is c.kind_of-kind.ensures c.glance.ensures.value told

pub returns-in-Sweeps : goal.returns-in-Sweeps
unfolding hinted
returns-in-Sweeps g c =
    let told = c.in_ok-hint.was ∙ ap (λ (h : Hint). Some h) c.in-Sweeps.is in
    call-goes _ _ _ c.in-Some.is c.kind_of-kind.ensures c.glance.ensures.value told
