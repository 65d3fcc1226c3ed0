-- Each turn but the last goes on with what came, and at the end all is answered.
use Rattle.std.proofs.Common.{ap, Ok, arith}
use Rattle.std.proofs.lemmas.Result.{on_ok_weaker}
use Rattle.plot.proofs.Whole.{replied-none, replied-on, replied-ended}
use Rattle.plot.proofs.run.Goals as goal

pub loop-init : goal.loop-init
loop-init g c = replied-none _ _ _ c.begin-stream.ensures.0

pub loop-preserved : goal.loop-preserved
loop-preserved g c =
    replied-on c.loop.invariant c.in_ok-answer.ensures.turning _ _ _ c.read-got.ensures.bytes (ap Ok c.in-Some.is) (omega arith) c.in_ok-answer.ensures.written

pub returns-in_default-clause-answered : goal.returns-in_default-clause-answered
returns-in_default-clause-answered g c =
    on_ok_weaker c.last.result
    (λ w. replied-ended c.loop.invariant c.in_ok-answer.ensures.turning _ _ _ c.read-got.ensures.bytes (ap Ok c.in_default.is) (omega arith)
    c.in_ok-answer.ensures.silent w) c.last.ensures.written
