-- `newton_raphson` meets its contract.
use Rattle.std.proofs.Common.{sym, ◌∙◌, arith}
use Rattle.chases.proofs.Steps.{stepped, ended}
use Rattle.chases.proofs.newton_raphson.Goals as goal

pub returns-in-ZeroDerivative : goal.returns-in-ZeroDerivative
returns-in-ZeroDerivative c = sym (stepped _ _ _ _ (omega arith) c.in-ZeroDerivative.ensures) ∙ c.loop-i.invariant

pub returns-in-Accepted : goal.returns-in-Accepted
returns-in-Accepted c = sym (stepped _ _ _ _ (omega arith) c.in-Accepted.ensures) ∙ c.loop-i.invariant

pub loop-i-preserved : goal.loop-i-preserved
loop-i-preserved c = sym (stepped _ _ _ _ (omega arith) c.in-Next.ensures) ∙ c.loop-i.invariant

pub returns : goal.returns
returns c = ended _ _ _ (omega arith) ∙ c.loop-i.invariant
