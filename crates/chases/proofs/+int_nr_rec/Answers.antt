-- `int_nr_rec` meets its contract.
use Rattle.std.proofs.Common.{sym, ◌∙◌, arith}
use Rattle.chases.proofs.Steps.{stepped, ended}
use Rattle.chases.proofs.+int_nr_rec.Goals as goal

pub returns-then-i-ge-INTERCEPT_NR_MAX_ITERATIONS : goal.returns-then-i-ge-INTERCEPT_NR_MAX_ITERATIONS
returns-then-i-ge-INTERCEPT_NR_MAX_ITERATIONS g t c = ended _ _ _ (omega arith)

pub returns-in-ZeroDerivative : goal.returns-in-ZeroDerivative
returns-in-ZeroDerivative g t c = sym (stepped _ _ _ _ (omega arith) c.in-ZeroDerivative.ensures)

pub returns-in-Accepted : goal.returns-in-Accepted
returns-in-Accepted g t c = sym (stepped _ _ _ _ (omega arith) c.in-Accepted.ensures)

pub returns : goal.returns
returns g t c = c.int_nr_rec.ensures ∙ sym (stepped _ _ _ _ (omega arith) c.in-Next.ensures)
