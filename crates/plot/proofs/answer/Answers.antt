-- Where nothing came nothing is written, and there is nothing to answer.
use Rattle.std.proofs.Common.{arith}
use Rattle.plot.proofs.Turning.{nothing_said}
use Rattle.plot.proofs.answer.Goals as goal

pub returns-in_default-clause-written : goal.returns-in_default-clause-written
returns-in_default-clause-written g c = grind (arith, nothing_said)
