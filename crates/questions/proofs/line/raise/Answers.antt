-- `raise` meets its contract. Three sums modulo 2^32 are one.
use Rattle.plain.specs.Line.{counts}
use Rattle.questions.proofs.Wrapping.{thrice}
use Rattle.questions.proofs.line.raise.Goals as goal

pub returns : goal.returns
unfolding counts
returns c = rw (c.count-3.ensures, c.count-2.ensures, c.count.ensures) (thrice _ _ _ _)
