-- `ratio` meets its contract.
use Rattle.float.specs.Trig as spec
use Rattle.float.proofs.trig.ratio.Goals as goal

pub returns-then-a-b : goal.returns-then-a-b
unfolding spec.ratio
returns-then-a-b c = simp c.if-a-b.true c.quotient.ensures

pub returns-else-a-b : goal.returns-else-a-b
unfolding spec.ratio
returns-else-a-b c = simp c.if-a-b.false c.quotient-else-a-b.ensures
