-- `quarters` meets its contract.
use Rattle.float.specs.Trig as spec
use Rattle.float.proofs.trig.quarters.Goals as goal

pub returns-then-r : goal.returns-then-r
unfolding spec.quarters
returns-then-r c = simp c.if-r.true

pub returns-then-r-2 : goal.returns-then-r-2
unfolding spec.quarters
returns-then-r-2 c = simp (c.if-r.false, c.if-r-2.true)

pub returns-then-r-3 : goal.returns-then-r-3
unfolding spec.quarters
returns-then-r-3 c = simp (c.if-r.false, c.if-r-2.false, c.if-r-3.true)

pub returns-then-r-4 : goal.returns-then-r-4
unfolding spec.quarters
returns-then-r-4 c = simp (c.if-r.false, c.if-r-2.false, c.if-r-3.false, c.if-r-4.true)

pub returns : goal.returns
unfolding spec.quarters
returns c = simp (c.if-r.false, c.if-r-2.false, c.if-r-3.false, c.if-r-4.false)
