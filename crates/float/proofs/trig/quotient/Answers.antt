-- `quotient` meets its contract.
use Rattle.float.specs.Trig as spec
use lib.Ieee.{of_int, of_bits}
use Rattle.float.proofs.trig.quotient.Goals as goal

pub returns-then-greater : goal.returns-then-greater
unfolding spec.quotient of_int of_bits
returns-then-greater c = simp c.if-greater.true

pub returns-then-lesser : goal.returns-then-lesser
unfolding spec.quotient of_int of_bits
returns-then-lesser c = simp (c.if-greater.false, c.if-lesser.true)

pub returns : goal.returns
unfolding spec.quotient of_int of_bits
returns c = simp (c.if-greater.false, c.if-lesser.false)
