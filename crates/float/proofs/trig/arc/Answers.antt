-- `arc` meets its contract.
use Rattle.float.specs.Trig as spec
use lib.Ieee.{of_int, of_bits}
use Rattle.float.proofs.trig.arc.Goals as goal

pub returns-then-t : goal.returns-then-t
unfolding spec.arc of_int of_bits
returns-then-t c = simp (c.if-t.true, c.arc_series.ensures)

pub returns-else-t : goal.returns-else-t
unfolding spec.arc of_int of_bits
returns-else-t c = simp (c.if-t.false, c.arc_series-else-t.ensures)
