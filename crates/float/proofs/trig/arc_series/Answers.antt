-- `arc_series` meets its contract.
use Rattle.float.specs.Trig as spec
use lib.Ieee.{of_int, of_bits, neg}
use Rattle.float.proofs.trig.arc_series.Goals as goal

pub returns : goal.returns
unfolding spec.arc_series of_int of_bits neg
returns c = rw c.odd_series.ensures
