-- `to_degrees` meets its contract.
use Rattle.std.proofs.Common.{rules}
use lib.Ieee.{of_int, of_bits}
use Rattle.float.proofs.degrees.to_degrees.Goals as goal

pub returns : goal.returns
unfolding of_int of_bits
returns c = search rules
