-- `offset` meets its contract.
use mathlib.Core.Path.{refl}
use Rattle.float.specs.Trig as spec
use lib.Ieee.{of_int, of_bits}
use Rattle.float.proofs.trig.offset.Goals as goal

pub returns : goal.returns
unfolding spec.offset of_int of_bits
returns c = refl
