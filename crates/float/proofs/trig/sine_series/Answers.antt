-- `sine_series` meets its contract.
use mathlib.Core.Path.{refl}
use lib.Ieee.{of_int, of_bits, neg, div}
use Rattle.float.proofs.trig.sine_series.Goals as goal

pub returns : goal.returns
unfolding of_int of_bits neg div
returns c = rw c.odd_series.ensures refl
