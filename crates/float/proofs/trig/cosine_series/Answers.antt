-- `cosine_series` meets its contract.
use lib.Ieee.{of_int, of_bits, neg, div}
use Rattle.float.proofs.trig.cosine_series.Goals as goal

pub returns : goal.returns
unfolding of_int of_bits neg div
returns c = c.horner.ensures
