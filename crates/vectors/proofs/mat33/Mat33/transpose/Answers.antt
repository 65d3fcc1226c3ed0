-- `transpose` meets its contract.
use Rattle.vectors.specs.Mat33.{transpose}
use Rattle.vectors.proofs.mat33.Mat33.transpose.Goals as goal

pub returns : goal.returns
unfolding transpose
returns c = rw (c.new-4.ensures, c.new-3.ensures, c.new-2.ensures, c.new.ensures)
