-- `mul` meets its contract.
use Rattle.vectors.specs.Mat33.{mul}
use Rattle.vectors.proofs.mat33.Mat33.mul.Goals as goal

pub returns : goal.returns
unfolding mul
returns c =
    rw (c.new.ensures, c.vec3_mul-mr2.ensures, c.vec3_mul-mr1.ensures, c.vec3_mul-mr0.ensures, c.transpose-t2.ensures)
