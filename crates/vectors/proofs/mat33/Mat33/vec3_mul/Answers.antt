-- `vec3_mul` meets its contract.
use Rattle.vectors.specs.Mat33.{vec3_mul}
use Rattle.vectors.proofs.mat33.Mat33.vec3_mul.Goals as goal

pub returns : goal.returns
unfolding vec3_mul
returns c = rw (c.new.ensures, c.dot_prod-z.ensures, c.dot_prod-y.ensures, c.dot_prod-x.ensures)
