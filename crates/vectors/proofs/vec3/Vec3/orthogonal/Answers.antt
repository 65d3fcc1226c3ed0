-- `orthogonal` meets its contract.
use Rattle.vectors.specs.Vec3.{orthogonal}
use Rattle.vectors.proofs.vec3.Vec3.orthogonal.Goals as goal

pub returns : goal.returns
unfolding orthogonal
returns c = rw (c.cross_prod_unit.ensures, c.axis.ensures)
