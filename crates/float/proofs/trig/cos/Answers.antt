-- `cos` meets its contract.
use Rattle.float.specs.Trig as spec
use Rattle.float.proofs.trig.cos.Goals as goal

pub returns : goal.returns
unfolding spec.cos
returns c = rw (c.cosine_at.ensures, c.reduce.ensures)
