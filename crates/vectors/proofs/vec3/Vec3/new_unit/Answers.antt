-- `new_unit` meets its contract.
use Rattle.vectors.specs.Vec3.{new_unit}
use Rattle.vectors.proofs.vec3.Vec3.new_unit.Goals as goal

pub returns-then-n : goal.returns-then-n
unfolding new_unit
returns-then-n c = rw (← c.sqrt-n.ensures, c.if-n.true)

pub returns-else-n : goal.returns-else-n
unfolding new_unit
returns-else-n c = rw (← c.sqrt-n.ensures, c.if-n.false) c.new.ensures
