-- `unit` meets its contract.
use Rattle.std.proofs.Common.{sym, ◌∙◌}
use Rattle.vectors.proofs.Products.{unit-is-new_unit}
use Rattle.vectors.proofs.vec3.Vec3.unit.Goals as goal

pub returns : goal.returns
returns c = c.new_unit.ensures ∙ sym (unit-is-new_unit c.args.self)
