-- `orthogonal_to` meets its contract.
use mathlib.Core.Path.{sym, ◌∙◌}
use Rattle.vectors.specs.Vec3.{orthogonal_to}
use Rattle.vectors.proofs.vec3.Vec3.orthogonal_to.Goals as goal

pub returns-then-eq : goal.returns-then-eq
unfolding orthogonal_to
returns-then-eq c = rw (← c.stable_cross_prod_unit-r.ensures, sym c.eq.ensures ∙ c.if-eq.true) c.orthogonal.ensures

pub returns-else-eq : goal.returns-else-eq
unfolding orthogonal_to
returns-else-eq c = rw (← c.stable_cross_prod_unit-r.ensures, sym c.eq.ensures ∙ c.if-eq.false)
