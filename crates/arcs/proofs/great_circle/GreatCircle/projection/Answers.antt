-- `projection` meets its contract.
use mathlib.Core.Path.{sym, ◌∙◌}
use Rattle.arcs.specs.GreatCircle.{projection}
use Rattle.arcs.proofs.great_circle.GreatCircle.projection.Goals as goal

pub returns-then-eq : goal.returns-then-eq
unfolding projection
returns-then-eq c =
    rw (
      ← c.as_vec3-v.ensures,
      ← c.stable_cross_prod_unit-n2.ensures,
      sym c.eq.ensures
          ∙ c.if-eq.true,
      c.new.ensures,
      c.orthogonal.ensures,
    )

pub returns : goal.returns
unfolding projection
returns c =
    rw (
      ← c.as_vec3-v.ensures,
      ← c.stable_cross_prod_unit-n2.ensures,
      sym c.eq.ensures
          ∙ c.if-eq.false,
      c.new-2.ensures,
      c.orthogonal_to.ensures,
    )
