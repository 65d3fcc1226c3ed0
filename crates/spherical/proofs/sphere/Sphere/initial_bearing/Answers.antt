-- `initial_bearing` meets its contract.
use mathlib.Core.Path.{sym, ◌∙◌}
use Rattle.spherical.specs.Sphere.{initial_bearing}
use Rattle.spherical.proofs.sphere.Sphere.initial_bearing.Goals as goal

pub returns-then-is_great_circle : goal.returns-then-is_great_circle
unfolding initial_bearing
returns-then-is_great_circle c =
    rw (
      sym c.is_great_circle.ensures
          ∙ c.if-is_great_circle.true,
      c.compass.ensures,
      c.initial_bearing_radians.ensures,
    )

pub returns-else-is_great_circle : goal.returns-else-is_great_circle
unfolding initial_bearing
returns-else-is_great_circle c = rw (sym c.is_great_circle.ensures ∙ c.if-is_great_circle.false)
