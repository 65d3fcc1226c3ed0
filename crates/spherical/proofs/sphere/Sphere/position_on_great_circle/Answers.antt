-- `position_on_great_circle` meets its contract.
use Rattle.spherical.specs.Sphere.{position_on_great_circle}
use Rattle.spherical.proofs.sphere.Sphere.position_on_great_circle.Goals as goal

pub returns : goal.returns
unfolding position_on_great_circle
returns c =
    rw (
      c.new.ensures,
      c.unit.ensures,
      c.towards.ensures,
      c.cross_prod_unit-dir.ensures,
      c.orthogonal_to.ensures,
      c.as_vec3.ensures,
      c.as_vec3-v.ensures,
    )
