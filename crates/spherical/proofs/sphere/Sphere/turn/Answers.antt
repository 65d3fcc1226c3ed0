-- `turn` meets its contract.
use Rattle.spherical.specs.Sphere.{turn}
use Rattle.spherical.proofs.sphere.Sphere.turn.Goals as goal

pub returns : goal.returns
unfolding turn
returns c =
    rw (
      c.from_radians.ensures,
      c.angle_radians_about.ensures,
      c.orthogonal_to-n2.ensures,
      c.as_vec3-2.ensures,
      c.orthogonal_to-n1.ensures,
      c.as_vec3.ensures,
      c.as_vec3-v.ensures,
    )
