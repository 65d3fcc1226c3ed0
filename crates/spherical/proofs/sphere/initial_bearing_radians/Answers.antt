-- `initial_bearing_radians` meets its contract.
use Rattle.spherical.specs.Sphere.{initial_bearing_radians}
use Rattle.spherical.proofs.sphere.initial_bearing_radians.Goals as goal

pub returns : goal.returns
unfolding initial_bearing_radians
returns c =
    rw (
      c.angle_radians_about.ensures,
      c.westing-gc2.ensures,
      c.cross_prod-gc1.ensures,
      c.as_vec3.ensures,
      c.as_vec3-v.ensures,
    )
