-- `along_track_distance` meets its contract.
use Rattle.spherical.specs.Sphere.{along_track_distance}
use Rattle.spherical.proofs.sphere.Sphere.along_track_distance.Goals as goal

pub returns : goal.returns
unfolding along_track_distance
returns c =
    rw (
      c.mul.ensures,
      c.angle_radians_about-angle.ensures,
      c.as_vec3-2.ensures,
      c.cross_prod-along.ensures,
      c.cross_prod-across.ensures,
      c.as_vec3.ensures,
    )
