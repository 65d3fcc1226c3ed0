-- `cross_track_distance` meets its contract: 2.0 is a whole number.
use lib.Ieee.{of_bits, of_int}
use Rattle.spherical.specs.Sphere.{cross_track_distance}
use Rattle.spherical.proofs.sphere.Sphere.cross_track_distance.Goals as goal

pub returns : goal.returns
unfolding cross_track_distance of_bits of_int
returns c = rw (c.mul.ensures, c.angle_radians_between-angle.ensures, c.as_vec3.ensures)
