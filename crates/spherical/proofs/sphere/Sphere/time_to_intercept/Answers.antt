-- `time_to_intercept` meets its contract.
use Rattle.walks.specs.Times.{time_to_intercept}
use Rattle.spherical.proofs.sphere.Sphere.time_to_intercept.Goals as goal

pub returns : goal.returns
unfolding time_to_intercept
returns c = rw (c.of_seconds.ensures, c.int_spd_nr_rec.ensures, c.chase_new-k.ensures)
