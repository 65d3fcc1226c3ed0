-- `max_time_to_intercept` meets its contract.
use Rattle.walks.specs.Times.{max_time_to_intercept}
use Rattle.spherical.proofs.sphere.Sphere.max_time_to_intercept.Goals as goal

pub returns : goal.returns
unfolding max_time_to_intercept
returns c = rw (c.of_seconds.ensures, c.int_min_nr_rec.ensures, c.chase_start.ensures, c.chase_new-k.ensures)
