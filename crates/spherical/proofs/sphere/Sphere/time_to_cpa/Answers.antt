-- `time_to_cpa` meets its contract.
use Rattle.walks.specs.Times.{time_to_cpa}
use Rattle.spherical.proofs.sphere.Sphere.time_to_cpa.Goals as goal

pub returns : goal.returns
unfolding time_to_cpa
returns c = rw (c.of_hours.ensures, c.newton_raphson.ensures, c.cpa_new.ensures)
