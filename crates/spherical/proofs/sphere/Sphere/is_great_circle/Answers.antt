-- `is_great_circle` meets its contract.
use Rattle.spherical.specs.Sphere.{is_great_circle}
use Rattle.spherical.proofs.sphere.Sphere.is_great_circle.Goals as goal

pub returns : goal.returns
unfolding is_great_circle
returns c = rw (c.is_antipode_of.ensures, c.ne.ensures)
