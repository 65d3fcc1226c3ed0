-- `destination_position` meets its contract.
use Rattle.spherical.specs.Sphere.{destination_position}
use Rattle.spherical.proofs.sphere.Sphere.destination_position.Goals as goal

pub returns-then-distance : goal.returns-then-distance
unfolding destination_position
returns-then-distance c = rw c.if-distance.true

pub returns : goal.returns
unfolding destination_position
returns c =
    rw (c.if-distance.false, c.new.ensures, c.unit.ensures, c.towards.ensures, c.heading-dir.ensures, c.as_vec3-v.ensures)
