-- `westing` meets its contract.
use Rattle.spherical.specs.Sphere.{westing}
use Rattle.spherical.proofs.sphere.westing.Goals as goal

pub returns-then-magnitude : goal.returns-then-magnitude
unfolding westing
returns-then-magnitude c = rw (← c.magnitude.ensures, c.if-magnitude.true)

pub returns : goal.returns
unfolding westing
returns c = rw (← c.magnitude.ensures, c.if-magnitude.false) c.new.ensures
