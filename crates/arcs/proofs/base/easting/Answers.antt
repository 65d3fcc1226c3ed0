-- `easting` meets its contract.
use Rattle.arcs.specs.Base.{easting}
use Rattle.arcs.proofs.base.easting.Goals as goal

pub returns-then-magnitude : goal.returns-then-magnitude
unfolding easting
returns-then-magnitude c = rw (← c.magnitude.ensures, c.if-magnitude.true)

pub returns : goal.returns
unfolding easting
returns c = rw (← c.magnitude.ensures, c.if-magnitude.false) c.new_unit.ensures
