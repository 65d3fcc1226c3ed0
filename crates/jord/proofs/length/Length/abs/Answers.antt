-- `abs` meets its contract.
use Rattle.jord.specs.Length.{abs}
use Rattle.jord.proofs.length.Length.abs.Goals as goal

pub returns-then-self : goal.returns-then-self
unfolding abs
returns-then-self c = rw c.if-self.true

pub returns-else-self : goal.returns-else-self
unfolding abs
returns-else-self c = rw c.if-self.false
