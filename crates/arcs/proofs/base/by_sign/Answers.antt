-- `by_sign` meets its contract.
use Rattle.arcs.specs.Base.{by_sign}
use Rattle.arcs.proofs.base.by_sign.Goals as goal

pub returns-then-product : goal.returns-then-product
unfolding by_sign
returns-then-product c = rw c.if-product.true

pub returns-else-product : goal.returns-else-product
unfolding by_sign
returns-else-product c = rw c.if-product.false
