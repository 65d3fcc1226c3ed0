-- `angle_radians_about` meets its contract.
use Rattle.std.proofs.Common.{sym}
use Rattle.arcs.specs.Base.{angle_radians_about}
use Rattle.arcs.proofs.Signs.{neg-atan2}
use Rattle.arcs.proofs.base.angle_radians_about.Goals as goal

pub returns-then-d : goal.returns-then-d
unfolding angle_radians_about
returns-then-d c = rw (sym (rw c.cross_prod.ensures at c.dot_prod-d.ensures), c.if-d.true) c.angle_radians_between-angle.ensures

pub returns-else-d : goal.returns-else-d
unfolding angle_radians_about
returns-else-d c = rw (sym (rw c.cross_prod.ensures at c.dot_prod-d.ensures), c.if-d.false, c.angle_radians_between-angle.ensures) (neg-atan2 _ _)
