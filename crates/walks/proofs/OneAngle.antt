-- The two angles of a step to an intercept are one float: both are the quotient of speed and radius, times the time. Assumes nothing.
use mathlib.Core.Path.{refl}
use Rattle.walks.specs.Walk.{chase_new}
use Rattle.walks.specs.OneAngle.{OneAngle}

pub one-angle : OneAngle
unfolding chase_new
one-angle radius interceptor intruder t = refl
