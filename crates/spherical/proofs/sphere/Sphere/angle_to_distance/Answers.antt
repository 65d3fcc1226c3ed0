-- `angle_to_distance` meets its contract: half a circle needs no case of its own (`arc-of`).
use mathlib.Core.Path.{◌≡◌}
use Rattle.jord.specs.Angle.{abs, from_radians}
use Rattle.jord.specs.declared.angle.Angle.{Angle}
use Rattle.spherical.specs.declared.sphere.Sphere.{Sphere}
use Rattle.jord.specs.Length.{mul_angle}
use Rattle.spherical.specs.Sphere.{angle_to_distance}
use Rattle.spherical.proofs.HalfCircle.{less_halves, arc-of}
use Rattle.spherical.proofs.sphere.Sphere.angle_to_distance.Goals as goal

-- what is owed, over the result of `abs`
owed : (s : Sphere) (a b : Angle) → b ≡ abs a → angle_to_distance s a ≡ mul_angle s.radius (from_radians (less_halves b.radians))
unfolding angle_to_distance
owed s a b e = rw e (arc-of s.radius a.radians)

pub returns-then-abs_angle : goal.returns-then-abs_angle
returns-then-abs_angle c = rw (owed _ _ _ c.abs-abs_angle.ensures, c.if-abs_angle.true) c.mul_angle.ensures

pub returns : goal.returns
returns c = rw (owed _ _ _ c.abs-abs_angle.ensures, c.if-abs_angle.false, ← c.rem.ensures) c.mul_angle-2.ensures
