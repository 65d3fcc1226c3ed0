-- `distance_to_angle` meets its contract.
use mathlib.Core.Path.{◌≡◌}
use Rattle.patterns.specs.Operators.{pi}
use Rattle.jord.specs.Length.{abs, mul}
use Rattle.jord.specs.declared.length.Length.{Length}
use Rattle.spherical.specs.declared.sphere.Sphere.{Sphere}
use Rattle.spherical.specs.Sphere.{angle_of, distance_to_angle}
use Rattle.spherical.proofs.sphere.Sphere.distance_to_angle.Goals as goal

-- the tests of `distance_to_angle` over the results of the calls
by_size : (s : Sphere) (d a m : Length) → a ≡ abs d → m ≡ mul s.radius pi → distance_to_angle s d ≡ angle_of a.metres m.metres s.radius.metres
unfolding distance_to_angle
by_size s d a m e f = rw (f, e)

pub returns-then-abs_dist-max_distance : goal.returns-then-abs_dist-max_distance
returns-then-abs_dist-max_distance c = rw (by_size _ _ _ _ c.abs-abs_dist.ensures c.mul-max_distance.ensures, c.if-abs_dist-max_distance.true)

pub returns-then-abs_dist-max_distance-2 : goal.returns-then-abs_dist-max_distance-2
returns-then-abs_dist-max_distance-2 c =
    rw (
      by_size _ _ _ _ c.abs-abs_dist.ensures c.mul-max_distance.ensures,
      c.if-abs_dist-max_distance.false,
      c.if-abs_dist-max_distance-2.true,
      ← c.rem-d.ensures,
    )
    c.from_radians.ensures

pub returns : goal.returns
returns c =
    rw (by_size _ _ _ _ c.abs-abs_dist.ensures c.mul-max_distance.ensures, c.if-abs_dist-max_distance.false, c.if-abs_dist-max_distance-2.false) c.from_radians-2.ensures
