-- `angle_to_distance` before request 2026-03, and what of its answers the request keeps. Definitions only.
-- Before it half a circle, and minus half a circle, had twice the radius. All else is as in Sphere.
use Rattle.std.specs.Prelude.{cond, ◌≢◌, ◌≡◌, T}
use Rattle.std.specs.Float.Ieee as Ieee
use Rattle.std.specs.Float.{binary64}
use Rattle.std.specs.Float.Ieee.{fits}
use Rattle.patterns.specs.Operators.{whole}
use Rattle.jord.specs.Angle as angles
use Rattle.jord.specs.Length as lengths
use Rattle.jord.specs.declared.angle.Angle.{Angle}
use Rattle.jord.specs.declared.length.Length.{Length}
use Rattle.spherical.specs.Sphere as sphere
use Rattle.spherical.specs.declared.sphere.Sphere.{Sphere}

-- ---- the old rule

-- if abs_angle == HALF_CIRCLE { self.radius * 2.0 } else { self.radius * abs_angle.normalised_to(HALF_CIRCLE) }
abbrev pub arc_of : Length → Angle → Length
arc_of radius abs_angle =
    cond (angles.eq abs_angle angles.HALF_CIRCLE) (lengths.mul radius (whole 2))
    (lengths.mul_angle radius (angles.normalised_to abs_angle angles.HALF_CIRCLE))

-- document 01: "`angle_to_distance` of half a circle is twice the radius", with abs_angle = angle.abs()
unfoldable pub angle_to_distance : Sphere → Angle → Length
unfolding Ieee.eq
angle_to_distance s angle = arc_of s.radius (angles.abs angle)

-- ---- "The other angles keep their rule"

-- for any sphere and any angle that f64 holds, NaN and infinities too, but half a circle and minus half a circle
abbrev pub OthersKeep : Type 0
OthersKeep =
    (s : Sphere) (a : Angle) → T (fits binary64 a.radians) → a ≢ angles.HALF_CIRCLE → a ≢ angles.NEG_HALF_CIRCLE
    → sphere.angle_to_distance s a ≡ angle_to_distance s a
