-- Rows of document 01's table that concern this crate, and the working of the constants that are given by their bits. Those of the fraction stand in proofs/Fraction.antt.
use Rattle.std.specs.Prelude.{◌≡◌, refl, Ok, Err}
use Rattle.std.specs.Float.Ieee as Ieee
use Rattle.std.specs.Float.Ieee.{of_bits, of_int}
use Rattle.patterns.specs.Operators.{◌⊘◌, whole, pi}
use Rattle.jord.specs.Angle as angle
use Rattle.jord.specs.Length.{from_metres, mul}
use Rattle.jord.specs.declared.positions.NVector.{NVector}
use Rattle.spherical.specs.Interpolated.{number_of}
use Rattle.spherical.specs.Sphere as sphere
use Rattle.spherical.specs.Sphere.{EARTH, MOON, angle_to_distance}
use Rattle.spherical.specs.declared.interpolated.Outside.{Outside}
use Rattle.spherical.specs.declared.sphere.Sphere.{Sphere}

-- 2026-03: "Half a circle is `PI` times the radius", whatever the sphere, and so is minus half a circle
pub half-circle : (s : Sphere) → angle_to_distance s angle.HALF_CIRCLE ≡ mul (sphere.radius s) pi
unfolding angle_to_distance of_bits
half-circle s = refl

pub neg-half-circle : (s : Sphere) → angle_to_distance s angle.NEG_HALF_CIRCLE ≡ mul (sphere.radius s) pi
unfolding angle_to_distance of_bits
neg-half-circle s = refl

-- ---- the constants
pub earth : EARTH ≡ sphere.new (from_metres (whole 63710008 ⊘ whole 10))
unfolding Ieee.div of_bits of_int
earth = refl

pub moon : MOON ≡ sphere.new (from_metres (whole 1737400))
unfolding of_bits of_int
moon = refl

-- ---- the numbers of a position on the way: 0 of a position, else that which `Outside::number` gives
pub number-of-a-position : (p : NVector) → number_of (Ok p) ≡ 0
number-of-a-position p = refl

pub number-outside : (e : Outside) → number_of (Err e) ≡ 18
number-outside e = refl
