-- What a radius is worth (request 2026-11): of two distances of one angle under two radii. Definitions only.
-- A float stands here by its own value, a whole number of units of 2 ^ -1074 (`units_of`): 1.0 is 2 ^ 1074 of them. The only operation is the product.
use Rattle.std.specs.Prelude.{ℕ, ◌+◌, ◌-◌, ◌*◌, ◌^◌, ◌≤◌, true, false, not, ◌≡◌, T, Float}
use Rattle.std.specs.Float.{nan, binary64}
use Rattle.std.specs.Float.Ieee.{fits, is_nan}
use Rattle.std.specs.Float.Ieee.Scale.{finite}
use Rattle.patterns.specs.Bits.{sign_bit}
use Rattle.patterns.specs.Operators.{◌⊗◌, pi}
use Rattle.vectors.specs.Zero.{Held}
use Rattle.jord.specs.Length.{from_metres}
use Rattle.jord.specs.Positions.{as_vec3}
use Rattle.jord.specs.declared.positions.NVector.{NVector}
use Rattle.spherical.specs.Sphere as sphere
use Rattle.plain.specs.Questions as questions
use Rattle.patterns.specs.Units.{units_of, Near}

-- ---- "for an angle from 0 to 4 radians and radii r at most s, both from 1.0 to 2^30"

-- a finite value of f64 from lo to hi; -0.0 is 0
pub record Between (lo hi : ℕ) (x : Float) : Type 0 where
  pub held : T (fits binary64 x)
  pub is_finite : T (finite x)
  pub not_below : sign_bit x ≡ true → units_of x ≡ 0
  pub low : lo * 2 ^ 1074 ≤ units_of x
  pub high : units_of x ≤ hi * 2 ^ 1074

-- two radii up to 2 ^ k metres
pub record Radii (k : ℕ) (r s : Float) : Type 0 where
  pub first : Between 1 (2 ^ k) r
  pub second : Between 1 (2 ^ k) s
  pub rising : units_of r ≤ units_of s

-- ---- the two claims, of distances d and e under the radii r and s

-- "the distance under r is at most that under s": both are finite and not below zero
pub record AtMost (k : ℕ) (d e : Float) : Type 0 where
  pub first : Between 0 (2 ^ (k + 2)) d
  pub second : Between 0 (2 ^ (k + 2)) e
  pub rising : units_of d ≤ units_of e

-- "The exact difference of the two results is within 2^-n metre of the angle times (s - r), exact": over units of 2 ^ -2148, for a product of two values
-- is one of their units. Neither difference is cut at zero: r is at most s, and d at most e.
abbrev pub Worth : ℕ → Float → Float → Float → Float → Float → Type 0
Worth n a r s d e = Near ((units_of e - units_of d) * 2 ^ 1074) (units_of a * (units_of s - units_of r)) (2 ^ (2148 - n))

-- ---- "Distance here is the float product of angle and radius"

abbrev pub RadiusMono : Type 0
RadiusMono = (a r s : Float) → Between 0 4 a → Radii 30 r s → AtMost 30 (a ⊗ r) (a ⊗ s)

abbrev pub RadiusWorth : Type 0
RadiusWorth = (a r s : Float) → Between 0 4 a → Radii 30 r s → Worth 21 a r s (a ⊗ r) (a ⊗ s)

-- for radii up to another power of two: a power less, and the bound is half as wide
abbrev pub WorthUpTo : Type 0
WorthUpTo = (k : ℕ) → k ≤ 51 → (a r s : Float) → Between 0 4 a → Radii k r s → AtMost k (a ⊗ r) (a ⊗ s) × Worth (51 - k) a r s (a ⊗ r) (a ⊗ s)

-- ---- "as `distance` makes it"

-- the angle of two positions, and their distance under a radius
abbrev pub angle : NVector → NVector → Float
angle p1 p2 = (sphere.angle p1 p2).radians

abbrev pub distance : Float → NVector → NVector → Float
distance radius p1 p2 = (sphere.distance (sphere.new (from_metres radius)) p1 p2).metres

-- for every two positions and every radius it is that product
abbrev pub DistanceIs : Type 0
DistanceIs = (p1 p2 : NVector) (radius : Float) → distance radius p1 p2 ≡ angle p1 p2 ⊗ radius

-- whatever the positions, the angle is a NaN or lies from 0 to `PI` with its sign bit clear
pub record AnAngle (a : Float) : Type 0 where
  pub is_finite : T (finite a)
  pub sign_clear : sign_bit a ≡ false
  pub to_pi : units_of a ≤ units_of pi

abbrev pub AngleRange : Type 0
AngleRange = (p1 p2 : NVector) → T (not (is_nan (angle p1 p2))) → AnAngle (angle p1 p2)

-- so for every two positions the distances are NaN, both, or the two claims hold of them
pub record ByAngle (k n : ℕ) (p1 p2 : NVector) (r s : Float) : Type 0 where
  pub no_angle : T (is_nan (angle p1 p2)) → (distance r p1 p2 ≡ nan) × (distance s p1 p2 ≡ nan)
  pub mono : T (not (is_nan (angle p1 p2))) → AtMost k (distance r p1 p2) (distance s p1 p2)
  pub worth : T (not (is_nan (angle p1 p2))) → Worth n (angle p1 p2) r s (distance r p1 p2) (distance s p1 p2)

abbrev pub DistanceWorth : Type 0
DistanceWorth = (p1 p2 : NVector) (r s : Float) → Radii 30 r s → ByAngle 30 21 p1 p2 r s

-- the earth's radii are below 2 ^ 23 metres
abbrev pub EarthWorth : Type 0
EarthWorth = (p1 p2 : NVector) (r s : Float) → Radii 23 r s → ByAngle 23 28 p1 p2 r s

-- ---- which positions have an angle

-- a position that a board takes: "`squared_norm`, less 1.0, at most 2^-40 in magnitude", of floats that f64 holds, as those of the code are
pub record NearUnit (p : NVector) : Type 0 where
  pub held : Held (as_vec3 p)
  pub near_one : T (questions.unit p)

-- no two such positions have a NaN for their angle
abbrev pub UnitsHaveAngle : Type 0
UnitsHaveAngle = (p1 p2 : NVector) → NearUnit p1 → NearUnit p2 → T (not (is_nan (angle p1 p2)))
