-- The bounds of Radius are the least of their kind: inputs that reach them. Definitions only.
use Rattle.std.specs.Prelude.{ℕ, ◌+◌, ◌-◌, ◌*◌, ◌^◌, ◌<◌, ◌≡◌, Float}
use Rattle.std.specs.Float.{binary64}
use Rattle.std.specs.Float.Ieee.{of_bits}
use Rattle.patterns.specs.Operators.{◌⊗◌}
use Rattle.patterns.specs.Units.{units_of}
use Rattle.bounds.specs.Radius.{Between, Radii}

-- The results differ by the angle times (s - r) and 2 ^ -n metre more.
abbrev pub Reaches : ℕ → Float → Float → Float → Type 0
Reaches n a r s = (units_of (a ⊗ s) - units_of (a ⊗ r)) * 2 ^ 1074 ≡ units_of a * (units_of s - units_of r) + 2 ^ (2148 - n)

-- 3.0 radians, and 2^30 - 10 * 2^-23 and 2^30 - 6 * 2^-23 metres: both products are halfway between two floats, and go to the even one, the first down and the
-- second up
abbrev pub three : Float
three = of_bits binary64 0x4008000000000000

abbrev pub lesser : Float
lesser = of_bits binary64 0x41cffffffffffff6

abbrev pub greater : Float
greater = of_bits binary64 0x41cffffffffffffa

-- twice as long: below 2 ^ 31 metres
abbrev pub twice_lesser : Float
twice_lesser = of_bits binary64 0x41dffffffffffff6

abbrev pub twice_greater : Float
twice_greater = of_bits binary64 0x41dffffffffffffa

-- 1.25 radians, and 1.75 + 2^-52 and 1.75 + 2^-51 metres
abbrev pub five_quarters : Float
five_quarters = of_bits binary64 0x3ff4000000000000

abbrev pub short : Float
short = of_bits binary64 0x3ffc000000000001

abbrev pub long : Float
long = of_bits binary64 0x3ffc000000000002

pub record Sharp : Type 0 where
  -- 2^-21 metre is reached, so no lesser bound holds
  pub angle : Between 0 4 three
  pub radii : Radii 30 lesser greater
  pub reached : Reaches 21 three lesser greater
  -- with radii up to 2^31 it is passed: 2^-20 is reached
  pub longer : Radii 31 twice_lesser twice_greater
  pub passed : Reaches 20 three twice_lesser twice_greater
  -- of two radii that differ the distances may be equal, and not only at an angle of zero
  pub level_angle : Between 0 4 five_quarters
  pub level_radii : Radii 30 short long
  pub apart : units_of short < units_of long
  pub level : units_of (five_quarters ⊗ short) ≡ units_of (five_quarters ⊗ long)
