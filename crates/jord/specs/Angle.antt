-- angle.rs: angles in radians. Definitions only. A constant that the source works out is given by its bits; Table has the working.
use Rattle.std.specs.Prelude.{Bool, cond, ◌&&◌, Float}
use Rattle.std.specs.Float.Ieee as Ieee
use Rattle.std.specs.Float.{binary64}
use Rattle.std.specs.Float.Ieee.{of_bits, le, lt, rem}
use Rattle.patterns.specs.Operators.{◌⊕◌, ◌⊗◌, pi}
use Rattle.patterns.specs.Bits.{magnitude}
use Rattle.float.specs.Degrees.{to_radians, to_degrees}
use Rattle.vectors.specs.Literal.{zero}
use Rattle.jord.specs.Numbers.{EPSILON}
use Rattle.jord.specs.declared.angle.Angle.{Angle}

-- Angle { radians }
abbrev pub from_radians : Float → Angle
from_radians radians = record { radians = radians }

-- self.radians
abbrev pub as_radians : Angle → Float
as_radians a = a.radians

-- 0.0
abbrev pub ZERO : Angle
ZERO = from_radians zero

-- PI / 2.0
abbrev pub QUARTER_CIRCLE : Angle
QUARTER_CIRCLE = from_radians (of_bits binary64 0x3ff921fb54442d18)

-- -PI / 2.0
abbrev pub NEG_QUARTER_CIRCLE : Angle
NEG_QUARTER_CIRCLE = from_radians (of_bits binary64 0xbff921fb54442d18)

-- PI
abbrev pub HALF_CIRCLE : Angle
HALF_CIRCLE = from_radians pi

-- -PI
abbrev pub NEG_HALF_CIRCLE : Angle
NEG_HALF_CIRCLE = from_radians (of_bits binary64 0xc00921fb54442d18)

-- 2.0 * PI
abbrev pub FULL_CIRCLE : Angle
FULL_CIRCLE = from_radians (of_bits binary64 0x401921fb54442d18)

-- f64::EPSILON
abbrev pub DBL_EPSILON : Angle
DBL_EPSILON = from_radians EPSILON

-- self.radians.to_degrees()
abbrev pub as_degrees : Angle → Float
as_degrees a = to_degrees a.radians

-- degrees.to_radians()
abbrev pub from_degrees : Float → Angle
from_degrees degrees = from_radians (to_radians degrees)

-- self.radians.abs()
abbrev pub abs : Angle → Angle
abs a = from_radians (magnitude a.radians)

-- if res < 0.0 { res + max.radians } else { res }
abbrev wrapped : Float → Float → Angle
wrapped res max = cond (lt res zero) (from_radians (res ⊕ max)) (from_radians res)

-- if self.radians >= 0.0 && self.radians < max.radians { *self } else { .. }, with res = self.radians % max.radians
unfoldable pub normalised_to : Angle → Angle → Angle
unfolding le lt rem Ieee.add
normalised_to a max =
    cond (le zero a.radians && lt a.radians max.radians) a
    (wrapped (rem binary64 a.radians max.radians) max.radians)

-- self.normalised_to(FULL_CIRCLE)
abbrev pub normalised : Angle → Angle
normalised a = normalised_to a FULL_CIRCLE

-- self.radians * rhs
abbrev pub mul : Angle → Float → Angle
mul a rhs = from_radians (a.radians ⊗ rhs)

-- self.radians == o.radians
abbrev pub eq : Angle → Angle → Bool
eq a o = Ieee.eq a.radians o.radians
