-- length.rs: lengths in metres. Definitions only.
use Rattle.std.specs.Prelude.{cond, Float}
use Rattle.std.specs.Float.{binary64}
use Rattle.std.specs.Float.Ieee.{of_bits, le, neg}
use Rattle.patterns.specs.Operators.{◌⊗◌, ◌⊘◌}
use Rattle.vectors.specs.Literal.{zero}
use Rattle.jord.specs.declared.angle.Angle.{Angle}
use Rattle.jord.specs.declared.length.Length.{Length}

-- 0.3048
abbrev pub FT_TO_M : Float
FT_TO_M = of_bits binary64 0x3fd381d7dbf487fd

-- 1852.0
abbrev pub NM_TO_M : Float
NM_TO_M = of_bits binary64 0x409cf00000000000

-- 1000.0
abbrev pub KM_TO_M : Float
KM_TO_M = of_bits binary64 0x408f400000000000

-- Length { metres }
abbrev pub from_metres : Float → Length
from_metres metres = record { metres = metres }

-- 0.0
abbrev pub ZERO : Length
ZERO = from_metres zero

-- f64::MAX
abbrev pub MAX : Length
MAX = from_metres (of_bits binary64 0x7fefffffffffffff)

-- kilometres * KM_TO_M
abbrev pub from_kilometres : Float → Length
from_kilometres kilometres = from_metres (kilometres ⊗ KM_TO_M)

-- feet * FT_TO_M
abbrev pub from_feet : Float → Length
from_feet feet = from_metres (feet ⊗ FT_TO_M)

-- miles * NM_TO_M
abbrev pub from_nautical_miles : Float → Length
from_nautical_miles miles = from_metres (miles ⊗ NM_TO_M)

-- self.metres
abbrev pub as_metres : Length → Float
as_metres l = l.metres

-- self.metres / KM_TO_M
abbrev pub as_kilometres : Length → Float
as_kilometres l = l.metres ⊘ KM_TO_M

-- self.metres / FT_TO_M
abbrev pub as_feet : Length → Float
as_feet l = l.metres ⊘ FT_TO_M

-- self.metres / NM_TO_M
abbrev pub as_nautical_miles : Length → Float
as_nautical_miles l = l.metres ⊘ NM_TO_M

-- if self.metres >= 0.0 { *self } else { -self.metres }
unfoldable pub abs : Length → Length
unfolding le neg
abs l = cond (le zero l.metres) l (from_metres (neg l.metres))

-- self.metres * rhs
abbrev pub mul : Length → Float → Length
mul l rhs = from_metres (l.metres ⊗ rhs)

-- rhs.as_radians() * self.metres
abbrev pub mul_angle : Length → Angle → Length
mul_angle l rhs = from_metres (rhs.radians ⊗ l.metres)
