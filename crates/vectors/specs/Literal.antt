-- The float literals of the source, each by its bits. Definitions only.
use Rattle.std.specs.Prelude.{Float}
use Rattle.std.specs.Float.{binary64}
use Rattle.std.specs.Float.Ieee.{of_bits}

-- 0.0
abbrev pub zero : Float
zero = of_bits binary64 0

-- 1.0
abbrev pub one : Float
one = of_bits binary64 0x3ff0000000000000

-- -1.0
abbrev pub minus_one : Float
minus_one = of_bits binary64 0xbff0000000000000
