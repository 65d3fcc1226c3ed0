-- numbers.rs: comparisons within EPSILON. Definitions only.
use Rattle.std.specs.Prelude.{Bool, ◌||◌, Float}
use Rattle.std.specs.Float.{binary64}
use Rattle.std.specs.Float.Ieee.{of_bits, le}
use Rattle.patterns.specs.Operators.{◌⊖◌}
use Rattle.patterns.specs.Bits.{magnitude}
use Rattle.vectors.specs.Literal.{zero}

-- "EPSILON is 2^-52"
abbrev pub EPSILON : Float
EPSILON = of_bits binary64 0x3cb0000000000000

-- "`eq` is a magnitude at most EPSILON": (right - left).abs() <= EPSILON
abbrev pub eq : Float → Float → Bool
eq left right = le (magnitude (right ⊖ left)) EPSILON

-- eq(f, 0.0)
abbrev pub eq_zero : Float → Bool
eq_zero f = eq f zero

-- left <= right || eq(left, right)
abbrev pub lte : Float → Float → Bool
lte left right = le left right || eq left right

-- left >= right || eq(left, right)
abbrev pub gte : Float → Float → Bool
gte left right = le right left || eq left right
