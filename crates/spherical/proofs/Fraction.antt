-- The rows of document 01's table on the fraction of an interpolation. Assumes nothing.
use Rattle.std.specs.Prelude.{◌≡◌, refl, true, pos, Ok, Float}
use Rattle.std.specs.Float.{nan, fin}
use Rattle.std.specs.Float.Ieee.{of_bits}
use Rattle.vectors.specs.Literal.{one}
use Rattle.jord.specs.declared.positions.NVector.{NVector}
use Rattle.spherical.specs.Interpolated as interpolated
use Rattle.spherical.specs.Sphere.{interpolated_position}

-- "Fraction NaN 18; -0.0 the first end", whatever the two positions
pub fraction_nan : (p1 p2 : NVector) → interpolated.number_of (interpolated_position p1 p2 nan) ≡ 18
unfolding interpolated_position of_bits
fraction_nan p1 p2 = refl

abbrev minus_zero : Float
minus_zero = fin true 0 (pos 0)

pub fraction_minus_zero : (p1 p2 : NVector) → interpolated_position p1 p2 minus_zero ≡ Ok p1
unfolding interpolated_position of_bits
fraction_minus_zero p1 p2 = refl

-- 1.0 is within
pub fraction-one : (p1 p2 : NVector) → interpolated_position p1 p2 one ≡ Ok p2
unfolding interpolated_position of_bits
fraction-one p1 p2 = refl
