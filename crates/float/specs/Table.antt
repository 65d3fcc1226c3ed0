-- Rows of document 01's table that concern the float ground, and the infinities and signed zeros beside them.
use Rattle.std.specs.Prelude.{◌≡◌, refl, Bool, true, false, pos, Float}
use Rattle.std.specs.Float.{nan, inf, fin, binary64}
use Rattle.std.specs.Float.Ieee.{mul, div, rem, of_bits, of_int}
use Rattle.patterns.specs.Operators.{pi, whole}
use Rattle.float.specs.Trig.{sin, cos, atan2}
use Rattle.float.specs.Degrees.{to_radians, to_degrees}

-- zero with a sign, and 1.0 with a sign
abbrev zero_of : Bool → Float
zero_of s = fin s 0 (pos 0)

abbrev unit_of : Bool → Float
unit_of s = fin s 1 (pos 0)

pub cosine-of-pi : cos pi ≡ unit_of true
unfolding cos of_bits
cosine-of-pi = refl

pub cosine-of-minus-zero : cos (zero_of true) ≡ unit_of false
unfolding cos of_bits
cosine-of-minus-zero = refl

pub cosine-of-infinity : cos (inf true) ≡ nan
unfolding cos of_bits
cosine-of-infinity = refl

pub cosine-of-nan : cos nan ≡ nan
unfolding cos of_bits
cosine-of-nan = refl

pub sine-of-minus-zero : sin (zero_of true) ≡ zero_of true
unfolding sin of_bits
sine-of-minus-zero = refl

pub sine-of-infinity : sin (inf false) ≡ nan
unfolding sin of_bits
sine-of-infinity = refl

pub sine-of-nan : sin nan ≡ nan
unfolding sin of_bits
sine-of-nan = refl

pub atan2-of-zero-minus-one : atan2 (zero_of false) (unit_of true) ≡ pi
unfolding atan2 of_bits
atan2-of-zero-minus-one = refl

pub atan2-of-zeros : atan2 (zero_of true) (zero_of false) ≡ zero_of true
unfolding atan2 of_bits
atan2-of-zeros = refl

pub atan2-of-minus-zeros : atan2 (zero_of true) (zero_of true) ≡ of_bits binary64 0xc00921fb54442d18
unfolding atan2 of_bits
atan2-of-minus-zeros = refl

pub atan2-of-infinities : atan2 (inf false) (inf false) ≡ of_bits binary64 0x3fe921fb54442d18
unfolding atan2 of_bits
atan2-of-infinities = refl

pub atan2-of-nan : atan2 nan (zero_of false) ≡ nan
unfolding atan2 of_bits
atan2-of-nan = refl

pub rem-by-infinity : rem binary64 (unit_of true) (inf false) ≡ unit_of true
unfolding rem
rem-by-infinity = refl

pub rem-of-minus-zero : rem binary64 (zero_of true) (unit_of false) ≡ zero_of true
unfolding rem
rem-of-minus-zero = refl

pub rem-by-zero : rem binary64 (unit_of false) (zero_of false) ≡ nan
unfolding rem
rem-by-zero = refl

pub radians-of-180 : to_radians (whole 180) ≡ pi
unfolding mul div of_int of_bits
radians-of-180 = refl

pub degrees-of-pi : to_degrees pi ≡ fin false 45 (pos 2)
unfolding mul div of_int of_bits
degrees-of-pi = refl
