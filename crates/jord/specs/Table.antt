-- Rows of document 01's table that concern this crate, the working of the constants that are given by their bits, the code's constants, and what `==` is.
use Rattle.std.specs.Prelude.{◌≡◌, refl, true, false, pos, negsuc}
use Rattle.std.specs.Float.Ieee as Ieee
use Rattle.std.specs.Float.{fin}
use Rattle.std.specs.Float.Ieee.{neg, of_bits, of_int}
use Rattle.patterns.specs.Operators.{◌⊗◌, ◌⊘◌, pi, whole}
use Rattle.jord.specs.Numbers.{EPSILON, eq_zero}
use Rattle.jord.specs.Angle as angle
use Rattle.jord.specs.Angle.{from_radians, QUARTER_CIRCLE, NEG_QUARTER_CIRCLE, NEG_HALF_CIRCLE, FULL_CIRCLE, DBL_EPSILON, normalised, normalised_to}
use Rattle.jord.specs.Length.{NM_TO_M, KM_TO_M, ZERO, MAX}
use Rattle.jord.specs.Positions as positions
use Rattle.jord.specs.Speed.{KPH_TO_MPS, KNOTS_TO_MPS}
use Rattle.jord.specs.contracts.angle.AnglePartialEq.TheImpl as derived_angle
use Rattle.jord.specs.contracts.positions.NVectorPartialEq.TheImpl as derived_nvector
use Rattle.jord.specs.declared.angle.Angle.{Angle}
use Rattle.jord.specs.declared.angle.TheConstants.Angle as code_angle
use Rattle.jord.specs.declared.length.TheConstants.Length as code_length
use Rattle.jord.specs.declared.positions.NVector.{NVector}

-- "`eq_zero`: 2^-52 yes, 2^-51 no"
pub eq_zero_yes : eq_zero (fin false 1 (negsuc 51)) ≡ true
unfolding Ieee.le Ieee.sub of_bits
eq_zero_yes = refl

pub eq_zero_no : eq_zero (fin false 1 (negsuc 50)) ≡ false
unfolding Ieee.le Ieee.sub of_bits
eq_zero_no = refl

-- "`normalised` of a tiny negative angle gives 2π itself": here of -2^-1074
pub normalised-tiny-negative : normalised (from_radians (fin true 1 (negsuc 1073))) ≡ FULL_CIRCLE
unfolding normalised_to of_bits
normalised-tiny-negative = refl

-- of -0.0 it is -0.0
pub normalised-minus-zero : normalised (from_radians (fin true 0 (pos 0))) ≡ from_radians (fin true 0 (pos 0))
unfolding normalised_to of_bits
normalised-minus-zero = refl

-- ---- the constants
-- "EPSILON is 2^-52"
pub epsilon : EPSILON ≡ fin false 1 (negsuc 51)
unfolding of_bits
epsilon = refl

pub quarter-circle : QUARTER_CIRCLE ≡ from_radians (pi ⊘ whole 2)
unfolding Ieee.div of_bits of_int
quarter-circle = refl

pub neg-quarter-circle : NEG_QUARTER_CIRCLE ≡ from_radians (neg pi ⊘ whole 2)
unfolding Ieee.div neg of_bits of_int
neg-quarter-circle = refl

pub neg-half-circle : NEG_HALF_CIRCLE ≡ from_radians (neg pi)
unfolding neg of_bits
neg-half-circle = refl

pub full-circle : FULL_CIRCLE ≡ from_radians (whole 2 ⊗ pi)
unfolding Ieee.mul of_bits of_int
full-circle = refl

pub nm-to-m : NM_TO_M ≡ whole 1852
unfolding of_bits of_int
nm-to-m = refl

pub km-to-m : KM_TO_M ≡ whole 1000
unfolding of_bits of_int
km-to-m = refl

pub kph-to-mps : KPH_TO_MPS ≡ whole 1000 ⊘ whole 3600
unfolding Ieee.div of_bits of_int
kph-to-mps = refl

pub knots-to-mps : KNOTS_TO_MPS ≡ whole 1852 ⊘ whole 3600
unfolding Ieee.div of_bits of_int
knots-to-mps = refl

-- ---- the constants of the code that no function uses
pub the-neg-half-circle : code_angle.NEG_HALF_CIRCLE ≡ NEG_HALF_CIRCLE
the-neg-half-circle = refl

pub the-dbl-epsilon : code_angle.DBL_EPSILON ≡ DBL_EPSILON
the-dbl-epsilon = refl

pub no-length : code_length.ZERO ≡ ZERO
no-length = refl

pub greatest-length : code_length.MAX ≡ MAX
greatest-length = refl

-- ---- the functions that `==` answers by
pub same-angles : (a o : Angle) → derived_angle.ghosts.eq a o ≡ angle.eq a o
same-angles a o = refl

pub same-positions : (p o : NVector) → derived_nvector.ghosts.eq p o ≡ positions.eq p o
same-positions p o = refl
