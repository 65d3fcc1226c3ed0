-- Rows of document 01's table that concern this crate.
use Rattle.std.specs.Prelude.{◌≡◌, refl, [], ◌∷◌, Ok, Err}
use Rattle.std.specs.Float.Ieee.{of_bits}
use Rattle.vectors.specs.Literal.{zero, one, minus_one}
use Rattle.vectors.specs.Vec3.{UNIT_X, UNIT_Y, NEG_UNIT_X}
use Rattle.jord.specs.Positions.{nvector_new}
use Rattle.jord.specs.declared.positions.NVector.{NVector}
use Rattle.means.specs.Mean.{mean_position, triangle_mean_position, number_of}
use Rattle.means.specs.declared.NoMean.TheVariants.{Empty, Antipodal}

-- "Mean: none 16; X, -X 17; zero vector 17; X alone X"
pub mean_of_none : number_of (mean_position []) ≡ 16
unfolding mean_position
mean_of_none = refl

pub mean_of_opposites : number_of (mean_position (one ∷ zero ∷ zero ∷ minus_one ∷ zero ∷ zero ∷ [])) ≡ 17
unfolding mean_position of_bits
mean_of_opposites = refl

pub mean_of_zero : number_of (mean_position (zero ∷ zero ∷ zero ∷ [])) ≡ 17
unfolding mean_position of_bits
mean_of_zero = refl

pub mean_of_one : mean_position (one ∷ zero ∷ zero ∷ []) ≡ Ok (nvector_new UNIT_X)
unfolding mean_position of_bits
mean_of_one = refl

-- "one or two left over at the end count for nothing"
pub mean-left-over : mean_position (one ∷ zero ∷ zero ∷ minus_one ∷ zero ∷ []) ≡ Ok (nvector_new UNIT_X)
unfolding mean_position of_bits
mean-left-over = refl

-- a pair of the three antipodal
pub triangle-of-opposites : number_of (triangle_mean_position (nvector_new UNIT_X) (nvector_new UNIT_Y) (nvector_new NEG_UNIT_X)) ≡ 17
unfolding triangle_mean_position of_bits
triangle-of-opposites = refl

-- the number of a whole answer: 0 of a position, else that of why there is none, which `NoMean::number` gives
pub number-of-a-position : (p : NVector) → number_of (Ok p) ≡ 0
number-of-a-position p = refl

pub number-of-none : number_of (Err Empty) ≡ 16
number-of-none = refl

pub number-of-antipodal : number_of (Err Antipodal) ≡ 17
number-of-antipodal = refl
