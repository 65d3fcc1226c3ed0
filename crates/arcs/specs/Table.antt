-- Rows of document 01's table that concern this crate, and the working of the constants that are given by their bits.
use Rattle.std.specs.Prelude.{◌≡◌, refl}
use Rattle.std.specs.Float.Ieee as Ieee
use Rattle.std.specs.Float.Ieee.{of_bits, of_int}
use Rattle.patterns.specs.Operators.{◌⊗◌, whole}
use Rattle.jord.specs.Numbers.{EPSILON}
use Rattle.vectors.specs.Vec3.{UNIT_X, UNIT_Y, UNIT_Z, NEG_UNIT_Y}
use Rattle.arcs.specs.Base.{TRIAGE_SIDE_EPS, side}
use Rattle.arcs.specs.declared.Side.TheVariants.{Left, Right}

-- "`side`(Z, X, Y) Left; (Z, Y, X) Right; (-Y, X, X) Left"
pub side_left : side UNIT_Z UNIT_X UNIT_Y ≡ Left
unfolding side of_bits
side_left = refl

pub side_right : side UNIT_Z UNIT_Y UNIT_X ≡ Right
unfolding side of_bits
side_right = refl

-- equal ends are not Collinear by themselves
pub side_equal_ends : side NEG_UNIT_Y UNIT_X UNIT_X ≡ Left
unfolding side of_bits
side_equal_ends = refl

pub triage-side-eps : TRIAGE_SIDE_EPS ≡ whole 10 ⊗ EPSILON
unfolding Ieee.mul of_bits of_int
triage-side-eps = refl
