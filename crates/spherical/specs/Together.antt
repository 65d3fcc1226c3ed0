-- "Table to prove of the definitions, together": every row of document 01's table, in its words and order, as one statement; `table` of proofs/Together.antt proves it.
use Rattle.std.specs.Prelude.{◌≡◌, true, false, [], ◌∷◌, pos, negsuc, Ok}
use Rattle.std.specs.Float.{nan, fin}
use Rattle.patterns.specs.Operators.{pi}
use Rattle.roots.specs.Root.{sqrt}
use Rattle.float.specs.Trig.{cos, atan2}
use Rattle.vectors.specs.Literal.{zero, one, minus_one}
use Rattle.jord.specs.Numbers.{eq_zero}
use Rattle.jord.specs.Angle as angle
use Rattle.jord.specs.Length.{from_metres}
use Rattle.jord.specs.Speed as speed
use Rattle.vectors.specs.Vec3.{UNIT_X, UNIT_Y, UNIT_Z, NEG_UNIT_Y, orthogonal}
use Rattle.jord.specs.Positions.{nvector_new}
use Rattle.jord.specs.Vehicle as vehicle
use Rattle.jord.specs.declared.positions.NVector.{NVector}
use Rattle.arcs.specs.Base.{side}
use Rattle.spherical.specs.Interpolated as interpolated
use Rattle.means.specs.Mean.{mean_position, number_of}
use Rattle.spherical.specs.Sphere as sphere
use Rattle.spherical.specs.Sphere.{interpolated_position, time_to_cpa}
use Rattle.arcs.specs.declared.Side.TheVariants.{Left, Right}
use Rattle.walks.specs.declared.Outcome.TheVariants.{ZeroDerivative}

pub record Together : Type 0 where
  -- "Root of 2^-1074 is 2^-537"
  pub root : sqrt (fin false 1 (negsuc 1073)) ≡ fin false 1 (negsuc 536)
  -- "`eq_zero`: 2^-52 yes, 2^-51 no"
  pub eq_zero_yes : eq_zero (fin false 1 (negsuc 51)) ≡ true
  pub eq_zero_no : eq_zero (fin false 1 (negsuc 50)) ≡ false
  -- "`orthogonal` of X is -Y"
  pub orthogonal_of_x : orthogonal UNIT_X ≡ NEG_UNIT_Y
  -- "`side`(Z, X, Y) Left; (Z, Y, X) Right; (-Y, X, X) Left"
  pub side_left : side UNIT_Z UNIT_X UNIT_Y ≡ Left
  pub side_right : side UNIT_Z UNIT_Y UNIT_X ≡ Right
  pub side_equal_ends : side NEG_UNIT_Y UNIT_X UNIT_X ≡ Left
  -- "Cosine of `PI` is -1; atan2(+0, -1) is `PI`"
  pub cosine : cos pi ≡ fin true 1 (pos 0)
  pub arc : atan2 (fin false 0 (pos 0)) (fin true 1 (pos 0)) ≡ pi
  -- "Mean: none 16; X, -X 17; zero vector 17; X alone X"
  pub mean_of_none : number_of (mean_position []) ≡ 16
  pub mean_of_opposites : number_of (mean_position (one ∷ zero ∷ zero ∷ minus_one ∷ zero ∷ zero ∷ [])) ≡ 17
  pub mean_of_zero : number_of (mean_position (zero ∷ zero ∷ zero ∷ [])) ≡ 17
  pub mean_of_one : mean_position (one ∷ zero ∷ zero ∷ []) ≡ Ok (nvector_new UNIT_X)
  -- "Fraction NaN 18; -0.0 the first end", whatever the two positions
  pub fraction_nan : (p1 p2 : NVector) → interpolated.number_of (interpolated_position p1 p2 nan) ≡ 18
  pub fraction_minus_zero : (p1 p2 : NVector) → interpolated_position p1 p2 (fin true 0 (pos 0)) ≡ Ok p1
  -- "Radius 1.0, both vehicles at X with bearing and speed zero: closest approach 12, count 1"
  pub at_rest : time_to_cpa (sphere.new (from_metres one)) (vehicle.new (nvector_new UNIT_X) angle.ZERO speed.ZERO)
      (vehicle.new (nvector_new UNIT_X) angle.ZERO speed.ZERO) ≡ ZeroDerivative 1
