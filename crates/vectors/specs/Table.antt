-- The row of document 01's table that concerns this crate, what `==` is, and the constants that no function uses.
use Rattle.std.specs.Prelude.{◌≡◌, refl}
use Rattle.std.specs.Float.Ieee.{of_bits}
use Rattle.vectors.specs.contracts.vec3.Vec3PartialEq.TheImpl as derived
use Rattle.vectors.specs.Vec3.{UNIT_X, NEG_UNIT_X, NEG_UNIT_Y, eq, orthogonal}
use Rattle.vectors.specs.Mat33.{IDENTITY}
use Rattle.vectors.specs.declared.vec3.Vec3.{Vec3}
use Rattle.vectors.specs.declared.mat33.TheConstants.Mat33 as code_mat33
use Rattle.vectors.specs.declared.vec3.TheConstants.Vec3 as code_vec3

-- "`orthogonal` of X is -Y"
pub orthogonal_of_x : orthogonal UNIT_X ≡ NEG_UNIT_Y
unfolding orthogonal of_bits
orthogonal_of_x = refl

-- the function of two vectors that `==` answers by
pub same-vectors : (v o : Vec3) → derived.ghosts.eq v o ≡ eq v o
same-vectors v o = refl

-- ---- the constants of the code
pub neg-unit-x : code_vec3.NEG_UNIT_X ≡ NEG_UNIT_X
neg-unit-x = refl

pub identity : code_mat33.IDENTITY ≡ IDENTITY
identity = refl
