-- What the laws of proofs/ say of zeros and of the values that f64 holds. Definitions only.
use Rattle.std.specs.Prelude.{◌≡◌, Bool, false, ◌&&◌, T, Float}
use Rattle.std.specs.Float.{binary64}
use Rattle.std.specs.Float.Ieee.{eq, fits}
use Rattle.patterns.specs.Bits.{sign_bit}
use Rattle.vectors.specs.Literal.{zero}
use Rattle.vectors.specs.declared.vec3.Vec3.{Vec3}

-- x equals zero and has its sign bit set
abbrev pub is_minus_zero : Float → Bool
is_minus_zero x = sign_bit x && eq x zero

-- no part is -0
pub record NoMinusZero (v : Vec3) : Type 0 where
  pub x : is_minus_zero v.x ≡ false
  pub y : is_minus_zero v.y ≡ false
  pub z : is_minus_zero v.z ≡ false

-- each part is a value that f64 holds, as every part of a vector of the code is
pub record Held (v : Vec3) : Type 0 where
  pub x : T (fits binary64 v.x)
  pub y : T (fits binary64 v.y)
  pub z : T (fits binary64 v.z)
