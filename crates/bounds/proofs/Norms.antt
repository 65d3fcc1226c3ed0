-- The squared norm and the norm of any vector have clear sign bits. Assumes nothing.
use mathlib.Core.Path.{◌≡◌}
use mathlib.Core.Bool.{false}
use Rattle.patterns.specs.Bits.{sign_bit}
use Rattle.patterns.specs.Operators.{◌⊕◌, ◌⊗◌}
use Rattle.patterns.proofs.Sign.{square-sign, sum-sign}
use Rattle.roots.proofs.RootSign.{root-sign}
use Rattle.vectors.specs.Vec3.{squared_norm, norm}
use Rattle.vectors.specs.declared.vec3.Vec3.{Vec3}

pub squared-sign : (v : Vec3) → sign_bit (squared_norm v) ≡ false
squared-sign v =
    sum-sign (v.x ⊗ v.x ⊕ v.y ⊗ v.y) (v.z ⊗ v.z)
    (sum-sign (v.x ⊗ v.x) (v.y ⊗ v.y) (square-sign v.x) (square-sign v.y)) (square-sign v.z)

pub norm-sign : (v : Vec3) → sign_bit (norm v) ≡ false
norm-sign v = root-sign (squared_norm v) (squared-sign v)
