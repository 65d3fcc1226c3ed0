-- A vector is made of length one in one way: the order of two factors is free. Assumes nothing.
use mathlib.Core.Path.{◌≡◌}
use Rattle.patterns.specs.Operators.{◌⊘◌}
use Rattle.patterns.proofs.Products.{product-comm}
use Rattle.vectors.specs.Literal.{one}
use Rattle.vectors.specs.Vec3.{norm, unit, new_unit}
use Rattle.vectors.specs.declared.vec3.Vec3.{Vec3}

pub unit-is-new_unit : (v : Vec3) → unit v ≡ new_unit v.x v.y v.z
unfolding unit new_unit
unit-is-new_unit v =
    let s = one ⊘ norm v in
    rw (product-comm v.x s, product-comm v.y s, product-comm v.z s)
