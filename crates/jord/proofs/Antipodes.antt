-- The antipode of the antipode is the position again, up to the sign of zeros, and to be antipodes is symmetric. Assumes nothing.
use mathlib.Core.Path.{◌≡◌, ap, ◌∙◌}
use lib.Ieee.{binary64}
use Rattle.vectors.specs.Vec3.{new}
use Rattle.jord.specs.Positions.{nvector_new, as_vec3, antipode, is_antipode_of}
use Rattle.vectors.specs.Zero.{NoMinusZero, Held}
use Rattle.jord.specs.declared.positions.NVector.{NVector}
use Rattle.patterns.proofs.Sums.{add-comm-float}
use Rattle.vectors.proofs.PlusZero.{twice}
use Rattle.vectors.proofs.Vectors.{new-keeps}

-- for every position: each part through `Vec3::new`, so that a NaN stays and -0 becomes +0
pub antipode-twice : (p : NVector) → Held (as_vec3 p) → antipode (antipode p) ≡ nvector_new (new (as_vec3 p).x (as_vec3 p).y (as_vec3 p).z)
antipode-twice p h = rw (twice (as_vec3 p).x h.x, twice (as_vec3 p).y h.y, twice (as_vec3 p).z h.z)

-- the antipode of the antipode is the position itself where no part is -0
pub antipode-back : (p : NVector) → Held (as_vec3 p) → NoMinusZero (as_vec3 p) → antipode (antipode p) ≡ p
antipode-back p h n = antipode-twice p h ∙ ap nvector_new (new-keeps (as_vec3 p) h n)

pub is-antipode-of-comm : (p o : NVector) → is_antipode_of p o ≡ is_antipode_of o p
is-antipode-of-comm p o =
    let v = as_vec3 p in
    let w = as_vec3 o in
    rw (add-comm-float binary64 v.x w.x, add-comm-float binary64 v.y w.y, add-comm-float binary64 v.z w.z)
