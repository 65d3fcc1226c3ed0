-- `Vec3::new` never gives a part of -0, and leaves every other part as it is. Assumes nothing.
use mathlib.Core.Path.{◌≡◌}
use lib.Ieee.{Float}
use Rattle.vectors.specs.Vec3.{parts, new}
use Rattle.vectors.specs.Zero.{NoMinusZero, Held}
use Rattle.vectors.specs.declared.vec3.Vec3.{Vec3}
use Rattle.vectors.proofs.PlusZero.{no_minus_zero, kept}

pub new-no-minus-zero : (vx vy vz : Float) → Held (parts vx vy vz) → NoMinusZero (new vx vy vz)
new-no-minus-zero vx vy vz h = record { x = no_minus_zero vx h.x; y = no_minus_zero vy h.y; z = no_minus_zero vz h.z }

pub new-keeps : (v : Vec3) → Held v → NoMinusZero v → new v.x v.y v.z ≡ v
new-keeps v h n = rw (kept v.x h.x n.x, kept v.y h.y n.y, kept v.z h.z n.z)
