-- vec3.rs: vectors of three floats. Definitions only.
use Rattle.std.specs.Prelude.{Bool, cond, ◌&&◌, Float}
use Rattle.std.specs.Float.Ieee as Ieee
use Rattle.std.specs.Float.Ieee.{lt}
use Rattle.patterns.specs.Operators.{◌⊕◌, ◌⊖◌, ◌⊗◌, ◌⊘◌}
use Rattle.patterns.specs.Bits.{magnitude}
use Rattle.roots.specs.Root.{sqrt}
use Rattle.vectors.specs.Literal.{zero, one, minus_one}
use Rattle.vectors.specs.declared.vec3.Vec3.{Vec3}

-- three parts as they are
abbrev pub parts : Float → Float → Float → Vec3
parts x y z = record { x = x; y = y; z = z }

-- (1.0, 0.0, 0.0)
abbrev pub UNIT_X : Vec3
UNIT_X = parts one zero zero

-- (0.0, 1.0, 0.0)
abbrev pub UNIT_Y : Vec3
UNIT_Y = parts zero one zero

-- (0.0, 0.0, 1.0)
abbrev pub UNIT_Z : Vec3
UNIT_Z = parts zero zero one

-- (-1.0, 0.0, 0.0)
abbrev pub NEG_UNIT_X : Vec3
NEG_UNIT_X = parts minus_one zero zero

-- (0.0, -1.0, 0.0)
abbrev pub NEG_UNIT_Y : Vec3
NEG_UNIT_Y = parts zero minus_one zero

-- (0.0, 0.0, -1.0)
abbrev pub NEG_UNIT_Z : Vec3
NEG_UNIT_Z = parts zero zero minus_one

-- (0.0, 0.0, 0.0)
abbrev pub ZERO : Vec3
ZERO = parts zero zero zero

-- "`Vec3::new` adds 0.0 to each part, so -0 becomes +0"
abbrev pub new : Float → Float → Float → Vec3
new vx vy vz = parts (zero ⊕ vx) (zero ⊕ vy) (zero ⊕ vz)

-- self.x
abbrev pub x : Vec3 → Float
x v = v.x

-- self.y
abbrev pub y : Vec3 → Float
y v = v.y

-- self.z
abbrev pub z : Vec3 → Float
z v = v.z

-- if n == 0.0 { ZERO } else { s = 1.0 / n; new(s * vx, s * vy, s * vz) }
abbrev over_norm : Float → Float → Float → Float → Vec3
over_norm n vx vy vz = cond (Ieee.eq n zero) ZERO (new ((one ⊘ n) ⊗ vx) ((one ⊘ n) ⊗ vy) ((one ⊘ n) ⊗ vz))

-- "`new_unit` of norm zero is `Vec3::ZERO`", with n = (vx * vx + vy * vy + vz * vz).sqrt()
unfoldable pub new_unit : Float → Float → Float → Vec3
unfolding sqrt Ieee.eq Ieee.add Ieee.mul Ieee.div
new_unit vx vy vz = over_norm (sqrt (vx ⊗ vx ⊕ vy ⊗ vy ⊕ vz ⊗ vz)) vx vy vz

-- self.x * o.x + self.y * o.y + self.z * o.z
abbrev pub dot_prod : Vec3 → Vec3 → Float
dot_prod v o = v.x ⊗ o.x ⊕ v.y ⊗ o.y ⊕ v.z ⊗ o.z

-- self.dot_prod(self)
abbrev pub squared_norm : Vec3 → Float
squared_norm v = dot_prod v v

-- self.squared_norm().sqrt()
abbrev pub norm : Vec3 → Float
norm v = sqrt (squared_norm v)

-- ---- the operators

-- Vec3::new(self.x() + rhs.x(), ..)
abbrev pub add : Vec3 → Vec3 → Vec3
add v rhs = new (v.x ⊕ rhs.x) (v.y ⊕ rhs.y) (v.z ⊕ rhs.z)

-- Vec3::new(self.x() - rhs.x(), ..)
abbrev pub sub : Vec3 → Vec3 → Vec3
sub v rhs = new (v.x ⊖ rhs.x) (v.y ⊖ rhs.y) (v.z ⊖ rhs.z)

-- Vec3::new(self.x() * rhs, ..)
abbrev pub mul : Vec3 → Float → Vec3
mul v rhs = new (v.x ⊗ rhs) (v.y ⊗ rhs) (v.z ⊗ rhs)

-- Vec3::new(self.x() / rhs, ..)
abbrev pub div : Vec3 → Float → Vec3
div v rhs = new (v.x ⊘ rhs) (v.y ⊘ rhs) (v.z ⊘ rhs)

-- Vec3::new(-self.x, ..)
abbrev pub neg : Vec3 → Vec3
neg v = new (Ieee.neg v.x) (Ieee.neg v.y) (Ieee.neg v.z)

-- == of each part
abbrev pub eq : Vec3 → Vec3 → Bool
eq v o = Ieee.eq v.x o.x && (Ieee.eq v.y o.y && Ieee.eq v.z o.z)

-- if n == 0.0 { ZERO } else { (1.0 / n) * self }
abbrev unit_over : Float → Vec3 → Vec3
unit_over n v = cond (Ieee.eq n zero) ZERO (mul v (one ⊘ n))

-- with n = self.norm()
unfoldable pub unit : Vec3 → Vec3
unfolding sqrt Ieee.eq Ieee.add Ieee.mul Ieee.div
unit v = unit_over (norm v) v

-- ---- cross products

-- what `make` makes of the parts of v x o
abbrev pub crossed : (Float → Float → Float → Vec3) → Vec3 → Vec3 → Vec3
crossed make v o = make (v.y ⊗ o.z ⊖ v.z ⊗ o.y) (v.z ⊗ o.x ⊖ v.x ⊗ o.z) (v.x ⊗ o.y ⊖ v.y ⊗ o.x)

-- Vec3::new(x, y, z) of them
abbrev pub cross_prod : Vec3 → Vec3 → Vec3
cross_prod v o = crossed new v o

-- Vec3::new_unit(x, y, z) of them
abbrev pub cross_prod_unit : Vec3 → Vec3 → Vec3
cross_prod_unit v o = crossed new_unit v o

-- a = v2 + v1, with v1 for v and v2 for o
abbrev pub sums : Vec3 → Vec3 → Vec3
sums v o = parts (o.x ⊕ v.x) (o.y ⊕ v.y) (o.z ⊕ v.z)

-- b = v2 - v1
abbrev pub differences : Vec3 → Vec3 → Vec3
differences v o = parts (o.x ⊖ v.x) (o.y ⊖ v.y) (o.z ⊖ v.z)

-- a x b, through Vec3::new
abbrev pub stable_cross_prod : Vec3 → Vec3 → Vec3
stable_cross_prod v o = crossed new (sums v o) (differences v o)

-- a x b, through Vec3::new_unit
abbrev pub stable_cross_prod_unit : Vec3 → Vec3 → Vec3
stable_cross_prod_unit v o = crossed new_unit (sums v o) (differences v o)

-- "In `orthogonal` ties follow the `>` tests": ax > ay, ax > az, ay > az
abbrev pub axis_of : Float → Float → Float → Vec3
axis_of ax ay az = cond (lt ay ax) (cond (lt az ax) UNIT_Z UNIT_Y) (cond (lt az ay) UNIT_X UNIT_Y)

-- tmp: over self.x().abs(), self.y().abs(), self.z().abs()
unfoldable pub axis : Vec3 → Vec3
unfolding lt
axis v = axis_of (magnitude v.x) (magnitude v.y) (magnitude v.z)

-- self.cross_prod_unit(tmp)
unfoldable pub orthogonal : Vec3 → Vec3
unfolding axis new_unit Ieee.mul Ieee.sub
orthogonal v = cross_prod_unit v (axis v)

-- if r == ZERO { self.orthogonal() } else { r }
abbrev orthogonal_unless : Vec3 → Vec3 → Vec3
orthogonal_unless v r = cond (eq r ZERO) (orthogonal v) r

-- with r = self.stable_cross_prod_unit(o)
unfoldable pub orthogonal_to : Vec3 → Vec3 → Vec3
unfolding orthogonal new_unit Ieee.eq Ieee.add Ieee.sub Ieee.mul
orthogonal_to v o = orthogonal_unless v (stable_cross_prod_unit v o)
