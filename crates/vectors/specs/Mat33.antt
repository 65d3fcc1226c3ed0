-- mat33.rs: 3 by 3 matrices by rows. Definitions only.
use Rattle.vectors.specs.Vec3 as vec3
use Rattle.vectors.specs.declared.vec3.Vec3.{Vec3}
use Rattle.vectors.specs.declared.mat33.Mat33.{Mat33}

-- Self { r0, r1, r2 }
abbrev pub new : Vec3 → Vec3 → Vec3 → Mat33
new r0 r1 r2 = record { r0 = r0; r1 = r1; r2 = r2 }

-- { r0: UNIT_X, r1: UNIT_Y, r2: UNIT_Z }
abbrev pub IDENTITY : Mat33
IDENTITY = new vec3.UNIT_X vec3.UNIT_Y vec3.UNIT_Z

-- self.r0
abbrev pub row0 : Mat33 → Vec3
row0 m = m.r0

-- self.r1
abbrev pub row1 : Mat33 → Vec3
row1 m = m.r1

-- self.r2
abbrev pub row2 : Mat33 → Vec3
row2 m = m.r2

-- the columns as rows, each through Vec3::new
unfoldable pub transpose : Mat33 → Mat33
transpose m =
    new
    (vec3.new m.r0.x m.r1.x m.r2.x)
    (vec3.new m.r0.y m.r1.y m.r2.y)
    (vec3.new m.r0.z m.r1.z m.r2.z)

-- `Vec3 * Mat33`: the dot product with each row
unfoldable pub vec3_mul : Vec3 → Mat33 → Vec3
vec3_mul v rhs = vec3.new (vec3.dot_prod v rhs.r0) (vec3.dot_prod v rhs.r1) (vec3.dot_prod v rhs.r2)

-- each row of self with the rows of t
abbrev rows_by : Mat33 → Mat33 → Mat33
rows_by m t = new (vec3_mul m.r0 t) (vec3_mul m.r1 t) (vec3_mul m.r2 t)

-- with t2 = rhs.transpose()
unfoldable pub mul : Mat33 → Mat33 → Mat33
unfolding transpose vec3_mul
mul m rhs = rows_by m (transpose rhs)
