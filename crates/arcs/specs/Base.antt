-- base.rs: angles between vectors, the direction east, and the side of a great circle. Definitions only.
use Rattle.std.specs.Prelude.{cond, Float}
use Rattle.std.specs.Float.Ieee as Ieee
use Rattle.std.specs.Float.{binary64}
use Rattle.std.specs.Float.Ieee.{of_bits, le, lt}
use Rattle.patterns.specs.Bits.{magnitude}
use Rattle.float.specs.Trig.{atan2}
use Rattle.vectors.specs.Literal.{zero, one}
use Rattle.jord.specs.Numbers.{eq_zero}
use Rattle.vectors.specs.Vec3 as vec3
use Rattle.vectors.specs.declared.vec3.Vec3.{Vec3}
use Rattle.arcs.specs.declared.Side.{Side}
use Rattle.arcs.specs.declared.Side.TheVariants.{Left, Right, Collinear}

-- v1.cross_prod(v2).norm().atan2(v1.dot_prod(v2))
abbrev pub angle_radians_between : Vec3 → Vec3 → Float
angle_radians_between v1 v2 = atan2 (vec3.norm (vec3.cross_prod v1 v2)) (vec3.dot_prod v1 v2)

-- if d >= 0.0 { norm } else { -norm }, then atan2(cos_o)
abbrev pub angle_by : Float → Float → Float → Float
angle_by d norm cos_o = cond (le zero d) (atan2 norm cos_o) (atan2 (Ieee.neg norm) cos_o)

-- with d = p1xp2.dot_prod(vn)
unfoldable pub angle_radians_about : Vec3 → Vec3 → Vec3 → Float
angle_radians_about v1 v2 vn =
    angle_by (vec3.dot_prod (vec3.cross_prod v1 v2) vn) (vec3.norm (vec3.cross_prod v1 v2)) (vec3.dot_prod v1 v2)

-- if v.z().abs() == 1.0 { UNIT_Y } else { Vec3::new_unit(-v.y(), v.x(), 0.0) }
unfoldable pub easting : Vec3 → Vec3
unfolding vec3.new_unit Ieee.eq Ieee.neg
easting v = cond (Ieee.eq (magnitude v.z) one) vec3.UNIT_Y (vec3.new_unit (Ieee.neg v.y) v.x zero)

-- 10.0 * EPSILON, by its bits; Table has the working
abbrev pub TRIAGE_SIDE_EPS : Float
TRIAGE_SIDE_EPS = of_bits binary64 0x3ce4000000000000

-- if product > 0.0 { Left } else { Right }
unfoldable pub by_sign : Float → Side
unfolding lt
by_sign product = cond (lt zero product) Left Right

-- the triple product v0 . (v1 x v2)
abbrev pub triage_side : Vec3 → Vec3 → Vec3 → Float
triage_side v0 v1 v2 = vec3.dot_prod v0 (vec3.cross_prod v1 v2)

-- the product with the stable normal
abbrev pub exact_side : Vec3 → Vec3 → Vec3 → Float
exact_side v0 v1 v2 = vec3.dot_prod v0 (vec3.orthogonal_to v1 v2)

-- the one of the two products that decides
abbrev pub deciding : Vec3 → Vec3 → Vec3 → Float
deciding v0 v1 v2 = cond (le (magnitude (triage_side v0 v1 v2)) TRIAGE_SIDE_EPS) (exact_side v0 v1 v2) (triage_side v0 v1 v2)

-- "A triple product of magnitude above 10 EPSILON decides; else `orthogonal_to`, then Collinear within EPSILON"
abbrev pub side_by : Float → Float → Side
side_by triage exact = cond (le (magnitude triage) TRIAGE_SIDE_EPS) (cond (eq_zero exact) Collinear (by_sign exact)) (by_sign triage)

-- of the triple product v0 . (v1 x v2) and of v0.dot_prod(v1.orthogonal_to(v2))
unfoldable pub side : Vec3 → Vec3 → Vec3 → Side
unfolding vec3.orthogonal_to by_sign le Ieee.add Ieee.sub Ieee.mul
side v0 v1 v2 = side_by (triage_side v0 v1 v2) (exact_side v0 v1 v2)
