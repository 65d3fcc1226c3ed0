-- great_circle.rs: great circles by the normal of their plane. Definitions only.
use Rattle.std.specs.Prelude.{cond, Float}
use Rattle.patterns.specs.Operators.{◌⊘◌}
use Rattle.float.specs.Trig.{sin, cos}
use Rattle.vectors.specs.Vec3 as vec3
use Rattle.jord.specs.Positions.{nvector_new, as_vec3}
use Rattle.vectors.specs.declared.vec3.Vec3.{Vec3}
use Rattle.jord.specs.declared.angle.Angle.{Angle}
use Rattle.jord.specs.declared.positions.NVector.{NVector}
use Rattle.arcs.specs.Base.{easting}
use Rattle.arcs.specs.declared.great_circle.GreatCircle.{GreatCircle}

-- GreatCircle { normal }
abbrev pub of_normal : Vec3 → GreatCircle
of_normal normal = record { normal = normal }

-- p1.as_vec3().orthogonal_to(p2.as_vec3())
abbrev pub new : NVector → NVector → GreatCircle
new p1 p2 = of_normal (vec3.orthogonal_to (as_vec3 p1) (as_vec3 p2))

-- n * (b_rads.sin() / n.norm()) - e * (b_rads.cos() / e.norm())
abbrev turned : Vec3 → Vec3 → Float → Vec3
turned e n bRads = vec3.sub (vec3.mul n (sin bRads ⊘ vec3.norm n)) (vec3.mul e (cos bRads ⊘ vec3.norm e))

-- n = p.as_vec3().cross_prod(e)
abbrev headed : Vec3 → Vec3 → Float → GreatCircle
headed v e bRads = of_normal (turned e (vec3.cross_prod v e) bRads)

-- with e = easting(p.as_vec3())
unfoldable pub from_heading : NVector → Angle → GreatCircle
from_heading p bearing = headed (as_vec3 p) (easting (as_vec3 p)) bearing.radians

-- self.normal
abbrev pub normal : GreatCircle → Vec3
normal g = g.normal

-- if n2 == Vec3::ZERO { NVector::new(p.as_vec3().orthogonal()) } else { NVector::new(n1.orthogonal_to(n2)) }
abbrev projected_by : Vec3 → Vec3 → Vec3 → NVector
projected_by v n1 n2 = cond (vec3.eq n2 vec3.ZERO) (nvector_new (vec3.orthogonal v)) (nvector_new (vec3.orthogonal_to n1 n2))

-- with n1 = self.normal, n2 = p.as_vec3().stable_cross_prod_unit(n1)
unfoldable pub projection : GreatCircle → NVector → NVector
projection g p = projected_by (as_vec3 p) g.normal (vec3.stable_cross_prod_unit (as_vec3 p) g.normal)
