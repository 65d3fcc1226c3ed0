-- The angle that an intruder has gone through, and a separation by its sine and cosine. These serve the code alone: steps and separation are those of `walks`.
use Rattle.std.specs.Prelude.{Float}
use Rattle.patterns.specs.Operators.{◌⊗◌, ◌⊘◌}
use Rattle.float.specs.Trig.{sin_cos}
use Rattle.float.specs.declared.trig.SinCos.{SinCos}
use Rattle.vectors.specs.Vec3 as vec3
use Rattle.vectors.specs.declared.vec3.Vec3.{Vec3}
use Rattle.arcs.specs.Base.{angle_radians_between}
use Rattle.walks.specs.declared.Chase.{Chase}
use Rattle.chases.specs.declared.Gone.{Gone}

-- sine and cosine of w2 * t, and of s2 / radius * t
abbrev pub gone_at : Chase → Float → Gone
gone_at k t = record { w2t = sin_cos (k.w2 ⊗ t); pos = sin_cos (k.s2 ⊘ k.radius ⊗ t) }

-- v0 * a.cos() + c * a.sin()
abbrev pub pos_by : Vec3 → Vec3 → SinCos → Vec3
pos_by v0 c a = vec3.add (vec3.mul v0 a.cos) (vec3.mul c a.sin)

-- angle_radians_between(v10, pos(..), None)
abbrev pub sep_by : Chase → SinCos → Float
sep_by k a = angle_radians_between k.v10 (pos_by k.v20 k.c2 a)
