-- Functions 30 to 40: vectors. Definitions only.
use Rattle.std.specs.Prelude.{ℕ, cond, eqb, Option, None}
use Rattle.vectors.specs.Vec3 as vec3s
use Rattle.probe_fields.specs.Answered.{Answered, gives}
use Rattle.probe_fields.specs.Args.{float, pass, pass3, vec3}
use Rattle.probe_fields.specs.Fields as fields
use Rattle.probe_fields.specs.declared.args.Args.{Args}

-- what a call of each comes to: its fields, and the arguments that are left
unfoldable pub vectors : ℕ → Args → Option Answered
vectors f a =
    cond (eqb f 0x30) (gives (fields.vec3 (vec3 a)) (pass3 a))
    (cond (eqb f 0x31) (gives (fields.vec3 (vec3s.new_unit (float a) (float (pass a)) (float (pass (pass a))))) (pass (pass (pass a))))
    (cond (eqb f 0x32) (gives (fields.vec3 (vec3s.cross_prod (vec3 a) (vec3 (pass3 a)))) (pass3 (pass3 a)))
    (cond (eqb f 0x33) (gives (fields.vec3 (vec3s.cross_prod_unit (vec3 a) (vec3 (pass3 a)))) (pass3 (pass3 a)))
    (cond (eqb f 0x34) (gives (fields.float (vec3s.dot_prod (vec3 a) (vec3 (pass3 a)))) (pass3 (pass3 a)))
    (cond (eqb f 0x35) (gives (fields.vec3 (vec3s.orthogonal_to (vec3 a) (vec3 (pass3 a)))) (pass3 (pass3 a)))
    (cond (eqb f 0x36) (gives (fields.vec3 (vec3s.orthogonal (vec3 a))) (pass3 a))
    (cond (eqb f 0x37) (gives (fields.float (vec3s.norm (vec3 a))) (pass3 a))
    (cond (eqb f 0x38) (gives (fields.vec3 (vec3s.stable_cross_prod_unit (vec3 a) (vec3 (pass3 a)))) (pass3 (pass3 a)))
    (cond (eqb f 0x39) (gives (fields.vec3 (vec3s.stable_cross_prod (vec3 a) (vec3 (pass3 a)))) (pass3 (pass3 a)))
    (cond (eqb f 0x3a) (gives (fields.float (vec3s.squared_norm (vec3 a))) (pass3 a))
    (cond (eqb f 0x3b) (gives (fields.vec3 (vec3s.unit (vec3 a))) (pass3 a))
    (cond (eqb f 0x3c) (gives (fields.vec3 (vec3s.add (vec3 a) (vec3 (pass3 a)))) (pass3 (pass3 a)))
    (cond (eqb f 0x3d) (gives (fields.vec3 (vec3s.sub (vec3 a) (vec3 (pass3 a)))) (pass3 (pass3 a)))
    (cond (eqb f 0x3e) (gives (fields.vec3 (vec3s.mul (vec3 a) (float (pass3 a)))) (pass (pass3 a)))
    (cond (eqb f 0x3f) (gives (fields.vec3 (vec3s.div (vec3 a) (float (pass3 a)))) (pass (pass3 a)))
    (cond (eqb f 0x40) (gives (fields.vec3 (vec3s.neg (vec3 a))) (pass3 a))
    None))))))))))))))))
