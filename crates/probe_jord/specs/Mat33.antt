-- Functions 41 to 43: matrices of three rows. Definitions only.
use Rattle.std.specs.Prelude.{ℕ, cond, eqb, Option, None}
use Rattle.vectors.specs.Mat33 as mat33s
use Rattle.probe_fields.specs.Answered.{Answered, gives}
use Rattle.probe_fields.specs.Args.{mat33, pass3, pass9, vec3}
use Rattle.probe_fields.specs.Fields as fields
use Rattle.probe_fields.specs.declared.args.Args.{Args}

-- what a call of each comes to: its fields, and the arguments that are left
unfoldable pub matrices : ℕ → Args → Option Answered
matrices f a =
    cond (eqb f 0x41) (gives (fields.mat33 (mat33s.transpose (mat33 a))) (pass9 a))
    (cond (eqb f 0x42) (gives (fields.vec3 (mat33s.vec3_mul (vec3 a) (mat33 (pass3 a)))) (pass9 (pass3 a)))
    (cond (eqb f 0x43) (gives (fields.mat33 (mat33s.mul (mat33 a) (mat33 (pass9 a)))) (pass9 (pass9 a)))
    None))
