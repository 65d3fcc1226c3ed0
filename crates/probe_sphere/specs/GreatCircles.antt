-- Functions 60 to 65: angles between vectors, sides and great circles. Definitions only.
use Rattle.std.specs.Prelude.{ℕ, cond, eqb, Option, None}
use Rattle.arcs.specs.Base as base
use Rattle.arcs.specs.GreatCircle as great_circle
use Rattle.probe_fields.specs.Answered.{Answered, gives}
use Rattle.probe_fields.specs.Args.{angle, nvector, pass, pass3, vec3}
use Rattle.probe_fields.specs.Fields as fields
use Rattle.probe_fields.specs.declared.args.Args.{Args}

-- what a call of each comes to: its fields, and the arguments that are left
unfoldable pub great_circles : ℕ → Args → Option Answered
great_circles f a =
    cond (eqb f 0x60) (gives (fields.float (base.angle_radians_between (vec3 a) (vec3 (pass3 a)))) (pass3 (pass3 a)))
    (cond (eqb f 0x61) (gives (fields.float (base.angle_radians_about (vec3 a) (vec3 (pass3 a)) (vec3 (pass3 (pass3 a))))) (pass3 (pass3 (pass3 a))))
    (cond (eqb f 0x62) (gives (fields.vec3 (base.easting (vec3 a))) (pass3 a))
    (cond (eqb f 0x63) (gives (fields.side (base.side (vec3 a) (vec3 (pass3 a)) (vec3 (pass3 (pass3 a))))) (pass3 (pass3 (pass3 a))))
    (cond (eqb f 0x64) (gives (fields.vec3 (great_circle.normal (great_circle.new (nvector a) (nvector (pass3 a))))) (pass3 (pass3 a)))
    (cond (eqb f 0x65) (gives (fields.vec3 (great_circle.normal (great_circle.from_heading (nvector a) (angle (pass3 a))))) (pass (pass3 a)))
    None)))))
