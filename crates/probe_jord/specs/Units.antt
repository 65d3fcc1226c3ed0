-- Functions 14 to 28: angles, lengths and speeds, by their amounts in radians, metres and metres a second. Definitions only.
use Rattle.std.specs.Prelude.{ℕ, cond, eqb, Option, None}
use Rattle.jord.specs.Angle as angles
use Rattle.jord.specs.Length as lengths
use Rattle.jord.specs.Speed as speeds
use Rattle.probe_fields.specs.Answered.{Answered, gives}
use Rattle.probe_fields.specs.Args.{angle, float, length_of, pass, speed, whole}
use Rattle.probe_fields.specs.Fields as fields
use Rattle.probe_fields.specs.declared.args.Args.{Args}

-- what a call of each comes to: its fields, and the arguments that are left
unfoldable pub units : ℕ → Args → Option Answered
units f a =
    cond (eqb f 0x14) (gives (fields.angle (angles.from_degrees (float a))) (pass a))
    (cond (eqb f 0x15) (gives (fields.float (angles.as_degrees (angle a))) (pass a))
    (cond (eqb f 0x16) (gives (fields.angle (angles.abs (angle a))) (pass a))
    (cond (eqb f 0x17) (gives (fields.angle (angles.normalised (angle a))) (pass a))
    (cond (eqb f 0x18) (gives (fields.angle (angles.normalised_to (angle a) (angle (pass a)))) (pass (pass a)))
    (cond (eqb f 0x19) (gives (fields.angle (angles.mul (angle a) (float (pass a)))) (pass (pass a)))
    (cond (eqb f 0x1a) (gives (fields.length (lengths.from_kilometres (float a))) (pass a))
    (cond (eqb f 0x1b) (gives (fields.length (lengths.from_feet (float a))) (pass a))
    (cond (eqb f 0x1c) (gives (fields.length (lengths.from_nautical_miles (float a))) (pass a))
    (cond (eqb f 0x1d) (gives (fields.float (lengths.as_kilometres (length_of a))) (pass a))
    (cond (eqb f 0x1e) (gives (fields.float (lengths.as_feet (length_of a))) (pass a))
    (cond (eqb f 0x1f) (gives (fields.float (lengths.as_nautical_miles (length_of a))) (pass a))
    (cond (eqb f 0x20) (gives (fields.length (lengths.abs (length_of a))) (pass a))
    (cond (eqb f 0x21) (gives (fields.length (lengths.mul (length_of a) (float (pass a)))) (pass (pass a)))
    (cond (eqb f 0x22) (gives (fields.length (lengths.mul_angle (length_of a) (angle (pass a)))) (pass (pass a)))
    (cond (eqb f 0x23) (gives (fields.speed (speeds.div_duration (length_of a) (whole (pass a)))) (pass (pass a)))
    (cond (eqb f 0x24) (gives (fields.speed (speeds.from_kilometres_per_hour (float a))) (pass a))
    (cond (eqb f 0x25) (gives (fields.speed (speeds.from_knots (float a))) (pass a))
    (cond (eqb f 0x26) (gives (fields.float (speeds.as_kilometres_per_hour (speed a))) (pass a))
    (cond (eqb f 0x27) (gives (fields.float (speeds.as_knots (speed a))) (pass a))
    (cond (eqb f 0x28) (gives (fields.length (speeds.mul_duration (speed a) (whole (pass a)))) (pass (pass a)))
    None))))))))))))))))))))
