-- Functions 01 to 0b, and 8e: the floats. Definitions only.
use Rattle.std.specs.Prelude.{ℕ, cond, eqb, Option, None}
use Rattle.std.specs.Prelude.{from_bits}
use Rattle.std.specs.Float.{binary64}
use Rattle.std.specs.Float.Ieee as ieee
use Rattle.float.specs.Degrees as degrees
use Rattle.float.specs.Trig as trig
use Rattle.patterns.specs.Bits as patterns
use Rattle.roots.specs.Root as roots
use Rattle.probe_fields.specs.Answered.{Answered, gives}
use Rattle.probe_fields.specs.Args.{float, pass, whole}
use Rattle.probe_fields.specs.Fields as fields
use Rattle.probe_fields.specs.declared.args.Args.{Args}

unfoldable pub floats : ℕ → Args → Option Answered
floats f a =
    cond (eqb f 0x01) (gives (fields.bool (patterns.sign_bit (float a))) (pass a))
    (cond (eqb f 0x02) (gives (fields.float (patterns.magnitude (float a))) (pass a))
    (cond (eqb f 0x03) (gives (fields.word (ieee.to_bits binary64 (float a))) (pass a))
    (cond (eqb f 0x04) (gives (fields.float (from_bits binary64 (whole a))) (pass a))
    (cond (eqb f 0x05) (gives (fields.float (roots.sqrt (float a))) (pass a))
    (cond (eqb f 0x06) (gives (fields.float (ieee.rem binary64 (float a) (float (pass a)))) (pass (pass a)))
    (cond (eqb f 0x07) (gives (fields.float (trig.sin (float a))) (pass a))
    (cond (eqb f 0x08) (gives (fields.float (trig.cos (float a))) (pass a))
    (cond (eqb f 0x09) (gives (fields.float (trig.atan2 (float a) (float (pass a)))) (pass (pass a)))
    (cond (eqb f 0x0a) (gives (fields.float (degrees.to_radians (float a))) (pass a))
    (cond (eqb f 0x0b) (gives (fields.float (degrees.to_degrees (float a))) (pass a))
    (cond (eqb f 0x8e) (gives (fields.sin_cos (trig.sin_cos (float a))) (pass a))
    None)))))))))))
