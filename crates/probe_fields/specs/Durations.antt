-- Functions 0c to 0e: durations. Definitions only.
use Rattle.std.specs.Prelude.{ℕ, cond, eqb, Option, None}
use Rattle.duration.specs.Duration as duration
use Rattle.probe_fields.specs.Answered.{Answered, gives}
use Rattle.probe_fields.specs.Args.{float, pass, whole}
use Rattle.probe_fields.specs.Fields as fields
use Rattle.probe_fields.specs.declared.args.Args.{Args}

unfoldable pub durations : ℕ → Args → Option Answered
durations f a =
    cond (eqb f 0x0c) (gives (fields.result fields.word fields.out_of_range (duration.from_seconds (float a))) (pass a))
    (cond (eqb f 0x0d) (gives (fields.result fields.word fields.out_of_range (duration.from_hours (float a))) (pass a))
    (cond (eqb f 0x0e) (gives (fields.float (duration.to_seconds (whole a))) (pass a))
    None))
