-- Functions 10 to 13: the comparisons of numbers. Definitions only.
use Rattle.std.specs.Prelude.{ℕ, cond, eqb, Option, None}
use Rattle.jord.specs.Numbers as of_jord
use Rattle.probe_fields.specs.Answered.{Answered, gives}
use Rattle.probe_fields.specs.Args.{float, pass}
use Rattle.probe_fields.specs.Fields as fields
use Rattle.probe_fields.specs.declared.args.Args.{Args}

unfoldable pub numbers : ℕ → Args → Option Answered
numbers f a =
    cond (eqb f 0x10) (gives (fields.bool (of_jord.eq_zero (float a))) (pass a))
    (cond (eqb f 0x11) (gives (fields.bool (of_jord.eq (float a) (float (pass a)))) (pass (pass a)))
    (cond (eqb f 0x12) (gives (fields.bool (of_jord.lte (float a) (float (pass a)))) (pass (pass a)))
    (cond (eqb f 0x13) (gives (fields.bool (of_jord.gte (float a) (float (pass a)))) (pass (pass a)))
    None)))
