-- The calls of the float ground, numbers and durations by their number. Definitions only.
use Rattle.std.specs.Prelude.{ℕ, Option}
use Rattle.probe_fields.specs.Answered.{Answered, or_else}
use Rattle.probe_fields.specs.Durations.{durations}
use Rattle.probe_fields.specs.Floats.{floats}
use Rattle.probe_fields.specs.Numbers.{numbers}
use Rattle.probe_fields.specs.declared.args.Args.{Args}

unfoldable pub answer : ℕ → Args → Option Answered
answer f a = or_else (floats f a) (or_else (durations f a) (numbers f a))
