-- Means, and the ways and angles on the sphere that no board needs, by their number. Definitions only.
use Rattle.std.specs.Prelude.{ℕ, Option}
use Rattle.probe_fields.specs.Answered.{Answered, or_else}
use Rattle.probe_ways.specs.Mean.{mean_calls}
use Rattle.probe_ways.specs.Ways.{ways}
use Rattle.probe_fields.specs.declared.args.Args.{Args}

unfoldable pub answer : ℕ → Args → Option Answered
answer f a = or_else (ways f a) (mean_calls f a)
