-- Great circles and what a board's line holds by their number. Definitions only.
use Rattle.std.specs.Prelude.{ℕ, Option}
use Rattle.probe_fields.specs.Answered.{Answered, or_else}
use Rattle.probe_sphere.specs.GreatCircles.{great_circles}
use Rattle.probe_sphere.specs.Sphere.{sphere_calls}
use Rattle.probe_fields.specs.declared.args.Args.{Args}

unfoldable pub answer : ℕ → Args → Option Answered
answer f a = or_else (great_circles f a) (sphere_calls f a)
