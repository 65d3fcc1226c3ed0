-- Units, vectors, matrices and positions by their number. Definitions only.
use Rattle.std.specs.Prelude.{ℕ, Option}
use Rattle.probe_fields.specs.Answered.{Answered, or_else}
use Rattle.probe_jord.specs.Mat33.{matrices}
use Rattle.probe_jord.specs.Positions.{positions_of}
use Rattle.probe_jord.specs.Units.{units}
use Rattle.probe_jord.specs.Vec3.{vectors}
use Rattle.probe_fields.specs.declared.args.Args.{Args}

unfoldable pub answer : ℕ → Args → Option Answered
answer f a = or_else (units f a) (or_else (vectors f a) (or_else (matrices f a) (positions_of f a)))
