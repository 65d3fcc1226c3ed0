-- Degrees and radians. Definitions only.
use Rattle.std.specs.Prelude.{Float}
use Rattle.patterns.specs.Operators.{◌⊗◌, ◌⊘◌, whole, pi}

-- "Degrees to radians: times (`PI`/180.0)"
abbrev pub to_radians : Float → Float
to_radians x = x ⊗ (pi ⊘ whole 180)

-- "back: times (180.0/`PI`)"
abbrev pub to_degrees : Float → Float
to_degrees x = x ⊗ (whole 180 ⊘ pi)
