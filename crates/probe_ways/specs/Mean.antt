-- Functions 79 and 8d: the mean of as many coordinates, or positions, as the line has. Definitions only.
use Rattle.std.specs.Prelude.{ℕ, zero, suc, ◌/◌, cond, eqb, Float, List, [], ◌∷◌, min, Option, None}
use Rattle.means.specs.Mean as means
use Rattle.jord.specs.declared.positions.NVector.{NVector}
use Rattle.probe_fields.specs.Answered.{Answered, gives}
use Rattle.probe_fields.specs.Args.{float, left, nvector, pass, pass3, pass_rest}
use Rattle.probe_fields.specs.Fields as fields
use Rattle.probe_fields.specs.declared.args.Args.{Args}

-- a call has this many arguments at most
abbrev pub most_arguments : ℕ
most_arguments = 18

-- the next n floats
abbrev pub floats : ℕ → Args → List Float
floats zero a = []
floats (suc n) a = float a ∷ floats n (pass a)

-- past n fields
abbrev pub past_floats : ℕ → Args → Args
past_floats zero a = a
past_floats (suc n) a = past_floats n (pass a)

-- the next n positions
abbrev pub positions : ℕ → Args → List NVector
positions zero a = []
positions (suc n) a = nvector a ∷ positions n (pass3 a)

-- past the fields of n positions
abbrev pub past_positions : ℕ → Args → Args
past_positions zero a = a
past_positions (suc n) a = past_positions n (pass3 a)

-- how many coordinates there are
abbrev pub coordinates : Args → ℕ
coordinates a = min (left a) most_arguments

-- how many positions there are
abbrev pub places : Args → ℕ
places a = min (left a / 3) (most_arguments / 3)

-- what a call of each comes to: its fields, and the arguments that are left
unfoldable pub mean_calls : ℕ → Args → Option Answered
mean_calls f a =
    cond (eqb f 0x79) (gives (fields.result fields.nvector fields.no_mean (means.mean_position (floats (coordinates a) a))) (past_floats (coordinates a) a))
    (cond (eqb f 0x8d) (gives (fields.result fields.nvector fields.no_mean (means.mean_of (positions (places a) a))) (pass_rest a))
    None)
