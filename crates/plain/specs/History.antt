-- What a list of calls says of a target and hands out, told from the calls and their answers alone: no board is asked. Definitions only.
use Rattle.std.specs.Prelude.{ℕ, ◌+◌, Bool, true, false, cond, ◌&&◌, List, [], ◌∷◌, ◌++◌, ◌≡◌, eqb, Option, Some, None, Ok, Err}
use Rattle.jord.specs.declared.vehicle.Vehicle.{Vehicle}
use Rattle.plain.specs.declared.line.Line.{Line}
use Rattle.plain.specs.declared.call.Fix.{Fix}
use Rattle.plain.specs.declared.call.Call.{Call}
use Rattle.plain.specs.declared.call.Call.TheVariants.{Report, Withdraw, OwnShip, Track, Solve}
use Rattle.plain.specs.Line.{counts}
use Rattle.plain.specs.Call.{Answer, vehicle}
use Rattle.plain.specs.Board.{Plain, answer, after}

-- a call with its answer
pub record Heard : Type 0 where
  pub call : Call
  pub reply : Answer

-- the calls of a list in order, each with its answer
unfoldable pub heard : Plain → List Call → List Heard
heard b [] = []
heard b (c ∷ cs) = record { call = c; reply = answer b c } ∷ heard (after b c) cs

-- "A call is accepted when the plain board doesn't refuse it"
abbrev pub accepts : Answer → Bool
accepts (Ok l) = true
accepts (Err r) = false

-- ---- the counts handed out

-- "Counts handed out are all those in lines that calls of the list returned"
unfoldable pub given : Answer → ℕ
given (Ok None) = 0
given (Ok (Some l)) = counts l
given (Err r) = 0

unfoldable pub handed_out : List Answer → ℕ
handed_out [] = 0
handed_out (a ∷ rest) = given a + handed_out rest

-- ---- the last accepted report of target i

-- whether a call is a report or a withdrawal of target i
unfoldable pub speaks_of : ℕ → Call → Bool
speaks_of i (Report j f) = eqb i j
speaks_of i (Withdraw j) = eqb i j
speaks_of i (OwnShip f) = false
speaks_of i (Track s e) = false
speaks_of i (Solve j) = false

-- no call of the list is an accepted report or withdrawal of target i
abbrev pub Quiet : ℕ → List Heard → Type 0
Quiet i [] = Unit {0}
Quiet i (h ∷ hs) = (accepts h.reply && speaks_of i h.call ≡ false) × Quiet i hs

-- "it has an accepted report and was not withdrawn since", and v is the last: somewhere in the list stands an accepted report of
-- target i, v is its vehicle, and after it stands no accepted report or withdrawal of i
pub record LastReported (i : ℕ) (v : Vehicle) (hs : List Heard) : Type 0 where
  pub fix : Fix
  pub of_fix : v ≡ vehicle fix
  pub before : List Heard
  pub since : List Heard
  pub reply : Answer
  pub accepted : accepts reply ≡ true
  pub split : hs ≡ before ++ (record { call = Report i fix; reply = reply } ∷ since)
  pub quiet : Quiet i since

-- ---- the line of target i: a solve of it gives it; a report and a withdrawal of it, an own ship and a track take it away

unfoldable pub line_given : Answer → Option Line → Option Line
line_given (Ok None) x = x
line_given (Ok (Some l)) x = Some l
line_given (Err r) x = x

unfoldable pub new_line : ℕ → Call → Answer → Option Line → Option Line
new_line i (Report j f) a x = cond (eqb i j) None x
new_line i (Withdraw j) a x = cond (eqb i j) None x
new_line i (OwnShip f) a x = None
new_line i (Track s e) a x = None
new_line i (Solve j) a x = cond (eqb i j) (line_given a x) x

-- a refused call makes nothing of it
unfoldable pub hear_line : ℕ → Call → Answer → Option Line → Option Line
hear_line i c a x = cond (accepts a) (new_line i c a x) x

-- what the list makes of the line x
unfoldable pub last_line : ℕ → Option Line → List Heard → Option Line
last_line i x [] = x
last_line i x (h ∷ later) = last_line i (hear_line i h.call h.reply x) later
