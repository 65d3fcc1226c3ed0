-- Demand 3, as one claim about a list of calls from a fresh board. Definitions only.
use Rattle.std.specs.Prelude.{ℕ, ◌≤◌, ◌%◌, List, [], ◌∷◌, ◌↔◌, ◌≡◌, Float, length, Option, Some, None, Ok, Err}
use Rattle.jord.specs.declared.vehicle.Vehicle.{Vehicle}
use Rattle.walks.specs.Outcome.{count_of}
use Rattle.walks.specs.Counts.{Counted}
use Rattle.plain.specs.declared.line.Line.{Line}
use Rattle.plain.specs.declared.targets.Held.{Held}
use Rattle.plain.specs.declared.call.Call.{Call}
use Rattle.plain.specs.Call.{Answer}
use Rattle.plain.specs.Line.{totals}
use Rattle.plain.specs.Targets.{most_targets, find, RisingFrom}
use Rattle.plain.specs.Board.{Plain, fresh, run, answers}
use Rattle.plain.specs.Asking.{mean, pick, PickIs}
use Rattle.plain.specs.History.{heard, handed_out, LastReported, last_line}
use Rattle.plain.specs.Exchange.{identities, exchanged, MayExchange}

-- "Each step count in a line is from 1 to 50"
pub record CountsFit (l : Line) : Type 0 where
  pub closest : Counted (count_of l.closest)
  pub meeting : Counted (count_of l.meeting)
  pub longest : Counted (count_of l.longest)

-- each step count of the line in an answer, if there is one, is from 1 to 50
abbrev pub AnswerFits : Answer → Type 0
AnswerFits (Ok None) = Unit {0}
AnswerFits (Ok (Some l)) = CountsFit l
AnswerFits (Err r) = Unit {0}

abbrev pub AnswersFit : List Answer → Type 0
AnswersFit [] = Unit {0}
AnswersFit (a ∷ rest) = AnswerFits a × AnswersFit rest

-- each step count of a target's line, if it has one, is from 1 to 50
abbrev pub LineFits : Option Line → Type 0
LineFits None = Unit {0}
LineFits (Some l) = CountsFit l

-- target i stands on the board, with this held of it
abbrev pub Holds : Plain → ℕ → Held → Type 0
Holds b i h = find i b.targets ≡ Some h

-- target i stands on the board, with this report
pub record Stands (b : Plain) (i : ℕ) (v : Vehicle) : Type 0 where
  pub line : Option Line
  pub there : Holds b i (record { report = v; line = line })

-- "The two are alike in the board they leave, in its mean position and in the answer to each call"; "Two passes that differ only by demand
-- 3's exchanges, within its 64 identities, then send both ships to one buoy"
pub record Alike (r : Float) (cs : List Call) (ps : List ℕ) : Type 0 where
  pub same_board : run (fresh r) (exchanged ps cs) ≡ run (fresh r) cs
  pub same_mean : mean (run (fresh r) (exchanged ps cs)) ≡ mean (run (fresh r) cs)
  pub same_pick : pick (run (fresh r) (exchanged ps cs)) ≡ pick (run (fresh r) cs)
  -- an exchanged call keeps its answer: the calls of the exchanged list with their answers are those of the list, exchanged
  pub same_answers : heard (fresh r) (exchanged ps cs) ≡ exchanged ps (heard (fresh r) cs)

-- of the calls cs, one after the other, from a fresh board of radius r. `run (fresh r) cs` is the plain board that they leave,
-- `answers (fresh r) cs` what it answers to them, `heard (fresh r) cs` the calls each with its answer
pub record Demand3 (r : Float) (cs : List Call) : Type 0 where
  -- "Targets stand in rising identity", from 1
  pub rising : RisingFrom 1 (run (fresh r) cs).targets
  -- at most 64 of them
  pub at_most_64 : length (run (fresh r) cs).targets ≤ most_targets
  -- "a target stands on the board exactly when it has an accepted report and was not withdrawn since", "with its last accepted report"
  pub stands : (i : ℕ) (v : Vehicle) → Stands (run (fresh r) cs) i v ↔ LastReported i v (heard (fresh r) cs)
  -- "and the line, or none, that the plain board gives": that of its last solve, if nothing took it away since
  pub line : (i : ℕ) (h : Held) → Holds (run (fresh r) cs) i h → h.line ≡ last_line i None (heard (fresh r) cs)
  -- "Each step count in a line is from 1 to 50": in each line that a call returns
  pub counts_handed_out : AnswersFit (answers (fresh r) cs)
  -- "Each step count in a line is from 1 to 50": in each line that stands on the board
  pub counts_standing : (i : ℕ) (h : Held) → Holds (run (fresh r) cs) i h → LineFits h.line
  -- "the step total equals, modulo 2^32, the sum of all counts handed out"
  pub total : (run (fresh r) cs).total ≡ handed_out (answers (fresh r) cs) % totals
  -- "Pick must return the lowest identity among the targets whose found time is least"
  pub picks : PickIs (run (fresh r) cs).targets
  -- "Where such a list names at most 64 identities, take any list made from it by exchanging neighbours that name different targets,
  -- however many times"
  pub exchange : length (identities cs) ≤ most_targets → (ps : List ℕ) → MayExchange ps cs → Alike r cs ps
