-- The plain board that a board of the code stands for, and demand 3 of every list of calls of the code. Definitions only.
use Rattle.std.specs.Prelude.{ℕ, ◌≤◌, false, List, [], ◌∷◌, ◌≡◌, Float, length, take}
use Rattle.plain.specs.declared.state.Board.{Board}
use Rattle.plain.specs.declared.state.Answered.{Answered}
use Rattle.plain.specs.declared.call.Call.{Call}
use Rattle.plain.specs.Call.{Answer}
use Rattle.plain.specs.Targets.{most_targets, listed}
use Rattle.plain.specs.Board.{Plain, fresh, answer, after, run, answers}
use Rattle.plain.specs.Asking.{mean, pick}
use Rattle.plain.specs.History.{Heard, accepts}
use Rattle.plain.specs.Exchange.{identities, exchanged, MayExchange}
use Rattle.plain.specs.Demand3.{Demand3}

-- the plain board that a board stands for, for every value of the type: the first 64 targets at most
unfoldable pub plain : Board → Plain
plain b = record { radius = b.radius; own = b.own; track = b.track; targets = listed b.targets; total = b.total }

-- a plain board whose targets past the 64th are dropped
unfoldable pub cut : Plain → Plain
cut p = record { radius = p.radius; own = p.own; track = p.track; targets = take most_targets p.targets; total = p.total }

-- what the contract of each call ensures, of the board and the call that came in
pub record Answers (b : Board) (c : Call) (r : Answered) : Type 0 where
  -- the answer is the plain board's
  pub answer_is : r.answer ≡ answer (plain b) c
  -- the board handed back stands for the plain board after the call
  pub board_is : plain r.board ≡ after (plain b) c
  -- "A refused call .. leaves the board .. as before": it is the very board that came in, the entries past its targets too
  pub refused_keeps : accepts r.answer ≡ false → r.board ≡ b

-- calls of the code, each on the board that the call before handed back, with their answers and the board that the last hands back
pub data Played : Board → List Call → List Answer → Board → Type 0 where
  ended : {b : Board} → Played b [] [] b
  then : {b last : Board} {c : Call} {cs : List Call} {rest : List Answer} (r : Answered)
      → Answers b c r → Played r.board cs rest last → Played b (c ∷ cs) (r.answer ∷ rest) last

-- calls, each with its answer
unfoldable pub paired : List Call → List Answer → List Heard
paired [] rs = []
paired (c ∷ cs) [] = []
paired (c ∷ cs) (r ∷ rs) = record { call = c; reply = r } ∷ paired cs rs

-- "The two are alike in the board they leave, in its mean position and in the answer to each call": of two lists of calls of the code,
-- the second made from the first by exchanges at the places ps
pub record RunsAlike (ps : List ℕ) (cs : List Call) (rs : List Answer) (last : Board) (rs' : List Answer) (last' : Board) : Type 0 where
  -- "the boards left are equal in all the state": they stand for the same plain board
  pub same_board : plain last' ≡ plain last
  pub same_mean : mean (plain last') ≡ mean (plain last)
  pub same_pick : pick (plain last') ≡ pick (plain last)
  -- "An exchanged call keeps its answer"
  pub same_answers : paired (exchanged ps cs) rs' ≡ exchanged ps (paired cs rs)

-- what is claimed of calls of the code from a fresh board of radius r
pub record Whole (r : Float) (cs : List Call) (rs : List Answer) (last : Board) : Type 0 where
  -- "each call answers as document 01's plain board does"
  pub answers_are : rs ≡ answers (fresh r) cs
  -- the board left stands for the plain board's: "After the list radius, own ship and track are the plain board's too"
  pub board_is : plain last ≡ run (fresh r) cs
  -- the rest of the demand, of the plain board's answers and of the board that it leaves
  pub demand : Demand3 r cs
  -- "Where such a list names at most 64 identities, take any list made from it by exchanging neighbours that name different targets,
  -- however many times": calls of the code by that list, on any fresh board of the same radius
  pub exchange : length (identities cs) ≤ most_targets → (ps : List ℕ) → MayExchange ps cs
      → (b' : Board) (rs' : List Answer) (last' : Board) → plain b' ≡ fresh r → Played b' (exchanged ps cs) rs' last'
      → RunsAlike ps cs rs last rs' last'

-- demand 3 of every list of calls of the code from this board
abbrev pub Demanded : Float → Board → Type 0
Demanded r b = (cs : List Call) (rs : List Answer) (last : Board) → Played b cs rs last → Whole r cs rs last
