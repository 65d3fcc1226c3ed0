-- What is asked of a plain board: its mean position, and a pick, the lowest identity of the least time. Definitions only.
use Rattle.std.specs.Prelude.{ℕ, ◌≤◌, min, Bool, false, cond, ◌↔◌, ◌≡◌, eqb, Option, Some, None, Result, Ok, Err}
use mathlib.Core.List.{List, [], ◌∷◌, map, Memᴰ}
use Rattle.jord.specs.declared.positions.NVector.{NVector}
use Rattle.means.specs.Mean.{Mean, mean_of}
use Rattle.walks.specs.declared.Outcome.{Outcome}
use Rattle.walks.specs.declared.Outcome.TheVariants.{Found, ZeroDerivative, NotConverged, Negative, TooLong}
use Rattle.plain.specs.declared.line.Line.{Line}
use Rattle.plain.specs.declared.targets.Target.{Target}
use Rattle.plain.specs.declared.call.Refusal.{Refusal}
use Rattle.plain.specs.declared.call.Refusal.TheVariants.{NoMeeting}
use Rattle.plain.specs.Call.{number_of}
use Rattle.plain.specs.Board.{Plain}

-- ---- the mean

abbrev pub position_of : Target → NVector
position_of t = t.held.report.position

-- "mean position of all targets in rising identity"
unfoldable pub mean : Plain → Mean
mean b = mean_of (map position_of b.targets)

-- ---- pick

-- a found time, in nanoseconds
abbrev pub found_time : Outcome → Option ℕ
found_time (Found ns count) = Some ns
found_time (ZeroDerivative count) = None
found_time NotConverged = None
found_time (Negative count) = None
found_time (TooLong count) = None

abbrev pub line_time : Option Line → Option ℕ
line_time None = None
line_time (Some l) = found_time l.meeting

-- the found meeting time of a target's line, if there is one
abbrev pub meeting_time : Target → Option ℕ
meeting_time t = line_time t.held.line

-- the number of an answer to a pick; 0 is done
abbrev pub choice_number : Result ℕ Refusal → ℕ
choice_number (Ok i) = 0
choice_number (Err r) = number_of r

-- the identity picked; 0, which no target has, when refused
abbrev pub choice_identity : Result ℕ Refusal → ℕ
choice_identity (Ok i) = i
choice_identity (Err r) = 0

-- the lesser of two found times, if there is one
abbrev pub lesser : Option ℕ → Option ℕ → Option ℕ
lesser None o = o
lesser (Some s) None = Some s
lesser (Some s) (Some r) = Some (min s r)

-- the least of the found meeting times: "unsolved targets and refused times don't count"
unfoldable pub least_time : List Target → Option ℕ
least_time [] = None
least_time (t ∷ l) = lesser (meeting_time t) (least_time l)

-- is it a found time of s nanoseconds?
abbrev pub is_time : ℕ → Option ℕ → Bool
is_time s None = false
is_time s (Some r) = eqb s r

-- the first target of the list with this found time
unfoldable pub first_at : ℕ → List Target → Result ℕ Refusal
first_at s [] = Err NoMeeting
first_at s (t ∷ l) = cond (is_time s (meeting_time t)) (Ok t.identity) (first_at s l)

-- "Pick: does some target's line have a found meeting time? 19"
abbrev pub pick_at : Option ℕ → List Target → Result ℕ Refusal
pick_at None l = Err NoMeeting
pick_at (Some s) l = first_at s l

-- "the lowest identity among the targets whose found time is least": the first of them, for targets stand in rising identity
unfoldable pub pick_of : List Target → Result ℕ Refusal
pick_of l = pick_at (least_time l) l

abbrev pub pick : Plain → Result ℕ Refusal
pick b = pick_of b.targets

-- ---- what a pick is, without its way

-- a target of this identity stands in the list and has a found meeting time, none has a lesser one, and none of an equal time has a
-- lower identity
pub record LowestOfLeast (l : List Target) (i : ℕ) : Type 0 where
  pub target : Target
  pub stands : Memᴰ target l
  pub named : target.identity ≡ i
  pub time : ℕ
  pub meets : meeting_time target ≡ Some time
  pub least : (u : Target) (s : ℕ) → Memᴰ u l → meeting_time u ≡ Some s → time ≤ s
  pub lowest : (u : Target) → Memᴰ u l → meeting_time u ≡ Some time → i ≤ u.identity

-- no target of the list has a found meeting time
pub record NoneMeets (l : List Target) : Type 0 where
  pub none_meets : (u : Target) → Memᴰ u l → meeting_time u ≡ None

-- what a pick of a list says of it
pub record PickIs (l : List Target) : Type 0 where
  pub lowest_of_least : (i : ℕ) → (pick_of l ≡ Ok i) ↔ LowestOfLeast l i
  -- "Pick: does some target's line have a found meeting time? 19"
  pub no_meeting : (pick_of l ≡ Err NoMeeting) ↔ NoneMeets l
  -- and no other number
  pub nothing_else : (r : Refusal) → pick_of l ≡ Err r → r ≡ NoMeeting
