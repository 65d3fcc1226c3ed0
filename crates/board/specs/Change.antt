-- What a call makes of the parts that the code holds of a board: the questions put to them, and the change of the array of targets.
-- Definitions only.
use Rattle.std.specs.Prelude.{ℕ, ◌+◌, ◌-◌, ◌<◌, List, ◌∷◌, ◌++◌, map, ◌≡◌, Float, length, take, drop, set, Option, Some, None, Result, Ok, Err}
use Rattle.jord.specs.declared.vehicle.Vehicle.{Vehicle}
use Rattle.plain.specs.declared.line.Ends.{Ends}
use Rattle.plain.specs.declared.targets.Held.{Held}
use Rattle.plain.specs.declared.targets.Target.{Target}
use Rattle.plain.specs.declared.targets.Targets.{Targets}
use Rattle.targets.specs.declared.Change.{Change}
use Rattle.targets.specs.declared.Change.TheVariants.{Stores, Inserts, Removes, Sweeps}
use Rattle.plain.specs.declared.call.Call.{Call}
use Rattle.plain.specs.declared.call.Call.TheVariants.{Report, Withdraw, OwnShip, Track, Solve}
use Rattle.plain.specs.Call.{Answer}
use Rattle.plain.specs.Targets.{most_targets, find, bare_target, at_most, listed}
use Rattle.targets.specs.Slots.{spot_from}
use Rattle.plain.specs.Questions.{ask, identity_asked, fix_asked, ends_asked, held_asked, room_asked, see, solved}
use Rattle.plain.specs.Board.{targets_after}

-- the identity that a call names, or 0
abbrev pub name_of : Call → ℕ
name_of (Report i f) = i
name_of (Withdraw i) = i
name_of (OwnShip f) = 0
name_of (Track s e) = 0
name_of (Solve i) = i

-- a search of these targets: where the identity stands or would, and what is held under it
pub record Seeks (l : List Target) (x : ℕ) (s : Result ℕ ℕ) (f : Option Held) : Type 0 where
  pub spot_is : s ≡ spot_from 0 x l
  pub found_is : f ≡ find x l

-- the answer to a call of a board with these parts, where n targets stand and x is held under the identity that the call names
abbrev pub answer_by : Float → Option Vehicle → Option Ends → Option Held → ℕ → Call → Answer
answer_by r o t x n (Report i f) = ask (identity_asked i) (ask (fix_asked f) (ask (room_asked x n) (Ok None)))
answer_by r o t x n (Withdraw i) = ask (identity_asked i) (ask (held_asked x) (Ok None))
answer_by r o t x n (OwnShip f) = ask (fix_asked f) (Ok None)
answer_by r o t x n (Track s e) = ask (ends_asked s e) (Ok None)
answer_by r o t x n (Solve i) = ask (identity_asked i) (solved r (see x o t))

-- ---- a change of the array

unfoldable pub entries_after : Option Change → List Target → List Target
entries_after None es = es
entries_after (Some (Stores p t)) es = set es p t
entries_after (Some (Inserts p t)) es = take most_targets (take p es ++ t ∷ drop p es)
entries_after (Some (Removes p)) es = take most_targets ((take p es ++ drop (p + 1) es) ++ drop (most_targets - 1) es)
entries_after (Some Sweeps) es = map bare_target es

abbrev pub count_after : Option Change → ℕ → ℕ
count_after None n = n
count_after (Some (Stores p t)) n = n
count_after (Some (Inserts p t)) n = n + 1
count_after (Some (Removes p)) n = n - 1
count_after (Some Sweeps) n = n

-- the targets after a change
abbrev pub changed : Option Change → Targets → Targets
changed r ts = record { entries = entries_after r ts.entries; count = count_after r (at_most ts.count) }

-- a target that takes the place of another takes that of one of the first n
unfoldable pub Within : Option Change → ℕ → Type 0
Within None n = Unit {0}
Within (Some (Stores p t)) n = p < n
Within (Some (Inserts p t)) n = Unit {0}
Within (Some (Removes p)) n = Unit {0}
Within (Some Sweeps) n = Unit {0}

-- a target stored where its identity stands, or inserted where it belongs
abbrev pub placing : Result ℕ ℕ → Target → Change
placing (Ok p) t = Stores p t
placing (Err p) t = Inserts p t

-- the change is right for all targets among which the identity that the call names has this spot and this is held under it: the array
-- then stands for the plain board's targets after the call
unfoldable pub RightChange : Call → Answer → Result ℕ ℕ → Option Held → Option Change → Type 0
RightChange c a s x r =
    (ts : Targets) → length ts.entries ≡ most_targets → s ≡ spot_from 0 (name_of c) (listed ts) → x ≡ find (name_of c) (listed ts)
    → Within r (at_most ts.count) × (listed (changed r ts) ≡ take most_targets (targets_after c a (listed ts)))
