-- The plain board of document 01, and what a list of calls makes of it. Definitions only.
-- It is fed the arguments of the calls alone and puts the questions to them and to its own state.
use Rattle.std.specs.Prelude.{ℕ, ◌+◌, ◌%◌, List, [], ◌∷◌, Float, length, Option, Some, None, Ok, Err}
use Rattle.jord.specs.declared.vehicle.Vehicle.{Vehicle}
use Rattle.plain.specs.declared.line.Ends.{Ends}
use Rattle.plain.specs.declared.targets.Held.{Held}
use Rattle.plain.specs.declared.targets.Target.{Target}
use Rattle.plain.specs.declared.call.Call.{Call}
use Rattle.plain.specs.declared.call.Call.TheVariants.{Report, Withdraw, OwnShip, Track, Solve}
use Rattle.plain.specs.Line.{counts, totals}
use Rattle.plain.specs.Targets.{find, place, bared}
use Rattle.plain.specs.Call.{Answer, vehicle, ends, named}
use Rattle.plain.specs.Questions.{ask, radius_asked, identity_asked, ask_fix, ask_ends, held_asked, room_asked, see, solved}

-- ---- the state

-- "radius; own ship or none; track (start, end) or none; targets in rising identity, each with a report (a vehicle) and a line or none;
-- total of steps"
pub record Plain : Type 0 where
  pub radius : Float
  pub own : Option Vehicle
  pub track : Option Ends
  pub targets : List Target
  pub total : ℕ

-- "Fresh: only the radius, total 0"
unfoldable pub fresh : Float → Plain
fresh r = record { radius = r; own = None; track = None; targets = []; total = 0 }

-- whether a fresh board is made
unfoldable pub begins : Float → Answer
begins r = ask (radius_asked r) (Ok None)

-- ---- the answer of a call: its questions, in their order

unfoldable pub answer : Plain → Call → Answer
answer b (Report i f) =
    ask (identity_asked i) (ask_fix f (ask (room_asked (find i b.targets) (length b.targets)) (Ok None)))
answer b (Withdraw i) = ask (identity_asked i) (ask (held_asked (find i b.targets)) (Ok None))
answer b (OwnShip f) = ask_fix f (Ok None)
answer b (Track s e) = ask_ends s e (Ok None)
answer b (Solve i) = ask (identity_asked i) (solved b.radius (see (find i b.targets) b.own b.track))

-- ---- the board after an accepted call, part by part

-- "set it": the own ship
abbrev pub own_after : Call → Option Vehicle → Option Vehicle
own_after (Report i f) o = o
own_after (Withdraw i) o = o
own_after (OwnShip f) o = Some (vehicle f)
own_after (Track s e) o = o
own_after (Solve i) o = o

-- "set it": the track
abbrev pub track_after : Call → Option Ends → Option Ends
track_after (Report i f) t = t
track_after (Withdraw i) t = t
track_after (OwnShip f) t = t
track_after (Track s e) t = Some (ends s e)
track_after (Solve i) t = t

-- "Own ship, track: take every line away"
unfoldable pub swept : Call → List Target → List Target
swept (Report i f) l = l
swept (Withdraw i) l = l
swept (OwnShip f) l = bared l
swept (Track s e) l = bared l
swept (Solve i) l = l

-- "makes, stores and returns that target's line"
abbrev pub with_line : Answer → Held → Held
with_line (Ok None) h = h
with_line (Ok (Some l)) h = record { report = h.report; line = Some l }
with_line (Err r) h = h

abbrev pub lined : Answer → Option Held → Option Held
lined a None = None
lined a (Some h) = Some (with_line a h)

-- what is held of the target that the call names, for what was: "Report: places or replaces that target, without a line. Withdraw:
-- removes it. Solve: stores that target's line"
unfoldable pub leaves : Call → Answer → Option Held → Option Held
leaves (Report i f) a x = Some (record { report = vehicle f; line = None })
leaves (Withdraw i) a x = None
leaves (OwnShip f) a x = x
leaves (Track s e) a x = x
leaves (Solve i) a x = lined a x

-- the one entry that a call which names a target reads and writes
unfoldable pub put : Option ℕ → (Option Held → Option Held) → List Target → List Target
put None f l = l
put (Some i) f l = place i (f (find i l)) l

unfoldable pub targets_after : Call → Answer → List Target → List Target
targets_after c a l = put (named c) (leaves c a) (swept c l)

-- "adds its three counts to the total", "a 32-bit number that returns to 0 after 2^32 - 1"
abbrev pub raised : Answer → ℕ → ℕ
raised (Ok None) n = n
raised (Ok (Some l)) n = (n + counts l) % totals
raised (Err r) n = n

unfoldable pub accepted : Plain → Call → Answer → Plain
accepted b c a =
    record {
      radius = b.radius;
      own = own_after c b.own;
      track = track_after c b.track;
      targets = targets_after c a b.targets;
      total = raised a b.total;
    }

-- ---- a call

-- "a refused call gives its number and changes nothing"
unfoldable pub outcome : Plain → Call → Answer → Plain
outcome b c (Ok l) = accepted b c (Ok l)
outcome b c (Err r) = b

unfoldable pub after : Plain → Call → Plain
after b c = outcome b c (answer b c)

-- ---- a list of calls: "each call takes the board as the call before left it"

unfoldable pub run : Plain → List Call → Plain
run b [] = b
run b (c ∷ cs) = run (after b c) cs

unfoldable pub answers : Plain → List Call → List Answer
answers b [] = []
answers b (c ∷ cs) = answer b c ∷ answers (after b c) cs
