-- What a glance at a board tells of a call, without the entries of its targets. Definitions only.
use Rattle.std.specs.Prelude.{ℕ, ◌<◌, List, map, ◌≡◌, length, take, set, Option, Some, None, Result, Ok, Err}
use Rattle.plain.specs.declared.targets.Target.{Target}
use Rattle.plain.specs.declared.state.Board.{Board}
use Rattle.plain.specs.declared.call.Fix.{Fix}
use Rattle.plain.specs.declared.call.Call.{Call}
use Rattle.plain.specs.declared.call.Call.TheVariants.{Report, Withdraw, OwnShip, Track, Solve}
use Rattle.board.specs.declared.glance.Setting.{Setting}
use Rattle.board.specs.declared.glance.Hint.{Hint}
use Rattle.board.specs.declared.glance.Hint.TheVariants.{Stays, Puts, Sweeps}
use Rattle.plain.specs.Call.{Answer, vehicle}
use Rattle.plain.specs.Questions.{Said, ask, identity_asked, fix_asked, ends_asked}
use Rattle.plain.specs.Targets.{most_targets, at_most, bare_target}
use Rattle.targets.specs.Slots.{identity_of, spot_in}
use Rattle.plain.specs.Board.{answer, after, own_after, track_after}
use Rattle.plain.specs.Code.{plain}

-- ---- a board in its parts

-- all of a board but the entries of its targets
unfoldable pub setting_of : Board → Setting
setting_of b = record { radius = b.radius; own = b.own; track = b.track; count = b.targets.count; total = b.total }

-- the board of a setting and entries
unfoldable pub board_of : Setting → List Target → Board
board_of s es = record { radius = s.radius; own = s.own; track = s.track; targets = record { entries = es; count = s.count }; total = s.total }

-- ---- what a hint says of the boards

-- the targets that stand have these identities
pub record Under (s : Setting) (ids : List ℕ) (es : List Target) : Type 0 where
  pub length_is : length es ≡ most_targets
  pub same : take (at_most s.count) ids ≡ map identity_of (take (at_most s.count) es)

-- a call is answered so by a board, and leaves one that stands for the same as another
pub record Turns (b : Board) (c : Call) (a : Answer) (left : Board) : Type 0 where
  pub answers : answer (plain b) c ≡ a
  pub leaves : after (plain b) c ≡ plain left

-- what is told holds of every board of the setting whose targets have the identities; that nothing is told is always right
unfoldable pub Glanced : Setting → List ℕ → Call → Option Hint → Type 0
Glanced s ids c (Some (Stays a)) = (es : List Target) → Under s ids es → Turns (board_of s es) c a (board_of s es)
Glanced s ids c (Some (Puts p t)) =
    (es : List Target) → Under s ids es
    → (p < most_targets) × Under s ids (set es p t) × Turns (board_of s es) c (Ok None) (board_of s (set es p t))
Glanced s ids c (Some (Sweeps q)) =
    (es : List Target) → Under s ids es → Under q ids (map bare_target es) × Turns (board_of s es) c (Ok None) (board_of q (map bare_target es))
Glanced s ids c None = Unit {0}

-- ---- the hint of a call

-- a call that is refused stays with its answer
abbrev pub unless_refused : Said → Option Hint → Option Hint
unless_refused (Ok u) h = h
unless_refused (Err r) h = Some (Stays (Err r))

-- the questions of a report whose target is held
abbrev pub report_asked : ℕ → Fix → Said
report_asked i f = ask (identity_asked i) (fix_asked f)

-- a report puts the target, without a line, where its identity stands; where it stands nowhere the entries tell
abbrev pub put_at : Result ℕ ℕ → ℕ → Fix → Option Hint
put_at (Ok p) i f = Some (Puts p (record { identity = i; held = record { report = vehicle f; line = None } }))
put_at (Err p) i f = None

-- a report: its questions of identity and fix, then its place among the first n identities, 64 at most
unfoldable pub at_report : ℕ → List ℕ → ℕ → Fix → Option Hint
at_report n ids i f = unless_refused (report_asked i f) (put_at (spot_in 0 i (take (at_most n) ids)) i f)

-- the setting after an accepted own ship or track
abbrev pub set_by : Call → Setting → Setting
set_by c s = record { radius = s.radius; own = own_after c s.own; track = track_after c s.track; count = s.count; total = s.total }

-- an own ship or a track of which this is said: one that is not refused takes every line away
unfoldable pub at_setting : Setting → Call → Said → Option Hint
at_setting s c q = unless_refused q (Some (Sweeps (set_by c s)))

-- what a call makes of every board of the setting whose targets have the identities
unfoldable pub glance : Setting → List ℕ → Call → Option Hint
glance s ids (Report i f) = at_report s.count ids i f
glance s ids (Withdraw i) = None
glance s ids (OwnShip f) = at_setting s (OwnShip f) (fix_asked f)
glance s ids (Track from to) = at_setting s (Track from to) (ends_asked from to)
glance s ids (Solve i) = None
