-- What a quick look at a session tells of a frame, without the entries of its targets. Definitions only.
use Rattle.std.specs.Prelude.{ℕ, ◌<◌, List, map, set, Option, Some, None, option_map}
use Rattle.plain.specs.Targets.{most_targets, bare_target}
use Rattle.board.specs.Glance.{board_of, Under, glance}
use Rattle.plain.specs.declared.call.Call.{Call}
use Rattle.board.specs.declared.glance.Setting.{Setting}
use Rattle.board.specs.declared.glance.Hint.{Hint}
use Rattle.board.specs.declared.glance.Hint.TheVariants as hint
use Rattle.plain.specs.declared.targets.Target.{Target}
use Rattle.wire.specs.declared.frame.Frame.{Frame}
use Rattle.wire.specs.declared.frame.Frame.TheVariants as frame
use Rattle.wire.specs.declared.kind.Kind.{Kind}
use Rattle.sessions.specs.declared.quick.Quick.{Quick}
use Rattle.sessions.specs.declared.quick.Quick.TheVariants.{Stays, Puts, Sweeps}
use Rattle.wire.specs.declared.reply.Reason.{Reason}
use Rattle.wire.specs.declared.reply.Reply.{Reply}
use Rattle.wire.specs.declared.reply.Reply.TheVariants as reply
use Rattle.sessions.specs.declared.session.Session.{Session}
use Rattle.sessions.specs.Session.{kind_of, told, Stepping}

-- the session of a setting, if it has one, and entries
unfoldable pub session_of : Option Setting → List Target → Session
session_of o es = record { board = option_map (λ s. board_of s es) o }

-- ---- what it says of the sessions

-- where there is a setting, the targets that stand have these identities
unfoldable pub Standing : Option Setting → List ℕ → List Target → Type 0
Standing None ids es = Unit {0}
Standing (Some s) ids es = Under s ids es

-- what is told holds of every session of the setting whose targets have the identities; that nothing is told is always right
unfoldable pub Quickly : Option Setting → List ℕ → Option Frame → Option Quick → Type 0
Quickly o ids f (Some (Stays y)) = (es : List Target) → Standing o ids es → Stepping (session_of o es) f (record { session = session_of o es; reply = y })
Quickly o ids f (Some (Puts k p t)) =
    (es : List Target) → Standing o ids es
    → (p < most_targets) × Standing o ids (set es p t) × Stepping (session_of o es) f (record { session = session_of o (set es p t); reply = reply.Done k })
Quickly o ids f (Some (Sweeps k q)) =
    (es : List Target) → Standing o ids es
    → Standing (Some q) ids (map bare_target es)
    × Stepping (session_of o es) f (record { session = session_of (Some q) (map bare_target es); reply = reply.Done k })
Quickly o ids f None = Unit {0}

-- ---- what is told of a frame

-- the total, or number 1 where there is no board
abbrev pub total_reply : Option Setting → Reply Kind Reason
total_reply None = reply.NotAFrame
total_reply (Some s) = reply.Total s.total

-- what a glance tells of a call of this kind
unfoldable pub hinted : Kind → Option Hint → Option Quick
hinted k (Some (hint.Stays a)) = Some (Stays (told k a))
hinted k (Some (hint.Puts p t)) = Some (Puts k p t)
hinted k (Some (hint.Sweeps q)) = Some (Sweeps k q)
hinted k None = None

-- a call: number 1 where there is no board
unfoldable pub at_call : Option Setting → List ℕ → Call → Option Quick
at_call None ids c = Some (Stays reply.NotAFrame)
at_call (Some s) ids c = hinted (kind_of c) (glance s ids c)

-- what a frame makes of every session of the setting whose targets have the identities; a 00, a mean and a pick need the entries
unfoldable pub look : Option Setting → List ℕ → Option Frame → Option Quick
look o ids (Some (frame.Fresh r)) = None
look o ids (Some (frame.Told c)) = at_call o ids c
look o ids (Some frame.Mean) = None
look o ids (Some frame.Pick) = None
look o ids (Some frame.Total) = Some (Stays (total_reply o))
look o ids None = Some (Stays reply.NotAFrame)
