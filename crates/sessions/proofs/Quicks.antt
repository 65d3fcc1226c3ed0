-- What a quick look tells holds of every session of the setting (`quickly`), and the parts of a session.
use Rattle.std.specs.Prelude.{Option, Some, None, Ok}
use Prim.Native.Nat.{ℕ}
use mathlib.Core.List.{List, map}
use mathlib.Core.Path.{◌≡◌, refl, sym}
use lib.ListN.{length}
use Rattle.plain.specs.Targets.{most_targets, at_most}
use Rattle.targets.specs.Slots.{identity_of}
use Rattle.plain.specs.Code.{plain}
use Rattle.board.specs.Glance.{setting_of, board_of, Turns, Glanced, glance}
use Rattle.std.proofs.lemmas.List.{take-map}
use Rattle.board.proofs.Glances.{glanced}
use Rattle.sessions.specs.declared.session.Session.{Session}
use Rattle.plain.specs.declared.call.Call.{Call}
use Rattle.board.specs.declared.glance.Setting.{Setting}
use Rattle.board.specs.declared.glance.Hint.{Hint}
use Rattle.board.specs.declared.glance.Hint.TheVariants as hint
use Rattle.plain.specs.declared.state.Board.{Board}
use Rattle.plain.specs.declared.targets.Target.{Target}
use Rattle.wire.specs.declared.kind.Kind.{Kind}
use Rattle.wire.specs.declared.frame.Frame.{Frame}
use Rattle.wire.specs.declared.frame.Frame.TheVariants as frame
use Rattle.plain.specs.Call.{Answer}
use Rattle.sessions.specs.Quick.{session_of, Standing, Quickly, total_reply, hinted, at_call, look}
use Rattle.sessions.specs.Session.{plain_of, kind_of, told, if_started, reply_of, next, Stepping}
use Rattle.sessions.proofs.Sessions.{heard, not-heard, asked, no-frame}

-- ---- the parts of a session

-- a session that has a board is that of its parts
pub session-parts : (s : Session) {b : Board} (q : Setting) → s.board ≡ Some b → q ≡ setting_of b → session_of (Some q) b.targets.entries ≡ s
unfolding session_of board_of setting_of
session-parts s q on e = rw (e, on)

-- and one that has none, of any entries
pub session-none : (s : Session) (es : List Target) → s.board ≡ None → session_of None es ≡ s
unfolding session_of
session-none s es off = rw off

-- entries have their own identities
pub standing-own : (o : Option Setting) (es : List Target) → length es ≡ most_targets → Standing o (map identity_of es) es
unfolding Standing
standing-own None es l = tt
standing-own (Some q) es l = record { length_is = l; same = take-map identity_of (at_most q.count) es }

-- ---- what is told of a frame

-- a call that a glance answers, in a session that has a board
turned : (s q : Setting) (es fs : List Target) (c : Call) (a : Answer) → Turns (board_of s es) c a (board_of q fs)
    → Stepping (session_of (Some s) es) (Some (frame.Told c)) (record { session = session_of (Some q) fs; reply = told (kind_of c) a })
unfolding session_of
turned s q es fs c a t =
    heard (record { board = Some (board_of s es) }) c {r = record { board = board_of q fs; answer = a }} {k = kind_of c} {y = told (kind_of c) a}
    refl (sym t.answers) (sym t.leaves) refl refl

hinted-right : (s : Setting) (ids : List ℕ) (c : Call) (h : Option Hint) → Glanced s ids c h → Quickly (Some s) ids (Some (frame.Told c)) (hinted (kind_of c) h)
unfolding Quickly Standing Glanced hinted told
hinted-right s ids c (Some (hint.Stays a)) g = λ es u. turned s s es es c a (g es u)
hinted-right s ids c (Some (hint.Puts p t)) g = λ es u. ((g es u).0, (g es u).1, turned s s es _ c (Ok None) (g es u).2)
hinted-right s ids c (Some (hint.Sweeps q)) g = λ es u. ((g es u).0, turned s q es _ c (Ok None) (g es u).1)
hinted-right s ids c None g = tt

call-right : (o : Option Setting) (ids : List ℕ) (c : Call) → Quickly o ids (Some (frame.Told c)) (at_call o ids c)
unfolding Quickly at_call session_of
call-right (Some s) ids c = hinted-right s ids c (glance s ids c) (glanced s ids c)
call-right None ids c = λ es u. not-heard (session_of None es) c refl

total_right : (o : Option Setting) (es : List Target) → total_reply o ≡ reply_of (plain_of (session_of o es)) (Some frame.Total)
unfolding reply_of plain_of session_of if_started board_of plain
total_right (Some s) es = refl
total_right None es = refl

-- what a quick look tells is right of every session of the setting whose targets have the identities
pub quickly : (o : Option Setting) (ids : List ℕ) (f : Option Frame) → Quickly o ids f (look o ids f)
unfolding Quickly look next
quickly o ids (Some (frame.Fresh r)) = tt
quickly o ids (Some (frame.Told c)) = call-right o ids c
quickly o ids (Some frame.Mean) = tt
quickly o ids (Some frame.Pick) = tt
quickly o ids (Some frame.Total) = λ es u. asked (session_of o es) (Some frame.Total) refl refl (total_right o es) refl
quickly o ids None = λ es u. no-frame (session_of o es) refl

-- a call of a session that has a board, by the glance's hint
pub call-goes : (o : Option Setting) (ids : List ℕ) (c : Call) {s : Setting} {k : Kind} {g h : Option Hint} → o ≡ Some s → k ≡ kind_of c → g ≡ glance s ids c → g ≡ h
    → hinted k h ≡ at_call o ids c
unfolding at_call
call-goes o ids c on e f t = rw (on, ← t, f, e)
