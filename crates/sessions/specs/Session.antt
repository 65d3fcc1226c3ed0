-- A session: a plain board, or none yet. What one frame makes of it, and what it is answered. Definitions only.
use Rattle.std.specs.Prelude.{ℕ, ◌≡◌, MatchOption, option_map, Option, Some, None, Result, Ok, Err}
use Rattle.plain.specs.declared.call.Refusal.{Refusal}
use Rattle.plain.specs.Asking.{mean, pick, choice_identity}
use Rattle.plain.specs.Board.{Plain, fresh, begins, answer, after}
use Rattle.plain.specs.Call.{Answer}
use Rattle.plain.specs.Code.{plain}
use Rattle.plain.specs.declared.call.Call.{Call}
use Rattle.plain.specs.declared.state.Board.{Board}
use Rattle.plain.specs.declared.call.Call.TheVariants.{Report, Withdraw, OwnShip, Track, Solve}
use Rattle.means.specs.Mean.{Mean}
use Rattle.jord.specs.Positions.{as_vec3}
use Rattle.wire.specs.declared.frame.Frame.{Frame}
use Rattle.wire.specs.declared.frame.Frame.TheVariants as frame
use Rattle.wire.specs.declared.kind.Kind.{Kind}
use Rattle.wire.specs.declared.kind.Kind.TheVariants as kind
use Rattle.wire.specs.declared.reply.Reason.{Reason}
use Rattle.wire.specs.declared.reply.Reason.TheVariants as reason
use Rattle.wire.specs.declared.reply.Reply.{Reply}
use Rattle.wire.specs.declared.reply.Reply.TheVariants as reply
use Rattle.sessions.specs.declared.session.Session.{Session}
use Rattle.sessions.specs.declared.session.Stepped.{Stepped}

-- ---- the reply to an answer

-- "01 identity, position, bearing, speed; 02 identity; 03 as 01 without identity; 04 two positions; 05 identity"
abbrev pub kind_of : Call → Kind
kind_of (Report i f) = kind.Report
kind_of (Withdraw i) = kind.Withdraw
kind_of (OwnShip f) = kind.OwnShip
kind_of (Track s e) = kind.Track
kind_of (Solve i) = kind.Solve

-- "kind, number (00 done), then the answer"; "Refused: kind and number alone"
unfoldable pub told : {K : Type 0} → K → Answer → Reply K Reason
told k (Ok None) = reply.Done k
told k (Ok (Some l)) = reply.Solved l
told k (Err q) = reply.Refused k (reason.Refusal q)

-- "06 three floats"
unfoldable pub mean_told : Mean → Reply Kind Reason
mean_told (Ok p) = reply.Mean (as_vec3 p)
mean_told (Err e) = reply.Refused kind.Mean (reason.NoMean e)

-- "07 identity"
unfoldable pub pick_told : Result ℕ Refusal → Reply Kind Reason
pick_told (Ok i) = reply.Pick (choice_identity (Ok i))
pick_told (Err q) = reply.Refused kind.Pick (reason.Refusal q)

-- ---- the reply of a session

-- "has an accepted 00 come before it? 1": a board's reply, or number 1 where there is none
unfoldable pub if_started : Option Plain → (Plain → Reply Kind Reason) → Reply Kind Reason
if_started None f = reply.NotAFrame
if_started (Some b) f = f b

-- the reply to a frame
unfoldable pub reply_of : Option Plain → Option Frame → Reply Kind Reason
reply_of o (Some (frame.Fresh r)) = told kind.Fresh (begins r)
reply_of o (Some (frame.Told c)) = if_started o (λ b. told (kind_of c) (answer b c))
reply_of o (Some frame.Mean) = if_started o (λ b. mean_told (mean b))
reply_of o (Some frame.Pick) = if_started o (λ b. pick_told (pick b))
reply_of o (Some frame.Total) = if_started o (λ b. reply.Total b.total)
reply_of o None = reply.NotAFrame

-- ---- the session after a frame

-- "00 starts a fresh board"; a refused 00 leaves what was there
unfoldable pub begun : Answer → Plain → Option Plain → Option Plain
begun (Ok l) b o = Some b
begun (Err q) b o = o

unfoldable pub after_call : Option Plain → Call → Option Plain
after_call None c = None
after_call (Some b) c = Some (after b c)

unfoldable pub next : Option Plain → Option Frame → Option Plain
next o (Some (frame.Fresh r)) = begun (begins r) (fresh r) o
next o (Some (frame.Told c)) = after_call o c
next o (Some frame.Mean) = o
next o (Some frame.Pick) = o
next o (Some frame.Total) = o
next o None = o

-- ---- the session of the code

-- the plain board that a session stands for
unfoldable pub plain_of : Session → Option Plain
plain_of s = option_map plain s.board

-- what a frame makes of a session
pub record Stepping (s : Session) (f : Option Frame) (r : Stepped) : Type 0 where
  pub reply_is : r.reply ≡ reply_of (plain_of s) f
  pub session_is : plain_of r.session ≡ next (plain_of s) f

-- what is asked of a session's board: the session stays, and the reply is by what `post` says that asking gives
pub record Asked (s : Session) (post : Board → Reply Kind Reason → Type 0) (r : Stepped) : Type 0 where
  pub session_is : r.session ≡ s
  pub reply_is : MatchOption s.board (r.reply ≡ reply.NotAFrame) (λ b. post b r.reply)
