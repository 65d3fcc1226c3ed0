-- What the functions under `feed` and `finish` hand to one another. Definitions only.
use Rattle.std.specs.Prelude.{ℕ, ◌+◌, ◌-◌, ◌≤◌, Bool, true, cond, List, [], ◌∷◌, ◌++◌, ◌≢◌, ◌≡◌, ltb, length, take, drop}
use Rattle.hex_digits.specs.Write.{Wrote}
use Rattle.wire.specs.declared.kind.Kind.{Kind}
use Rattle.wire.specs.declared.reply.Reason.{Reason}
use Rattle.wire.specs.declared.reply.Reply.{Reply}
use Rattle.wire.specs.Reply.{reply_digits}
use Rattle.sessions.specs.declared.session.Session.{Session}
use Rattle.sessions.specs.Quick.{session_of}
use Rattle.frames.specs.declared.stream.InParts.{InParts}
use Rattle.frames.specs.declared.stream.Fed.{Fed}
use Rattle.frames.specs.declared.stream.Stream.{Stream}
use Rattle.frames.specs.Whole.{newline}
use Rattle.frames.specs.Stream.{room, fed_state, fed_text, used_of, view, Written}

-- what comes next waits: a line that does not end in the piece, or a reply that might not fit what is left of the page
unfoldable pub waits : ℕ → ℕ → ℕ → Bool
waits e n left = cond (ltb e n) (ltb left room) true

-- a reply and its newline, written over a page
abbrev pub PutReplyLine : Reply Kind Reason → List ℕ → ℕ → List ℕ → ℕ → Type 0
PutReplyLine y page at out next = Wrote page at (length (reply_digits y ++ (newline ∷ []))) (reply_digits y ++ (newline ∷ [])) out next

-- a session in its parts, which are those of the session
pub record PartsOf (s : Session) (r : InParts) : Type 0 where
  pub same : session_of r.setting r.entries ≡ s

-- the line that has begun alone: where it is not yet answered all that can be used is, and where it is the rest of the piece is left
pub record GoingOn (s : Stream) (xs page out : List ℕ) (r : Fed) : Type 0 where
  pub within : r.used ≤ length xs
  pub stops : r.stream.n ≢ 0 → r.used ≡ used_of (view s) (length page) xs
  pub goes : used_of (view s) (length page) xs ≡ r.used + used_of (view r.stream) (length page - r.next) (drop r.used xs)
  pub stream_is : view r.stream ≡ fed_state (view s) (take r.used xs)
  pub wrote : Written (fed_text (view s) (take r.used xs)) page out r.next
