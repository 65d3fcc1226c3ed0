-- A session that has a board or none, and what each frame makes of it.
use Rattle.std.specs.Prelude.{Option, Some, None, Ok, Err, MatchOption, option_map}
use mathlib.Core.Path.{◌≡◌, refl, sym, ◌∙◌, ap}
use lib.Ieee.{Float}
use Rattle.plain.specs.Board.{Plain, begins, fresh, answer, after}
use Rattle.plain.specs.Code.{plain, Demanded}
use Rattle.plain.specs.declared.state.Answered.{Answered}
use Rattle.plain.specs.declared.state.Board.{Board}
use Rattle.plain.specs.declared.call.Call.{Call}
use Rattle.plain.specs.declared.call.Refusal.{Refusal}
use Rattle.plain.specs.declared.line.Line.{Line}
use Rattle.wire.specs.declared.frame.Frame.{Frame}
use Rattle.wire.specs.declared.frame.Frame.TheVariants as frame
use Rattle.wire.specs.declared.kind.Kind.{Kind}
use Rattle.wire.specs.declared.kind.Kind.TheVariants as kind
use Rattle.wire.specs.declared.reply.Reason.{Reason}
use Rattle.wire.specs.declared.reply.Reply.{Reply}
use Rattle.wire.specs.declared.reply.Reply.TheVariants as reply
use Rattle.sessions.specs.declared.session.Session.{Session}
use Rattle.sessions.specs.declared.session.Stepped.{Stepped}
use Rattle.sessions.specs.Session.{plain_of, kind_of, told, if_started, after_call, begun, reply_of, next, Stepping}

pub opened : (s : Session) {b : Board} → s.board ≡ Some b → plain_of s ≡ Some (plain b)
unfolding plain_of
opened s e = rw e

pub closed : (s : Session) → s.board ≡ None → plain_of s ≡ None
unfolding plain_of
closed s e = rw e

-- what `fresh` ensures
abbrev Made : Float → Answered → Type 0
Made r m = (m.answer ≡ begins r) × (plain m.board ≡ fresh r) × Demanded r m.board

module _ {s : Session} {r : Float} {m : Answered} {y : Reply Kind Reason} where
  -- an accepted 00
  pub started : {l : Option Line} → y ≡ told kind.Fresh m.answer → Made r m → m.answer ≡ Ok l
      → Stepping s (Some (frame.Fresh r)) (record { session = record { board = Some m.board }; reply = y })
  unfolding reply_of next begun plain_of
  started e f h =
      record { reply_is = e ∙ ap (told kind.Fresh) f.0; session_is = rw (f.1, ← f.0, h) }

  -- a refused 00
  pub stayed : {q : Refusal} → y ≡ told kind.Fresh m.answer → Made r m → m.answer ≡ Err q
      → Stepping s (Some (frame.Fresh r)) (record { session = s; reply = y })
  unfolding reply_of next begun
  stayed e f h = record { reply_is = e ∙ ap (told kind.Fresh) f.0; session_is = rw (← f.0, h) }

-- a call before the first accepted 00
pub not-heard : (s : Session) (c : Call) → s.board ≡ None → Stepping s (Some (frame.Told c)) (record { session = s; reply = reply.NotAFrame })
unfolding reply_of next if_started after_call
not-heard s c e = let n = closed s e in record { reply_is = rw n; session_is = rw n }

-- a call of a board
pub heard : (s : Session) (c : Call) {b : Board} {r : Answered} {k : Kind} {y : Reply Kind Reason} → s.board ≡ Some b
    → r.answer ≡ answer (plain b) c → plain r.board ≡ after (plain b) c → k ≡ kind_of c → y ≡ told k r.answer
    → Stepping s (Some (frame.Told c)) (record { session = record { board = Some r.board }; reply = y })
unfolding reply_of next if_started after_call
heard s c {r = r} on a h k e =
    let o = opened s on in
    record {
      reply_is = e ∙ rw (o, k, a);
      session_is = opened (record { board = Some r.board }) refl ∙ rw (o, h);
    }

-- a frame that leaves the session as it is
pub asked : (s : Session) (g : Option Frame) {f : Option Frame} {r : Stepped} → f ≡ g → r.session ≡ s → r.reply ≡ reply_of (plain_of s) g
    → plain_of s ≡ next (plain_of s) g → Stepping s f r
asked s g e l h k =
    record {
      reply_is = h ∙ ap (reply_of (plain_of s)) (sym e);
      session_is = ap plain_of l ∙ k ∙ ap (next (plain_of s)) (sym e);
    }

-- the reply to what is asked of a board, or number 1 where there is none
pub asked-of : (s : Session) (f : Plain → Reply Kind Reason) {y : Reply Kind Reason}
    → MatchOption s.board (y ≡ reply.NotAFrame) (λ b. y ≡ f (plain b)) → y ≡ if_started (plain_of s) f
unfolding plain_of if_started
asked-of s f {y} m = go s.board m
  where
    go : (o : Option Board) → MatchOption o (y ≡ reply.NotAFrame) (λ b. y ≡ f (plain b)) → y ≡ if_started (option_map plain o) f
    go None h = h
    go (Some b) h = h

pub no-frame : (s : Session) {f : Option Frame} → f ≡ None → Stepping s f (record { session = s; reply = reply.NotAFrame })
unfolding reply_of next
no-frame s e = record { reply_is = rw e; session_is = rw e }
