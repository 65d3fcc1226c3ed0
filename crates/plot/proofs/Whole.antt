-- One read after another, and the end: what was read is answered, but for a line that has begun, and at the end that line too.
use Rattle.std.proofs.Common.{ℕ, false, ◌+◌, ◌≡◌, ◌≤◌, ◌<◌, List, [], ◌++◌, length, take, Result, Ok, Err, OnOk, Some, None, IfSome, refl, sym, ap, subst, ◌∙◌, arith}
use Rattle.std.proofs.Common.{append-nil, length-append, length-take}
use Rattle.std.specs.Prelude.{Option}
use Rattle.std.specs.Result.{MatchResult, IsErrAnd}
use Rattle.std.specs.declared.io.Error.{Error}
use Rattle.console.specs.Way.{way_of}
use Rattle.console.specs.declared.Failure.{Failure}
use Rattle.std.specs.Io.KnownBytes.{Appends, Consumes, Keeps, ReadConsumes}
use Rattle.std.proofs.KnownBytes.{Appends-kept, Appends-nil, Appends-trans, Consumes-nil, Consumes-trans, Consumes-whole}
use Rattle.frames.specs.declared.stream.Stream.{Stream}
use Rattle.frames.specs.Stream.{Model, fresh, fed_state, fed_text, end_text, view}
use Rattle.frames.specs.Whole.{replies}
use Rattle.frames.proofs.Pieces.{state-append, text-append, whole-text}
use Rattle.plot.specs.Turn.{count_of, goes_on, Turning}
use Rattle.plot.proofs.Turning.{turning-ended, turning-on, turning-some}

-- of an input that had `all` and has `left`, the stream took what is missing, a byte or more in each of k turns, and a writer that held `old` and holds `new` was given the answers
pub record Replied (k : ℕ) (all left old new : Option (List ℕ)) (s : Stream) : Type 0 where
  pub read : List ℕ
  pub turns : k ≤ length read
  pub state : view s ≡ fed_state fresh read
  pub consumed : Consumes all left read
  pub written : Appends old new (fed_text fresh read)

pub replied-none : (all old : Option (List ℕ)) (s : Stream) → view s ≡ fresh → Replied 0 all all old old s
unfolding fed_state fed_text
replied-none all old s e = record { read = []; turns = omega arith; state = e; consumed = Consumes-nil all; written = Appends-nil old }

-- where there was room, some of what came is taken
some-came : (n : ℕ) (piece : List ℕ) → 0 < n → 0 < length piece → 0 < length (take n piece)
some-came n piece a b = omega (arith, length-take n piece)

module _ {k : ℕ} {all left old new : Option (List ℕ)} {s : Stream} {got : Result ℕ Error} {piece : List ℕ} {r : Stream} {way : Result (Option ℕ) Failure}
    (p : Replied k all left old new s) (t : Turning s got piece r way) where
  -- a read that gave some bytes, and they are answered
  pub replied-on : (left' new' : Option (List ℕ)) (n : ℕ) → ReadConsumes left left' got piece → way ≡ Ok (Some n) → 0 < length piece
      → Appends new new' (fed_text (view s) (take (count_of got (length piece)) piece)) → Replied (k + 1) all left' old new' r
  replied-on left' new' n b e h w =
      let (g, l, f) = turning-on s got piece r way t n e in
      let more : List ℕ = take n piece in
      let c : Consumes left left' more = (subst (λ (x : Result ℕ Error). ReadConsumes left left' x piece) g b).0 in
      let v : Appends new new' (fed_text (fed_state fresh p.read) more) =
      subst (λ (m : Model). Appends new new' (fed_text m more)) p.state (subst (λ (l : List ℕ). Appends new new' (fed_text (view s) l)) l w) in
      record {
        read = p.read ++ more;
        turns = omega (arith, p.turns, length-append p.read more, some-came n piece (turning-some got t n e) h);
        state = f ∙ ap (λ (m : Model). fed_state m more) p.state ∙ sym (state-append fresh p.read more);
        consumed = Consumes-trans all left left' p.read more p.consumed c;
        written =
            subst (λ (l : List ℕ). Appends old new' l) (sym (text-append fresh p.read more))
            (Appends-trans old new new' (fed_text fresh p.read) (fed_text (fed_state fresh p.read) more) p.written v);
      }

  -- a read that gave nothing, where there was room, and the line that has begun is answered
  pub replied-ended : (left' new' last : Option (List ℕ)) → ReadConsumes left left' got piece → way ≡ Ok None → 0 < length piece
      → (goes_on (way_of got) ≡ false → Keeps new new') → Appends new' last (end_text (view r)) → IfSome all (λ (xs : List ℕ). Appends old last (replies xs))
  replied-ended left' new' last b e h q w =
      let (g, f) = turning-ended s got piece r way t e in
      let c = subst (λ (x : Result ℕ Error). ReadConsumes left left' x piece) g b in
      let n : goes_on (way_of got) ≡ false = subst (λ (x : Result ℕ Error). goes_on (way_of x) ≡ false) (sym g) refl in
      let k : Appends old new' (fed_text fresh p.read) = Appends-kept old new new' (fed_text fresh p.read) p.written (q n) in
      let v : Appends new' last (end_text (fed_state fresh p.read)) = subst (λ (m : Model). Appends new' last (end_text m)) (ap view f ∙ p.state) w in
      Consumes-whole all left' p.read (λ (xs : List ℕ). Appends old last (replies xs))
      (subst (λ (l : List ℕ). Consumes all left' l) (append-nil p.read) (Consumes-trans all left left' p.read [] p.consumed c.0)) (c.1 refl h)
      (subst (λ (l : List ℕ). Appends old last l) (whole-text p.read)
      (Appends-trans old new' last (fed_text fresh p.read) (end_text (fed_state fresh p.read)) k v))

-- what holds where there is a value holds where its error is named
pub named : {T E F : Type 0} (P : Type 0) (Q : E → F → Type 0) (r : Result T E) (t : Result T F) → MatchResult r (λ x. t ≡ Ok x) (λ e. IsErrAnd t (Q e)) → OnOk r P → OnOk t P
named P Q (Ok x) t m h = rw m h
named P Q (Err e) (Ok y) m h = absurd m
named P Q (Err e) (Err f) m h = tt
