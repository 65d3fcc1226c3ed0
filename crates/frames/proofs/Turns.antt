-- A run of bytes and a newline in a piece: what the state, the text and the bytes used come to.
use Rattle.std.specs.Prelude.{Option}
use Prim.Native.Nat.{ℕ, zero, suc, ◌+◌, ◌-◌, ◌≤◌, ◌<◌, min}
use Rattle.std.proofs.lemmas.List.{take_min}
use mathlib.Core.Bool.{Bool, true, false, cond}
use mathlib.Core.List.{List, [], ◌∷◌, ◌++◌, append-nil}
use mathlib.Core.Logic.{◌≢◌}
use mathlib.Core.Path.{◌≡◌, refl, sym, ap, ◌∙◌, subst}
use native.Mathlib.Nat.{zero-add, sub-zero}
use native.Mathlib.Numerals.{add-one}
use native.Mathlib.Omega.{arith}
use borrow.Author.Tests.{ne_eqb, lt-ltb, le-ltb}
use lib.Dec.{ltb}
use lib.ListN.{length, take, drop, set, get_or, length-drop, take-append-drop}
use lib.Seq.{take-suc, take-add, drop-cons, drop-drop, length-take-le, get_or-take, append_snoc}
use Rattle.plain.specs.Board.{Plain}
use Rattle.hex_digits.specs.Write.{Put, Wrote}
use Rattle.hex_digits.proofs.Write.{then, as-length, put-wrote, wrote-byte, wrote_nothing}
use Rattle.wire.specs.declared.frame.Frame.{Frame}
use Rattle.wire.specs.declared.kind.Kind.{Kind}
use Rattle.wire.specs.declared.reply.Reason.{Reason}
use Rattle.wire.specs.declared.reply.Reply.{Reply}
use Rattle.sessions.specs.declared.session.Session.{Session}
use Rattle.sessions.specs.declared.session.Stepped.{Stepped}
use Rattle.frames.specs.declared.stream.Stream.{Stream}
use Rattle.wire.specs.Frame.{frame_of}
use Rattle.wire.specs.Reply.{reply_digits}
use Rattle.sessions.specs.Session.{reply_of, next, plain_of, Stepping}
use Rattle.frames.specs.Whole.{newline, reply_line}
use Rattle.frames.specs.Line.{kept, least, Passes}
use Rattle.frames.specs.Stream.{room, Model, stepped, answered, fed_state, fed_text, last_text, end_text, used_of, view, last_in, Written, Finishing}
use Rattle.frames.specs.Turn.{PutReplyLine}
use Rattle.frames.proofs.Pieces.{state-append, text-append, added-cut, frame-cut}
use Rattle.wire.proofs.Sizes.{reply-short}

-- ---- bytes that are no newline, and a newline

-- bytes that are no newline are added to the line as far as it is kept, and ask nothing
module _ (o : Option Plain) where
  bytes-state : (q p : List ℕ) → ((k : ℕ) → k < length p → get_or p k 0 ≢ newline)
      → fed_state (record { board = o; part = take kept q }) p ≡ record { board = o; part = take kept (q ++ p) }
  unfolding fed_state stepped
  bytes-state q [] h = ap (λ (l : List ℕ). record { board = o; part = take kept l }) (sym (append-nil q))
  bytes-state q (x ∷ p) h =
      rw (ne_eqb x newline (h 0 (omega arith)), added-cut q x)
      (bytes-state (q ++ (x ∷ [])) p (λ k l. h (suc k) (omega arith)) ∙ ap (λ (l : List ℕ). record { board = o; part = take kept l }) (append_snoc q x p))

  bytes-text : (q p : List ℕ) → ((k : ℕ) → k < length p → get_or p k 0 ≢ newline)
      → fed_text (record { board = o; part = take kept q }) p ≡ []
  unfolding fed_text stepped answered
  bytes-text q [] h = refl
  bytes-text q (x ∷ p) h =
      rw (ne_eqb x newline (h 0 (omega arith)), added-cut q x) (bytes-text (q ++ (x ∷ [])) p (λ k l. h (suc k) (omega arith)))

  -- and all of them are used
  bytes-used : (q p rest : List ℕ) (left : ℕ) → ((k : ℕ) → k < length p → get_or p k 0 ≢ newline)
      → used_of (record { board = o; part = take kept q }) left (p ++ rest)
      ≡ length p + used_of (record { board = o; part = take kept (q ++ p) }) left rest
  unfolding used_of stepped answered
  bytes-used q [] rest left h = rw (append-nil q) (sym (zero-add _))
  bytes-used q (x ∷ p) rest left h =
      rw (ne_eqb x newline (h 0 (omega arith)), added-cut q x, sub-zero left)
      (ap suc (bytes-used (q ++ (x ∷ [])) p rest left (λ k l. h (suc k) (omega arith))
      ∙ ap (λ (l : List ℕ). length p + used_of (record { board = o; part = take kept l }) left rest) (append_snoc q x p)) ∙ omega arith)

-- a newline is used where any reply fits
newline-used : (m : Model) (left : ℕ) (rest : List ℕ) → room ≤ left
    → used_of m left (newline ∷ rest) ≡ suc (used_of (stepped m newline) (left - length (answered m newline)) rest)
unfolding used_of
newline-used m left rest h = simp (le-ltb left room h)

-- the bytes of a list that pass
clear : (l : List ℕ) (n : ℕ) → Passes l n → (k : ℕ) → k < length (take n l) → get_or (take n l) k 0 ≢ newline
clear l n w k u =
    let h : k < n = omega (arith, length-take-le n l w.within) in
    rw (get_or-take n l k 0 h) (w.before k h)

-- what holds where a line or a part of one has been passed: the state and the text are those of the bytes passed, and all of them are used
pub record Passed (m : Model) (xs page₀ page : List ℕ) (session : Session) (line : List ℕ) (at i : ℕ) : Type 0 where
  pub within : i ≤ length xs
  pub state : ◌≡◌ {A = Model} (record { board = plain_of session; part = take kept line }) (fed_state m (take i xs))
  pub wrote : Written (fed_text m (take i xs)) page₀ page at
  pub uses : used_of m (length page₀) xs
      ≡ i + used_of (record { board = plain_of session; part = take kept line }) (length page₀ - at) (drop i xs)

written-by : {t u page out : List ℕ} {at : ℕ} → t ≡ u → Written t page out at → Written u page out at
written-by {page = page} {out} {at} e w = subst (λ (l : List ℕ). Written l page out at) e w

-- bytes without a newline passed
pub passed-bytes : {m : Model} {xs page₀ page line : List ℕ} {s : Session} {at i n : ℕ} → Passed m xs page₀ page s line at i → Passes (drop i xs) n
    → Passed m xs page₀ page s (line ++ take n (drop i xs)) at (i + n)
passed-bytes {m} {xs} {page₀} {page} {line} {s} {at} {i} {n} v w =
    let p : List ℕ = take n (drop i xs) in
    let u : take (i + n) xs ≡ take i xs ++ p = take-add i n xs in
    let c = clear (drop i xs) n w in
    let l : length p ≡ n = length-take-le n (drop i xs) w.within in
    let rest : drop i xs ≡ p ++ drop (i + n) xs =
    sym (ap (λ (l : List ℕ). p ++ l) (sym (drop-drop n i xs)) ∙ take-append-drop n (drop i xs)) in
    record {
      within = omega (arith, w.within, v.within, length-drop i xs);
      state = sym (rw u (state-append m (take i xs) p ∙ rw (← v.state) (bytes-state (plain_of s) line p c)));
      wrote = written-by (sym (rw u (text-append m (take i xs) p ∙ rw (← v.state, bytes-text (plain_of s) line p c) (append-nil _)))) v.wrote;
      uses =
          v.uses ∙ ap (λ (d : List ℕ). i + used_of (record { board = plain_of s; part = take kept line }) (length page₀ - at) d) rest
          ∙ ap (λ (k : ℕ). i + k) (bytes-used (plain_of s) line p (drop (i + n) xs) (length page₀ - at) c) ∙ omega (arith, l);
    }

-- ---- what is kept of a line

pub clamped : (line : List ℕ) (n k : ℕ) → length line ≡ kept → k ≡ least n → take k line ≡ take n line
clamped line n k l e = ap (λ (j : ℕ). take j line) (e ∙ ap (min n) (sym l)) ∙ take_min n line

-- ---- the end of the input

-- a line that has begun is answered at the end
pub begun-text : (o : Option Plain) (line : List ℕ) (n : ℕ) → (n ≡ 0 → ⊥) → length line ≡ kept
    → reply_line o (frame_of (take n line)) ≡ last_text o (take n line)
unfolding last_text
begun-text o line zero h l = absurd (h refl)
begun-text o [] (suc n) h l = let z : ⊥ = omega arith in absurd z
begun-text o (x ∷ line) (suc n) h l = refl

-- ---- a reply and its newline

pub put-room : {page out : List ℕ} {at n : ℕ} (y : Reply Kind Reason) → Put page at (reply_digits y) out n → at + room ≤ length page
    → Wrote page at (length (reply_digits y)) (reply_digits y) out n
put-room y w h = put-wrote w refl (omega (arith, reply-short y))

pub put-below : {page out : List ℕ} {at n : ℕ} (y : Reply Kind Reason) → Put page at (reply_digits y) out n → at + room ≤ length page → n < length out
put-below y w h = let v = put-room y w h in omega (arith, v.past, v.length_is, reply-short y)

pub put-reply-line : {page mid : List ℕ} {at n : ℕ} (y : Reply Kind Reason) → Put page at (reply_digits y) mid n → at + room ≤ length page
    → PutReplyLine y page at (set mid n newline) (n + 1)
put-reply-line {page} {mid} {at} {n} y w h = as-length (then (put-room y w h) (wrote-byte mid n newline (put-below y w h))) refl

-- the reply that a step gives
reply-written : (o : Option Plain) (f : Option Frame) {y : Reply Kind Reason} {page out : List ℕ} {at n : ℕ} → y ≡ reply_of o f → PutReplyLine y page at out n
    → Wrote page at (length (reply_line o f)) (reply_line o f) out n
unfolding reply_line
reply-written o f {y} {page} {out} {at} {n} e w = subst (λ (y : Reply Kind Reason). PutReplyLine y page at out n) e w

-- a newline passed: the frame of its line answered where any reply fits
module _ {m : Model} {xs page₀ page line : List ℕ} {s : Session} {at i : ℕ} (v : Passed m xs page₀ page s line at i) (h : i < length xs)
    (e : get_or xs i 0 ≡ newline) (k : at + room ≤ length page) {f : Option Frame} (g : f ≡ frame_of line) where
  next-bytes : take (i + 1) xs ≡ take i xs ++ (newline ∷ [])
  next-bytes = rw (add-one i, ← e) (take-suc xs i 0 h)

  from-newline : drop i xs ≡ newline ∷ drop (i + 1) xs
  from-newline = rw (add-one i, ← e) (drop-cons xs i 0 h)

  asked-frame : frame_of (take kept line) ≡ f
  asked-frame = frame-cut line ∙ sym g

  line-passed : {out : List ℕ} {next' : ℕ} (t : Session) → plain_of t ≡ next (plain_of s) f
      → Wrote page at (length (reply_line (plain_of s) f)) (reply_line (plain_of s) f) out next' → Passed m xs page₀ out t [] next' (i + 1)
  unfolding fed_state stepped fed_text answered
  line-passed {out} {next'} t q w =
      let left : room ≤ length page₀ - at = omega (arith, k, v.wrote.length_is) in
      let n : length page₀ - next' ≡ length page₀ - at - length (reply_line (plain_of s) f) = omega (arith, w.past) in
      record {
        within = omega arith;
        state = sym (rw next-bytes (state-append m (take i xs) (newline ∷ []) ∙ rw (← v.state, asked-frame, q)));
        wrote =
            written-by
            (sym (rw next-bytes (text-append m (take i xs) (newline ∷ []) ∙ rw (← v.state, asked-frame, append-nil (reply_line (plain_of s) f)))))
            (as-length (then v.wrote w) refl);
        uses =
            v.uses
            ∙ rw (from-newline, newline-used (record { board = plain_of s; part = take kept line }) (length page₀ - at) (drop (i + 1) xs) left, asked-frame, q, n)
            (omega arith);
      }

  pub passed-step : {out : List ℕ} {next' : ℕ} {y : Reply Kind Reason} {r : Stepped} → Stepping s f r → y ≡ r.reply → PutReplyLine y page at out next'
      → Passed m xs page₀ out r.session [] next' (i + 1)
  passed-step {r = r} st e w = line-passed r.session st.session_is (reply-written (plain_of s) f (e ∙ st.reply_is) w)

-- what has passed from a start has passed from an equal one
pub passed-from : {s t : Session} {p xs page₀ page line : List ℕ} {session : Session} {at i : ℕ} → s ≡ t
    → Passed (record { board = plain_of s; part = p }) xs page₀ page session line at i
    → Passed (record { board = plain_of t; part = p }) xs page₀ page session line at i
passed-from {p = p} {xs} {page₀} {page} {line} {session} {at} {i} e v =
    subst (λ (x : Session). Passed (record { board = plain_of x; part = p }) xs page₀ page session line at i) e v

-- ---- what `finish` hands back

pub nothing-done : (s : Stream) {page : List ℕ} → length page < room → Finishing s page page 0
unfolding last_in
nothing-done s {page} h = rw (lt-ltb (length page) room h) (wrote_nothing page 0 (omega arith))

-- either way nothing
no-choice : (b : Bool) → ◌≡◌ {A = List ℕ} (cond b [] []) []
no-choice true = refl
no-choice false = refl

pub finished-none : (s : Stream) (page : List ℕ) {k : ℕ} → length s.line ≡ kept → k ≡ least s.n → k ≡ 0 → Finishing s page page 0
unfolding last_in end_text last_text
finished-none s page {k} l e z =
    let p : take s.n s.line ≡ [] = sym (clamped s.line s.n k l e) ∙ rw z in
    let t : [] ≡ last_in (view s) (length page) = rw p (sym (no-choice (ltb (length page) room))) in
    written-by t (wrote_nothing page 0 (omega arith))

pub finished-line : (s : Stream) {page out : List ℕ} {k n : ℕ} {r : Stepped} → length s.line ≡ kept → k ≡ least s.n → (k ≡ 0 → ⊥)
    → room ≤ length page → {f : Option Frame} → f ≡ frame_of (take k s.line) → Stepping s.session f r → PutReplyLine r.reply page 0 out n → Finishing s page out n
unfolding last_in end_text
finished-line s {page} {out} {k} {n} l e z h {f} g st w =
    let t : reply_line (plain_of s.session) f ≡ last_in (view s) (length page) =
    ap (reply_line (plain_of s.session)) g ∙ begun-text (plain_of s.session) s.line k z l
    ∙ ap (last_text (plain_of s.session)) (clamped s.line s.n k l e) ∙ sym (simp (le-ltb (length page) room h)) in
    written-by t (reply-written (plain_of s.session) f st.reply_is w)
