-- What `feed` hands back, of the line that has begun, of the lines after it, and of both.
use Prim.Native.Nat.{ℕ, suc, ◌+◌, ◌-◌, ◌≤◌, ◌<◌}
use mathlib.Core.Bool.{Bool, true, false, cond, ◌&&◌, and-false, false≢true}
use mathlib.Core.List.{List, [], ◌∷◌, ◌++◌, append_assoc, append-nil}
use mathlib.Core.Logic.{◌≢◌}
use mathlib.Core.Path.{◌≡◌, refl, sym, ap, ◌∙◌, subst}
use native.Mathlib.Nat.{zero-add, sub-zero}
use native.Mathlib.Omega.{arith}
use borrow.Author.Tests.{ltb-true, lt-ltb, le-ltb}
use lib.Dec.{eqb, ltb}
use lib.ListN.{length, take, drop, get_or, length-drop, length-append, length-take, drop_of_length-le}
use lib.Seq.{take_all, take-nil, take-add, drop-cons, drop-drop, length-take-le}
use Rattle.hex_digits.specs.Write.{over, Wrote}
use Rattle.hex_digits.proofs.Write.{wrote_nothing, then, as-length}
use Rattle.sessions.specs.declared.session.Session.{Session}
use Rattle.frames.specs.declared.stream.Fed.{Fed}
use Rattle.frames.specs.declared.stream.Stream.{Stream}
use Rattle.frames.specs.Line.{kept, least, Passes, EndsAt, Joined}
use Rattle.sessions.specs.Session.{plain_of}
use Rattle.frames.specs.Stream.{room, Model, stepped, answered, fed_state, fed_text, used_of, view, Written, Feeding}
use Rattle.frames.specs.Turn.{waits, GoingOn}
use Rattle.frames.specs.Whole.{newline}
use Rattle.frames.proofs.Pieces.{split, state-append, text-append}
use Rattle.frames.proofs.Turns.{Passed, passed-bytes, clamped}

-- ---- before a piece, and after it

-- before the first byte: the line that has begun
pub opening : (m : Model) (xs page q : List ℕ) (session : Session) → ◌≡◌ {A = Model} (record { board = plain_of session; part = take kept q }) m
    → Passed m xs page page session q 0 0
unfolding fed_state fed_text
opening m xs page q session e =
    record { within = omega arith; state = e; wrote = wrote_nothing page 0 (omega arith); uses = rw (e, sub-zero (length page)) (sym (zero-add _)) }

-- with no line begun
pub opening-none : (xs page : List ℕ) (session : Session) → Passed (record { board = plain_of session; part = [] }) xs page page session [] 0 0
opening-none xs page session = opening _ xs page [] session (ap (λ (p : List ℕ). record { board = plain_of session; part = p }) (take-nil kept))

-- where nothing is left, or a newline whose reply might not fit, no more is used
no_more : (m : Model) (left : ℕ) (xs : List ℕ) (e : ℕ) → e ≤ length xs → (e < length xs → (get_or xs e 0 ≡ newline) × (left < room))
    → used_of m left (drop e xs) ≡ 0
unfolding used_of
no_more m left xs e w h =
    split (length xs) e
    (λ g. rw (drop_of_length-le xs g))
    (λ g. rw (drop-cons xs e 0 g, (h g).0) (simp (lt-ltb left room (h g).1)))

-- after the bytes used: their state and text, the line kept in what is handed back
module _ (s : Stream) (line : List ℕ) (k : ℕ) {xs page out q : List ℕ} {session : Session} {at e : ℕ}
    (v : Passed (view s) xs page out session q at e) (j : take k line ≡ take kept q) where
  handed : ◌≡◌ {A = Model} (record { board = plain_of session; part = take k line }) (record { board = plain_of session; part = take kept q })
  handed = ap (λ (p : List ℕ). record { board = plain_of session; part = p }) j

  all-used : (e < length xs → (get_or xs e 0 ≡ newline) × (length page < at + room)) → e ≡ used_of (view s) (length page) xs
  all-used h =
      sym (v.uses ∙ rw (no_more _ (length page - at) xs e v.within (λ g. ((h g).0, omega (arith, (h g).1, v.wrote.within)))) (omega arith))

  pub feeding : (e < length xs → (get_or xs e 0 ≡ newline) × (length page < at + room))
      → Feeding s xs page out (record { stream = record { session = session; line = line; n = k }; used = e; next = at })
  feeding h = record { used_is = all-used h; stream_is = handed ∙ v.state; wrote = v.wrote }

  pub going_on : (k ≢ 0 → e < length xs → (get_or xs e 0 ≡ newline) × (length page < at + room))
      → GoingOn s xs page out (record { stream = record { session = session; line = line; n = k }; used = e; next = at })
  going_on h =
      record {
        within = v.within;
        stops = λ z. all-used (h z);
        goes = v.uses ∙ rw (sym handed);
        stream_is = handed ∙ v.state;
        wrote = v.wrote;
      }

-- a line that is not yet answered waits as a piece does
pub going-feeds : {s : Stream} {xs page out : List ℕ} {r : Fed} → GoingOn s xs page out r → 0 < r.stream.n → Feeding s xs page out r
going-feeds g h = record { used_is = g.stops (λ e. omega arith); stream_is = g.stream_is; wrote = g.wrote }

-- a stream with no line begun
pub passed-fresh : (s : Stream) {xs page out q : List ℕ} {session : Session} {at e : ℕ} → s.n ≡ 0
    → Passed (record { board = plain_of s.session; part = [] }) xs page out session q at e → Passed (view s) xs page out session q at e
passed-fresh s {xs} {page} {out} {q} {session} {at} {e} h v =
    subst (λ (n : ℕ). Passed (record { board = plain_of s.session; part = take n s.line }) xs page out session q at e) (sym h) v

-- what is kept of a line is kept
kept-begun : (s : Stream) (n : ℕ) → length s.line ≡ kept → n ≡ least s.n
    → ◌≡◌ {A = Model} (record { board = plain_of s.session; part = take kept (take n s.line) }) (view s)
kept-begun s n l e =
    ap (λ (p : List ℕ). record { board = plain_of s.session; part = p })
    (take_all kept (take n s.line) (omega (arith, length-take n s.line, l)) ∙ clamped s.line s.n n l e)

-- the bytes up to the end of the line that has begun passed, and what is kept of it
begun-passed : (s : Stream) {xs page : List ℕ} {n e : ℕ} → length s.line ≡ kept → n ≡ least s.n → Passes xs e
    → Passed (view s) xs page page s.session (take n s.line ++ take e xs) 0 e
begun-passed s {xs} {page} {n} {e} l h w =
    let w₀ : Passes (drop 0 xs) e = w in
    subst (λ (k : ℕ). Passed (view s) xs page page s.session (take n s.line ++ take e xs) 0 k) (zero-add e)
    (passed-bytes {i = 0} {n = e} (opening (view s) xs page (take n s.line) s.session (kept-begun s n l h)) w₀)

begun_kept : (xs : List ℕ) (e : ℕ) {begun line : List ℕ} {n k : ℕ} → Joined begun n (take e xs) line → e ≤ length xs → k ≡ least (n + e)
    → take k line ≡ take kept (take n begun ++ take e xs)
begun_kept xs e {begun} {line} {n} {k} j w h =
    ap (λ (m : ℕ). take m line) (h ∙ ap (λ (m : ℕ). least (n + m)) (sym (length-take-le e xs w))) ∙ j.text

-- both, of the line that has begun as far as the piece goes
pub begun-line : (s : Stream) (xs page : List ℕ) {n e k : ℕ} {line : List ℕ} → length s.line ≡ kept → n ≡ least s.n → EndsAt xs e
    → Joined s.line n (take e xs) line → k ≡ least (n + e)
    → Passed (view s) xs page page s.session (take n s.line ++ take e xs) 0 e × (take k line ≡ take kept (take n s.line ++ take e xs))
begun-line s xs page {e = e} l h w j k = (begun-passed s l h w.passes, begun_kept xs e j w.passes.within k)

-- a line has one end
pub ends_same : (xs : List ℕ) {a b : ℕ} → EndsAt xs a → EndsAt xs b → a ≡ b
ends_same xs {a} {b} e f =
    split a b
    (λ h. split b a (λ g. omega arith) (λ g. absurd (f.passes.before a g (e.ends (omega (arith, f.passes.within))))))
    (λ h. absurd (e.passes.before b h (f.ends (omega (arith, e.passes.within)))))

-- ---- what waits

-- a line that ends in the piece and waits has no room
pub waits-room : (e n left : ℕ) → waits e n left ≡ true → e < n → left < room
unfolding waits
waits-room e n left h l = ltb-true left room (sym (simp (lt-ltb e n l)) ∙ h)

-- one that does not wait ends in the piece, and has room
pub waits-not : (e n left : ℕ) → waits e n left ≡ false → (e < n) × (room ≤ left)
unfolding waits
waits-not e n left h =
    split n e
    (λ l. let w : waits e n left ≡ true = simp (le-ltb e n l) in absurd (false≢true (sym h ∙ w)))
    (λ l. (
      l,
      split room left (λ g. g) (λ g.
          let w : waits e n left ≡ true = simp (lt-ltb e n l, lt-ltb left room g) in absurd (false≢true (sym h ∙ w))),
    ))

-- ---- the line that has begun, and then the rest

-- what is written over the rest of a page is written over the page
over-rest : (mid ys : List ℕ) (a : ℕ) → a ≤ length mid → take a mid ++ over (drop a mid) 0 ys ≡ over mid a ys
unfolding over
over-rest mid ys a h = rw (drop-drop (0 + length ys) a mid, zero-add (length ys)) (sym (append_assoc (take a mid) ys (drop (a + length ys) mid)))

pub wrote-rest : {mid ys out : List ℕ} {a n next : ℕ} → a ≤ length mid → Wrote (drop a mid) 0 n ys out next
    → Wrote mid a n ys (take a mid ++ out) (a + next)
wrote-rest {mid} {ys} {out} {a} {n} {next} h w =
    let l = length-drop a mid in
    record {
      size = w.size;
      past = omega (arith, w.past);
      within = omega (arith, w.within, l, h);
      length_is = length-append (take a mid) out ∙ omega (arith, length-take-le a mid h, w.length_is, l, h);
      text = rw w.text (over-rest mid ys a h);
    }

-- all from a place on
rest_of : (xs : List ℕ) (a : ℕ) → take (length xs - a) (drop a xs) ≡ drop a xs
rest_of xs a = take_all (length xs - a) (drop a xs) (omega (arith, length-drop a xs))

nothing-after : (xs : List ℕ) (a : ℕ) → drop (length xs - a) (drop a xs) ≡ []
nothing-after xs a = let h : length (drop a xs) ≤ length xs - a = omega (arith, length-drop a xs) in drop_of_length-le (drop a xs) h

-- no more is used than there is
pub used_le : (m : Model) (left : ℕ) (xs : List ℕ) → used_of m left xs ≤ length xs
unfolding used_of
used_le m left [] = omega arith
used_le m left (x ∷ xs) = go (eqb x newline && ltb left room) (used_le (stepped m x) (left - length (answered m x)) xs)
  where
    go : (b : Bool) {n : ℕ} → n ≤ length xs → cond b 0 (suc n) ≤ length (x ∷ xs)
    go true h = omega arith
    go false h = omega arith

pub fed-within : {s : Stream} {xs page out : List ℕ} {r : Fed} → Feeding s xs page out r → r.used ≤ length xs
fed-within {s} {xs} {page} f = omega (arith, f.used_is, used_le (view s) (length page) xs)

-- on a page with the room for any reply some of each piece is used
pub some-used : {s : Stream} {xs page out : List ℕ} {r : Fed} → Feeding s xs page out r → 0 < length xs → room ≤ length page → 0 < r.used
some-used {s} {xs} {page} f h k = omega (arith, f.used_is, go xs h)
  where
    go : (ys : List ℕ) → 0 < length ys → 0 < used_of (view s) (length page) ys
    go [] z = let y : ⊥ = omega arith in absurd y
    go (y ∷ ys) z = unfold used_of in rw (le-ltb (length page) room k, and-false (eqb y newline)) (omega arith)

module _ {s : Stream} {xs page mid out : List ℕ} {r t : Fed} (g : GoingOn s xs page mid r)
    (f : Feeding r.stream (take (length xs - r.used) (drop r.used xs)) (take (length mid - r.next) (drop r.next mid)) out t) where
  l : length (take (length xs - r.used) (drop r.used xs)) ≡ length xs - r.used
  l = ap (λ (z : List ℕ). length z) (rest_of xs r.used) ∙ length-drop r.used xs

  k : length (take (length mid - r.next) (drop r.next mid)) ≡ length mid - r.next
  k = ap (λ (z : List ℕ). length z) (rest_of mid r.next) ∙ length-drop r.next mid

  pub used-within : r.used + t.used ≤ length xs
  used-within = omega (arith, g.within, fed-within f, l)

  pub next-within : r.next + t.next ≤ length page
  next-within = omega (arith, g.wrote.within, g.wrote.length_is, f.wrote.within, k)

  upto-both : take (r.used + t.used) xs ≡ take r.used xs ++ take t.used (take (length xs - r.used) (drop r.used xs))
  upto-both = rw (rest_of xs r.used) (take-add r.used t.used xs)

  used-both : r.used + t.used ≡ used_of (view s) (length page) xs
  used-both = rw (g.goes, f.used_is, rest_of xs r.used, k, g.wrote.length_is)

  text-both : fed_text (view s) (take r.used xs) ++ fed_text (view r.stream) (take t.used (take (length xs - r.used) (drop r.used xs)))
      ≡ fed_text (view s) (take (r.used + t.used) xs)
  text-both = rw (g.stream_is, upto-both) (sym (text-append (view s) (take r.used xs) _))

  pub feeding-then : Feeding s xs page (take r.next mid ++ (out ++ drop (length mid - r.next) (drop r.next mid)))
      (record { stream = t.stream; used = r.used + t.used; next = r.next + t.next })
  feeding-then =
      record {
        used_is = used-both;
        stream_is = f.stream_is ∙ rw (g.stream_is, upto-both) (sym (state-append (view s) (take r.used xs) _));
        wrote =
            rw (nothing-after mid r.next, append-nil out, ← text-both)
            (as-length (then g.wrote
            (wrote-rest (omega (arith, g.wrote.within, g.wrote.length_is))
            (subst (λ (z : List ℕ). Written (fed_text (view r.stream) (take t.used (take (length xs - r.used) (drop r.used xs)))) z out t.next)
            (rest_of mid r.next) f.wrote))) refl);
      }
