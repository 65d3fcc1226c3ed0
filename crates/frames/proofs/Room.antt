-- What a piece is answered fits the page: no newline is used whose reply might not. Assumes nothing.
use Prim.Native.Nat.{ℕ, suc, ◌-◌, ◌≤◌, zero-le}
use mathlib.Core.Bool.{Bool, true, false, cond, ◌&&◌, true≢false}
use mathlib.Core.List.{List, [], ◌∷◌}
use mathlib.Core.Path.{◌≡◌, refl}
use native.Mathlib.Omega.{arith}
use borrow.Author.Tests.{ltb-false}
use lib.Dec.{eqb, ltb}
use lib.ListN.{length, take, length-append}
use Rattle.wire.specs.Frame.{frame_of}
use Rattle.wire.specs.Reply.{reply_digits}
use Rattle.wire.proofs.Sizes.{reply-short}
use Rattle.sessions.specs.Session.{reply_of}
use Rattle.frames.specs.Whole.{newline, reply_line}
use Rattle.frames.specs.Stream.{room, Model, stepped, answered, fed_text, used_of}

-- a byte's answer fits where any reply does, and a byte that ends no line has none
answer-fits : (m : Model) (x left : ℕ) (b c : Bool) → eqb x newline ≡ b → ltb left room ≡ c → (b && c) ≡ false → length (answered m x) ≤ left
unfolding answered reply_line
answer-fits m x left true true e f n = absurd (true≢false n)
answer-fits m x left true false e f n =
    let d = reply_of m.board (frame_of m.part) in
    rw (e, reply_line, length-append (reply_digits d) (newline ∷ [])) (omega (arith, reply-short d, ltb-false left room f))
answer-fits m x left false c e f n = rw e zero-le

pub used-fits : (m : Model) (left : ℕ) (xs : List ℕ) → length (fed_text m (take (used_of m left xs) xs)) ≤ left
unfolding used_of fed_text
used-fits m left [] = zero-le
used-fits m left (x ∷ xs) = go (eqb x newline && ltb left room) refl (used-fits (stepped m x) (left - length (answered m x)) xs)
  where
    go : (b : Bool) → (eqb x newline && ltb left room) ≡ b
        → length (fed_text (stepped m x) (take (used_of (stepped m x) (left - length (answered m x)) xs) xs)) ≤ left - length (answered m x)
        → length (fed_text m (take (cond b 0 (suc (used_of (stepped m x) (left - length (answered m x)) xs))) (x ∷ xs))) ≤ left
    go true e ih = zero-le
    go false e ih =
        let a = answer-fits m x left (eqb x newline) (ltb left room) refl refl e in
        rw (length-append (answered m x) (fed_text (stepped m x) (take (used_of (stepped m x) (left - length (answered m x)) xs) xs))) (omega arith)
