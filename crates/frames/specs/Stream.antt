-- The input in pieces: what is kept between two pieces, and what a piece is answered. Definitions only.
use Rattle.std.specs.Prelude.{ℕ, suc, ◌+◌, ◌-◌, ◌≤◌, cond, ◌&&◌, List, [], ◌∷◌, ◌++◌, ◌≡◌, eqb, ltb, length, take, drop, Option, None}
use Rattle.plain.specs.Board.{Plain}
use Rattle.hex_digits.specs.Write.{Wrote}
use Rattle.frames.specs.declared.stream.Fed.{Fed}
use Rattle.frames.specs.declared.stream.Stream.{Stream}
use Rattle.wire.specs.Frame.{frame_of}
use Rattle.frames.specs.Line.{kept}
use Rattle.wire.specs.Reply.{most_reply_digits}
use Rattle.sessions.specs.Session.{next, plain_of}
use Rattle.frames.specs.Whole.{newline, reply_line, replies}

-- the room that any reply fits, its newline with it
abbrev pub room : ℕ
room = most_reply_digits + 1

-- ---- what is kept between two pieces

-- the session, and the first bytes of the line that has begun
pub record Model : Type 0 where
  pub board : Option Plain
  pub part : List ℕ

-- nothing has come
unfoldable pub fresh : Model
fresh = record { board = None; part = [] }

-- one more byte of the line
unfoldable pub added : List ℕ → ℕ → List ℕ
added p x = cond (ltb (length p) kept) (p ++ (x ∷ [])) p

-- ---- one byte, and a piece of the input

unfoldable pub stepped : Model → ℕ → Model
stepped m x =
    cond (eqb x newline) (record { board = next m.board (frame_of m.part); part = [] }) (record { board = m.board; part = added m.part x })

-- what the byte is answered: a newline, by the reply to the frame that it ends
unfoldable pub answered : Model → ℕ → List ℕ
answered m x = cond (eqb x newline) (reply_line m.board (frame_of m.part)) []

unfoldable pub fed_state : Model → List ℕ → Model
fed_state m [] = m
fed_state m (x ∷ xs) = fed_state (stepped m x) xs

unfoldable pub fed_text : Model → List ℕ → List ℕ
fed_text m [] = []
fed_text m (x ∷ xs) = answered m x ++ fed_text (stepped m x) xs

-- the end of the input: "the last newline may lack"
unfoldable pub last_text : Option Plain → List ℕ → List ℕ
last_text o [] = []
last_text o (x ∷ p) = reply_line o (frame_of (x ∷ p))

unfoldable pub end_text : Model → List ℕ
end_text m = last_text m.board m.part

-- how many bytes of a piece are used where so much of the page is left: all, or those before the first newline whose reply might not fit
unfoldable pub used_of : Model → ℕ → List ℕ → ℕ
used_of m left [] = 0
used_of m left (x ∷ xs) = cond (eqb x newline && ltb left room) 0 (suc (used_of (stepped m x) (left - length (answered m x)) xs))

-- ---- the stream of the code

abbrev pub view : Stream → Model
view s = record { board = plain_of s.session; part = take s.n s.line }

-- a text over a page from its start, and the place past it
abbrev pub Written : List ℕ → List ℕ → List ℕ → ℕ → Type 0
Written text page out next = Wrote page 0 (length text) text out next

-- a piece: the bytes used, the stream after them, and their replies over the page
pub record Feeding (s : Stream) (xs page out : List ℕ) (r : Fed) : Type 0 where
  pub used_is : r.used ≡ used_of (view s) (length page) xs
  pub stream_is : view r.stream ≡ fed_state (view s) (take r.used xs)
  pub wrote : Written (fed_text (view s) (take r.used xs)) page out r.next

-- the end of the input: the reply to a line that has begun, where the page has the room for any reply, and nothing where not
unfoldable pub last_in : Model → ℕ → List ℕ
last_in m n = cond (ltb n room) [] (end_text m)

abbrev pub Finishing : Stream → List ℕ → List ℕ → ℕ → Type 0
Finishing s page out next = Written (last_in (view s) (length page)) page out next

-- ---- a whole input through the code

-- calls of `feed` and `finish`, each on the stream that the call before handed back, and what they write, joined: `feed` is handed any first
-- part of what is left of the input, what it does not use stays, and `finish` ends it on a page with the room for any reply
pub data Ran : Stream → List ℕ → List ℕ → Type 0 where
  ended : {s : Stream} {page out : List ℕ} {n : ℕ} → room ≤ length page → Finishing s page out n → Ran s [] (take n out)
  fed : {s : Stream} {page out text : List ℕ} (xs rest : List ℕ) (r : Fed) → Feeding s xs page out r
      → Ran r.stream (drop r.used xs ++ rest) text → Ran s (xs ++ rest) (take r.next out ++ text)

-- what they write for every input, however it is cut and whatever the pages, is its replies
abbrev pub AnswersAll : Stream → Type 0
AnswersAll s = (input text : List ℕ) → Ran s input text → text ≡ replies input
