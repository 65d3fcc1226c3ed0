-- The lines of a piece of the input: where one ends, and what is kept of it. Definitions only.
use Rattle.std.specs.Prelude.{ℕ, ◌+◌, ◌≤◌, ◌<◌, List, ◌++◌, ◌≢◌, ◌≡◌, min, length, take, get_or}
use Rattle.unhex.specs.Digits.{all_digits}
use Rattle.frames.specs.declared.line.LineSpan.{LineSpan}
use Rattle.wire.specs.Kind.{most_frame_digits}
use Rattle.frames.specs.Whole.{newline}

-- how many bytes of a line are kept: one more than the longest frame has, so that a longer line is no frame
abbrev pub kept : ℕ
kept = most_frame_digits + 1

-- the lesser of n and what is kept
abbrev pub least : ℕ → ℕ
least n = min n kept

-- none of the first n bytes is a newline
abbrev pub NoNewline : List ℕ → ℕ → Type 0
NoNewline s n = (k : ℕ) → k < n → get_or s k 0 ≢ newline

-- a place with no newline before it
pub record Passes (s : List ℕ) (n : ℕ) : Type 0 where
  pub within : n ≤ length s
  pub before : NoNewline s n

-- the first newline stands at e, or there is none and e is the end
pub record EndsAt (s : List ℕ) (e : ℕ) : Type 0 where
  pub passes : Passes s e
  pub ends : e < length s → get_or s e 0 ≡ newline

-- the line that s begins with, and whether it is digits alone
pub record SpansLine (s : List ℕ) (r : LineSpan) : Type 0 where
  pub ends_at : EndsAt s r.end
  pub digits_are : r.digits ≡ all_digits (take r.end s)

-- what is kept of a line of which n bytes were, once more have come
pub record Joined (line : List ℕ) (n : ℕ) (more r : List ℕ) : Type 0 where
  pub length_is : length r ≡ kept
  pub text : take (least (n + length more)) r ≡ take kept (take n line ++ more)
