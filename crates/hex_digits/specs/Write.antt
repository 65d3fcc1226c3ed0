-- Bytes written over a list of bytes from a place on: all of them where there is room, and none where not.
use Rattle.std.specs.Prelude.{ℕ, ◌+◌, ◌≤◌, cond, List, ◌++◌, ◌≡◌, leb, length, take, drop}

-- xs with ys in place of what stood from `at` on
unfoldable pub over : List ℕ → ℕ → List ℕ → List ℕ
over xs at ys = take at xs ++ ys ++ drop (at + length ys) xs

-- ys over xs from `at` on, and xs as it was where ys does not fit
unfoldable pub put : List ℕ → ℕ → List ℕ → List ℕ
put xs at ys = cond (leb (at + length ys) (length xs)) (over xs at ys) xs

-- the place past ys where it fits, and `at` where not
unfoldable pub past_put : List ℕ → ℕ → List ℕ → ℕ
past_put xs at ys = cond (leb (at + length ys) (length xs)) (at + length ys) at

-- what a function that writes ys into xs at `at` leaves there, and what it answers
pub record Put (xs : List ℕ) (at : ℕ) (ys out : List ℕ) (next : ℕ) : Type 0 where
  pub text : out ≡ put xs at ys
  pub past : next ≡ past_put xs at ys

-- ys, n bytes long, had room in xs at `at` and was written there; `out` is what came of it and `next` is past the last byte
pub record Wrote (xs : List ℕ) (at n : ℕ) (ys out : List ℕ) (next : ℕ) : Type 0 where
  pub size : length ys ≡ n
  pub past : next ≡ at + n
  pub within : next ≤ length xs
  pub length_is : length out ≡ length xs
  pub text : out ≡ over xs at ys
