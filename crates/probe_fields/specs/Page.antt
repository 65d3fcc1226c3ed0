-- What is written over a page from a place on. Definitions only.
use Rattle.std.specs.Prelude.{ℕ, ◌+◌, cond, List, [], ◌∷◌, ltb, length, slice_set}
use Rattle.hex_digits.specs.Write.{put, past_put}
use Rattle.probe_fields.specs.declared.page.Page.{Page}

-- xs with b at the place, and xs as it was where it ends before
abbrev pub put_byte : List ℕ → ℕ → ℕ → List ℕ
put_byte xs at b = cond (ltb at (length xs)) (slice_set xs at b) xs

-- the place past the byte where it fits, and `at` where not
abbrev pub past_byte : List ℕ → ℕ → ℕ
past_byte xs at = cond (ltb at (length xs)) (at + 1) at

-- the bytes of a page, and the place past those that are written
pub record Sheet : Type 0 where
  pub bytes : List ℕ
  pub at : ℕ

abbrev pub sheet : Page → Sheet
sheet p = record { bytes = p.bytes.now; at = p.at }

-- a piece at the place, and the sheet as it was where the piece does not fit
abbrev pub put_piece : Sheet → List ℕ → Sheet
put_piece s ys = record { bytes = put s.bytes s.at ys; at = past_put s.bytes s.at ys }

-- one piece after another
unfoldable pub put_all : Sheet → List (List ℕ) → Sheet
put_all s [] = s
put_all s (ys ∷ pieces) = put_all (put_piece s ys) pieces
