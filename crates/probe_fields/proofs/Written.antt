-- Pieces written one after another, and a byte as a piece.
use Rattle.std.proofs.Common.{◌≡◌, ℕ, ◌+◌, ◌<◌, ◌≤◌, List, [], ◌∷◌, ◌++◌, length, slice_set, refl, arith}
use Rattle.hex_digits.specs.Write.{Put}
use Rattle.hex_digits.proofs.Write.{put-fits, put-stays, wrote-byte}
use Rattle.probe_fields.specs.Fields.{spaced}
use Rattle.probe_fields.specs.Page.{Sheet, put_piece, put_all}

put_all_append : (s : Sheet) (xs ys : List (List ℕ)) → put_all s (xs ++ ys) ≡ put_all (put_all s xs) ys
unfolding put_all
put_all_append s [] ys = refl
put_all_append s (x ∷ xs) ys = put_all_append (put_piece s x) xs ys

-- two results with a space between are the one, the space and the other
pub put_all_spaced : (s : Sheet) (xs ys : List (List ℕ)) → put_all s (spaced xs ys) ≡ put_all (put_piece (put_all s xs) (32 ∷ [])) ys
unfolding put_all spaced
put_all_spaced s xs ys = put_all_append s xs ((32 ∷ []) ∷ ys)

-- what a write leaves is the piece over the sheet
pub piece_of : {xs ys out : List ℕ} {at next : ℕ} → Put xs at ys out next
    → ◌≡◌ {A = Sheet} (record { bytes = out; at = next }) (put_piece (record { bytes = xs; at = at }) ys)
piece_of w = rw (w.text, w.past) refl

pub byte_fits : (xs : List ℕ) (at b : ℕ) → at < length xs
    → ◌≡◌ {A = Sheet} (record { bytes = slice_set xs at b; at = at + 1 }) (put_piece (record { bytes = xs; at = at }) (b ∷ []))
byte_fits xs at b h = piece_of (put-fits (omega arith) (wrote-byte xs at b h).text refl)

pub byte_stays : (xs : List ℕ) (at b : ℕ) → length xs ≤ at
    → ◌≡◌ {A = Sheet} (record { bytes = xs; at = at }) (put_piece (record { bytes = xs; at = at }) (b ∷ []))
byte_stays xs at b h = piece_of (put-stays (omega arith))
