-- What is answered of a piece, and of the rest after it.
use Prim.Native.Nat.{ℕ}
use mathlib.Core.List.{List, ◌++◌}
use mathlib.Core.Path.{◌≡◌, sym, ap, ◌∙◌}
use lib.ListN.{take, drop, take-append-drop}
use Rattle.frames.specs.Stream.{Model, fed_state, fed_text}
use Rattle.frames.proofs.Pieces.{state-append, text-append}

-- what is made of the rest, after the bytes used
pub rest-state : (m n : Model) (xs : List ℕ) (u : ℕ) → n ≡ fed_state m (take u xs) → fed_state n (drop u xs) ≡ fed_state m xs
rest-state m n xs u e = rw e (sym (state-append m (take u xs) (drop u xs))) ∙ ap (fed_state m) (take-append-drop u xs)

-- and what the rest is answered, after what those were
pub rest-text : (m n : Model) (xs : List ℕ) (u : ℕ) → n ≡ fed_state m (take u xs) → fed_text m (take u xs) ++ fed_text n (drop u xs) ≡ fed_text m xs
rest-text m n xs u e = rw e (sym (text-append m (take u xs) (drop u xs))) ∙ ap (fed_text m) (take-append-drop u xs)
