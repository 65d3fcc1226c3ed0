-- Worked inputs, cut into lines.
use Rattle.std.specs.Prelude.{[], ◌∷◌, ◌≡◌, refl}
use Rattle.frames.specs.Whole.{onto, lines_of}

-- no line, one line of nothing, and a last newline that lacks
none : lines_of [] ≡ []
unfolding lines_of
none = refl

empty : lines_of (10 ∷ []) ≡ [] ∷ []
unfolding lines_of
empty = refl

lacks : lines_of (48 ∷ 10 ∷ 54 ∷ []) ≡ (48 ∷ []) ∷ (54 ∷ []) ∷ []
unfolding lines_of onto
lacks = refl
