-- The lowercase hexadecimal digits of a number. Definitions only.
use Rattle.std.specs.Prelude.{ℕ, zero, suc, ◌+◌, ◌-◌, ◌/◌, ◌%◌, cond, List, [], ◌∷◌, ◌++◌, ltb}

-- the byte of a digit's number
abbrev pub byte_of : ℕ → ℕ
byte_of d = cond (ltb d 10) (48 + d) (97 + (d - 10))

-- the last n digits of v, high digit first
unfoldable pub digits : ℕ → ℕ → List ℕ
digits zero v = []
digits (suc n) v = digits n (v / 16) ++ (byte_of (v % 16) ∷ [])
