-- A finite float as a whole number of units of 2 ^ -1074, the smallest value of binary64, and whole numbers that lie near each other. Definitions only.
use Rattle.std.specs.Prelude.{ℕ, ◌+◌, ◌*◌, ◌/◌, ◌^◌, ◌≤◌, Bool, ℤ, Float}
use Rattle.std.specs.Float.{nan, inf, fin}
use Rattle.std.specs.Float.Ieee.{up, down}
use Rattle.std.specs.Float.Ieee.Exact.{HasValue}

-- m * 2 ^ e in units of 2 ^ -1074, of which every finite value of binary64 is a whole number
abbrev pub in_units : ℕ → ℤ → ℕ
in_units m e = m * up e * 2 ^ 1074 / down e

-- the size of a finite value in units, whatever its sign; 0 for a NaN and an infinity
unfoldable pub units_of : Float → ℕ
units_of nan = 0
units_of (inf s) = 0
units_of (fin s m e) = in_units m e

-- x is finite, has the sign s, and is n units in size
abbrev pub Has : Float → Bool → ℕ → Type 0
Has x s n = HasValue x s n (2 ^ 1074)

-- x and y differ by e at most
pub record Near (x y e : ℕ) : Type 0 where
  pub low : x ≤ y + e
  pub high : y ≤ x + e
