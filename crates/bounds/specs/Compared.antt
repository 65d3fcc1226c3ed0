-- The ranges of Radius, and the first of its claims, by tests that a program can make: as floats compare. Definitions only.
use Rattle.std.specs.Prelude.{ℕ, ◌^◌, ◌≤◌, ◌<◌, ◌↔◌, T, Float}
use Rattle.std.specs.Float.{binary64}
use Rattle.std.specs.Float.Ieee.{fits, le}
use Rattle.patterns.specs.Operators.{◌⊗◌, whole}
use Rattle.patterns.specs.Units.{units_of}
use Rattle.bounds.specs.Radius.{Between}

-- x is a value of f64 that passes `lo <= x && x <= hi`
pub record Passes (lo hi : ℕ) (x : Float) : Type 0 where
  pub held : T (fits binary64 x)
  pub low : T (le (whole lo) x)
  pub high : T (le x (whole hi))

-- such a value lies from lo to hi, for whole numbers of at most 53 digits, which are floats as they are
abbrev pub TestsTell : Type 0
TestsTell = (lo hi : ℕ) (x : Float) → lo < 2 ^ 53 → hi < 2 ^ 53 → Passes lo hi x → Between lo hi x

-- of two values in such ranges `x <= y` says that x has no more units
abbrev pub OrderTells : Type 0
OrderTells = (lo hi lo' hi' : ℕ) (x y : Float) → Between lo hi x → Between lo' hi' y → T (le x y) ↔ units_of x ≤ units_of y

-- "the distance under r is at most that under s"
abbrev pub MonoAsCompared : Type 0
MonoAsCompared = (a r s : Float) → Passes 0 4 a → Passes 1 (2 ^ 30) r → Passes 1 (2 ^ 30) s → T (le r s) → T (le (a ⊗ r) (a ⊗ s))
