-- The number of a side in an answer. Definitions only.
use Rattle.std.specs.Prelude.{ℕ}
use Rattle.arcs.specs.declared.Side.{Side}
use Rattle.arcs.specs.declared.Side.TheVariants.{Left, Right, Collinear}

-- "side 00 Left 01 Right 02 Collinear"
abbrev pub side_number : Side → ℕ
side_number Left = 0
side_number Right = 1
side_number Collinear = 2
