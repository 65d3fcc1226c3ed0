-- The frame that a line is read as where it is told whether the line is digits alone. Definitions only.
use Rattle.std.specs.Prelude.{ℕ, Bool, cond, List, Option, None}
use Rattle.unhex.specs.Digits.{lows_in}
use Rattle.wire.specs.declared.frame.Frame.{Frame}
use Rattle.wire.specs.Frame.{framed}

-- told to be digits alone, the line's frame with each number by the low bits of its bytes; told not to be, no frame
unfoldable pub frame_known : Bool → List ℕ → Option Frame
frame_known digits s = cond digits (framed lows_in (lows_in s 0 2) s) None
