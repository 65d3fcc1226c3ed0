-- The invariant: the first i digits of v, written over what stands there now, give what all n of value would have given at the start.
use mathlib.Core.Path.{◌≡◌}
use Rattle.hex_digits.specs.Hex.{digits}
use Rattle.hex_digits.specs.Write.{over}
use Rattle.hex_digits.proofs.put_number.Given as goal

abbrev pub invariant-loop-i : goal.invariant-loop-i
invariant-loop-i l = over l.out l.at (digits l.i l.v) ≡ over l.initial.out l.at (digits l.n l.value)
