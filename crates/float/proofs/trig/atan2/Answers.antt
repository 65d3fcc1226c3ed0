-- `atan2` meets its contract.
use Rattle.float.specs.Trig as spec
use lib.Ieee.{of_int, of_bits}
use Rattle.float.proofs.Tangent.{of-numbers}
use Rattle.float.proofs.trig.atan2.Goals as goal

pub returns-then-is_nan : goal.returns-then-is_nan
unfolding spec.atan2 of_bits
returns-then-is_nan c = rw (← c.is_nan.ensures.value, ← c.is_nan-2.ensures.value, c.if-is_nan.true)

pub returns : goal.returns
unfolding of_int of_bits
returns c =
    rw (
      c.negated_if.ensures,
      c.sign_bit-2.ensures,
      c.subtracted_if-v.ensures,
      c.sign_bit.ensures,
      c.subtracted_if-u.ensures,
      c.arc-t.ensures,
      c.ratio.ensures,
      c.magnitude-b.ensures,
      c.magnitude-a.ensures,
    )
    (of-numbers c.args.y c.args.x c.is_nan.ensures.value c.is_nan-2.ensures.value c.if-is_nan.false)
