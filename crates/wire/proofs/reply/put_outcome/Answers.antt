-- The number, the nanoseconds and the count, one after another.
use native.Mathlib.Omega.{arith}
use Rattle.wire.specs.Reply.{outcome_digits}
use Rattle.wire.proofs.Sizes.{more}
use Rattle.wire.proofs.reply.put_outcome.Goals as goal

pub returns : goal.returns
unfolding outcome_digits
returns c =
    let b = more 16 _ c.put_byte-time.ensures c.put_number-count.ensures (omega (arith, c.requires)) in
    rw (
      c.number.ensures,
      c.nanoseconds.ensures,
      c.from.ensures,
      c.count.ensures,
    ) at (more 2 _ b c.put_number.ensures c.requires)
