-- Sixteen digits are two halves of eight.
use Rattle.std.proofs.Common.{arith}
use Rattle.unhex.proofs.Read.{sixteen-lows}
use Rattle.unhex.proofs.sixteen_at.Goals as goal

pub returns-clause-value : goal.returns-clause-value
returns-clause-value c =
    let e = rw c.tail.ensures at c.as_chunks.ensures in
    let s = sixteen-lows c.args.s.now c.args.at e.front (omega (arith, e.front_len)) in
    omega arith
