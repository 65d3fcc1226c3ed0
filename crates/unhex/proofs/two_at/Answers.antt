-- Two digits by their low bits, where s has them.
use Rattle.unhex.proofs.Read.{two-lows}
use Rattle.unhex.proofs.two_at.Goals as goal

pub returns-clause-value : goal.returns-clause-value
returns-clause-value c =
    let l = two-lows c.args.s.now c.args.at (rw c.tail.ensures at c.in-len2-up.len_at_least) in
    rw (c.low.ensures, c.low-2.ensures, c.tail.ensures) l
