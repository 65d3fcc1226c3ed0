-- `all_digits` meets its contract.
use Rattle.unhex.proofs.Read.{blocks_whole}
use Rattle.unhex.proofs.all_digits.Goals as goal

pub returns-clause-value : goal.returns-clause-value
returns-clause-value c =
    let k = c.in-Some.ensures.cases in
    rw (c.each_block.ensures, c.each_digit.ensures) (blocks_whole c.args.s.now k.0 k.1.same c.as_chunks.ensures.front)
