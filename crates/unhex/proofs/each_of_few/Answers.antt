-- `each_of_few` meets its contract.
use Rattle.std.proofs.Common.{length, take, drop, ◌-◌, ◌∙◌, arith}
use mathlib.Core.Bool.{and_comm}
use Rattle.unhex.specs.Digits.{all_digits}
use Rattle.unhex.proofs.Read.{blocks_end}
use Rattle.unhex.proofs.each_of_few.Goals as goal

pub returns : goal.returns
returns c =
    let s = c.args.s.now in
    rw (c.each_digit.ensures, c.each_digit-2.ensures, c.in-Some.ensures.cases.same, c.in-Some-last_chunk.ensures.cases.1.same)
    (and_comm (all_digits (take 8 s)) (all_digits (drop (length s - 8) s)) ∙ blocks_end s (length s - 8) 8 (omega arith))
