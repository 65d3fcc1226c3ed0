-- The fields of a line, one after another.
use Rattle.hex_digits.proofs.Write.{then}
use Rattle.wire.specs.Reply.{line_digits}
use Rattle.wire.proofs.reply.put_line.Goals as goal

pub returns : goal.returns
unfolding line_digits
returns c =
    let a = then c.put_float-a.ensures c.put_float-b.ensures in
    let b = then (then a c.put_byte-c.ensures) c.put_float-d.ensures in
    then (then (then b c.put_outcome-e.ensures) c.put_outcome-f.ensures) c.put_outcome.ensures
