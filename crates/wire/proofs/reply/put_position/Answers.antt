-- The three parts, one after another.
use Rattle.hex_digits.proofs.Write.{then}
use Rattle.wire.specs.Reply.{position_digits}
use Rattle.wire.proofs.reply.put_position.Goals as goal

pub returns : goal.returns
unfolding position_digits
returns c =
    then (then c.put_float-a.ensures c.put_float-b.ensures) c.put_float.ensures
