-- The digits of the float's bits.
use Rattle.hex_digits.proofs.Write.{number-wrote}
use Rattle.wire.proofs.reply.put_float.Goals as goal

pub returns : goal.returns
returns c =
    rw c.to_bits.ensures at (number-wrote 16 _ c.put_number.ensures c.requires)
