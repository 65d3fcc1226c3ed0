-- The digits of the byte.
use Rattle.hex_digits.proofs.Write.{number-wrote}
use Rattle.wire.proofs.reply.put_byte.Goals as goal

pub returns : goal.returns
returns g c =
    rw (c.from.ensures, c.byte.ensures) at (number-wrote 2 _ c.put_number.ensures c.requires)
