-- The kind, then the number.
use Rattle.hex_digits.proofs.Write.{then}
use Rattle.wire.proofs.reply.put_head.Goals as goal

pub returns : goal.returns
returns g c = then c.put_byte-next.ensures c.put_byte.ensures
