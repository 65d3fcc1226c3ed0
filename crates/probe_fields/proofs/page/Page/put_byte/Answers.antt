-- `Page::put_byte` meets its contract.
use Rattle.probe_fields.proofs.Written.{byte_fits, byte_stays}
use Rattle.probe_fields.proofs.page.Page.put_byte.Goals as goal

pub returns-then-self-clause-piece : goal.returns-then-self-clause-piece
returns-then-self-clause-piece c = byte_fits c.args.self.now.bytes.now c.args.self.now.at c.args.b c.if-self.true

pub returns-else-self-clause-piece : goal.returns-else-self-clause-piece
returns-else-self-clause-piece c = byte_stays c.args.self.now.bytes.now c.args.self.now.at c.args.b c.if-self.false
