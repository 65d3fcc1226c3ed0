-- The first newline is found, or there is none.
use Rattle.frames.proofs.Spans.{newline-found}
use Rattle.frames.proofs.line.end_of_line.Goals as goal

pub returns : goal.returns
returns c = rw c.unwrap_or.ensures (newline-found c.args.s.now c.memchr.result c.memchr.ensures)
