-- `len` meets its contract.
use Rattle.std.proofs.Common.{sym}
use Rattle.means.specs.Laid.{column_at}
use Rattle.means.proofs.Laid.{length_from}
use Rattle.means.proofs.columns.InColumnsRun.len.Goals as goal

pub returns : goal.returns
returns c = let s = c.args.self in sym (length_from (column_at s.cs.now s.m) 0 s.n)
