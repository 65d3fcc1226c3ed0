-- What is written is the reply to the line that has begun.
use Rattle.std.proofs.Common.{subst, OnOk}
use Rattle.std.specs.Io.KnownBytes.{Appends}
use Rattle.std.specs.declared.io.Error.{Error}
use Rattle.console.specs.declared.Failure.{Failure}
use Rattle.frames.specs.Stream.{end_text, last_in, view}
use Rattle.frames.proofs.Pieces.{taken}
use Rattle.plot.proofs.Whole.{named}
use Rattle.plot.proofs.last.Goals as goal

pub returns-clause-written : goal.returns-clause-written
unfolding last_in
returns-clause-written g c =
    named {T = Unit {0}} {E = Error} {F = Failure} (Appends (g.W.Write.contents c.args.out.now) (g.W.Write.contents c.write_all.new.self) (end_text (view c.args.s))) _
    c.write_all.result c.map_err.result c.map_err.ensures.cases
    (subst (λ t. OnOk c.write_all.result (Appends (g.W.Write.contents c.args.out.now) (g.W.Write.contents c.write_all.new.self) t)) (taken c.finish-n.ensures)
    c.write_all.ensures.bytes)
