-- What was read is answered, but for a line that has begun.
use Rattle.plot.proofs.Whole.{Replied}
use Rattle.plot.proofs.run.Given as goal

abbrev pub invariant-loop : goal.invariant-loop
invariant-loop g l =
    Replied l.counter (g.R.Read.remaining l.initial.input) (g.R.Read.remaining l.input) (g.W.Write.contents l.initial.out) (g.W.Write.contents l.out) l.stream
