-- What is written, and what the rest is answered, are the answers to all.
use Rattle.std.proofs.Common.{ℕ, ◌≡◌, List, ◌++◌, length}
use Rattle.std.specs.Io.KnownBytes.{Appends}
use Rattle.frames.specs.Stream.{fed_state, fed_text, view}
use Rattle.plot.proofs.pour.Given as goal

abbrev pub invariant-loop-rest : goal.invariant-loop-rest
invariant-loop-rest g l = record {
  state : fed_state (view l.s) l.rest ≡ fed_state (view l.initial.s) l.xs;
  text : (t : List ℕ) × Appends (g.W.Write.contents l.initial.out) (g.W.Write.contents l.out) t
      × (t ++ fed_text (view l.s) l.rest ≡ fed_text (view l.initial.s) l.xs);
}

abbrev pub decreases-loop-rest : goal.decreases-loop-rest
decreases-loop-rest g l = length l.rest
