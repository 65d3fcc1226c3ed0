use Rattle.std.proofs.Common.{◌≡◌, take}
use Rattle.probe_ways.specs.Mean as spec
use Rattle.probe_ways.proofs.mean.of_positions.Given as goal

abbrev pub invariant-loop-p : goal.invariant-loop-p
invariant-loop-p l = (l.args ≡ spec.past_positions l.p-index l.fn.args) × (take l.p-index l.p-items ≡ spec.positions l.p-index l.fn.args)
