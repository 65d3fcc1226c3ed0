use Rattle.std.proofs.Common.{◌≡◌, take}
use Rattle.probe_ways.specs.Mean as spec
use Rattle.probe_ways.proofs.mean.of_coordinates.Given as goal

abbrev pub invariant-loop-x : goal.invariant-loop-x
invariant-loop-x l = (l.args ≡ spec.past_floats l.x-index l.fn.args) × (take l.x-index l.x-items ≡ spec.floats l.x-index l.fn.args)
