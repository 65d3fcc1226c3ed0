-- `of_coordinates` meets its contract.
use native.Mathlib.Omega.{arith}
use Rattle.probe_ways.proofs.Taken.{float-next}
use Rattle.probe_ways.proofs.mean.of_coordinates.Goals as goal

pub loop-x-preserved : goal.loop-x-preserved
loop-x-preserved c =
    let inv = c.loop-x.invariant in
    float-next c.loop-x.x-index c.args.args.now c.loop-x.args c.float.new.self c.loop-x.x-items c.float.result
    (omega (arith, c.loop-x.auto.x-items, c.loop-x-test.true)) inv.0 inv.1 c.float.ensures.value c.float.ensures.place
