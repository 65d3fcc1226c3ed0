-- `of_positions` meets its contract.
use native.Mathlib.Omega.{arith}
use Rattle.std.proofs.Common.{ap, ◌∙◌}
use Rattle.probe_fields.specs.Args.{pass_rest}
use Rattle.probe_ways.proofs.Taken.{position-next, rest-past}
use Rattle.probe_ways.proofs.mean.of_positions.Goals as goal

pub loop-p-preserved : goal.loop-p-preserved
loop-p-preserved c =
    let inv = c.loop-p.invariant in
    position-next c.loop-p.p-index c.args.args.now c.loop-p.args c.nvector.new.self c.loop-p.p-items c.nvector.result
    (omega (arith, c.loop-p.auto.p-items, c.loop-p-test.true)) inv.0 inv.1 c.nvector.ensures.value c.nvector.ensures.place

pub returns-clause-place : goal.returns-clause-place
returns-clause-place c =
    let inv = c.loop-p.invariant in
    c.pass_rest.ensures ∙ ap pass_rest inv.0 ∙ rest-past c.loop-p.p-index c.args.args.now
