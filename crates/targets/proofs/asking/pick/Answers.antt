-- `pick` meets its contract. The least of the meeting times is a pick.
use Rattle.std.specs.Prelude.{fold, None}
use Rattle.std.proofs.Common.{rules}
use mathlib.Core.Path.{ap, ◌∙◌}
use Rattle.plain.specs.Code.{plain}
use Rattle.plain.specs.Targets.{listed}
use Rattle.targets.specs.Asking.{better}
use Rattle.targets.proofs.Picks.{picked}
use Rattle.targets.proofs.Slots.{listed-is}
use Rattle.targets.proofs.asking.pick.Goals as goal

pub returns : goal.returns
unfolding plain
returns c =
    let ts = c.args.board.targets in
    c.ok_or.ensures.value
    ∙ picked (listed ts) c.soonest-best.result c.map.result (c.soonest-best.ensures ∙ ap (fold better None) (listed-is ts _ c.least.ensures)) (search rules)
