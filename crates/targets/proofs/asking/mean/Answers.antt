-- `mean` meets its contract. The targets that stand are the first of the array, and so are their positions.
use Rattle.std.proofs.Common.{rules, ◌≡◌, List, map, length, ap, ◌∙◌, take}
use Rattle.std.proofs.lemmas.List.{take-map}
use Rattle.jord.specs.declared.positions.NVector.{NVector}
use Rattle.means.specs.Mean.{mean_of}
use Rattle.plain.specs.Code.{plain}
use Rattle.plain.specs.Asking.{position_of, mean}
use Rattle.plain.specs.Targets.{most_targets}
use Rattle.plain.specs.declared.targets.Target.{Target}
use Rattle.targets.proofs.Arrays.{absent}
use Rattle.targets.proofs.Made.{made-map}
use Rattle.targets.proofs.Slots.{listed-is}
use Rattle.targets.proofs.asking.mean.Goals as goal

pub returns : goal.returns
unfolding mean plain
returns c =
    let ts = c.args.board.targets in
    let full : length ts.entries ≡ most_targets = search rules in
    let all : c.from_fn-ps.result ≡ map position_of ts.entries =
    made-map _ position_of ts.entries absent _ c.from_fn-ps.result full (λ i y q k. search rules) c.from_fn-ps.ensures.items in
    c.mean_position_of.ensures.mean
    ∙ ap (λ (l : List NVector). mean_of (take c.least.result l)) all
    ∙ ap mean_of (take-map position_of c.least.result ts.entries)
    ∙ ap (λ (l : List Target). mean_of (map position_of l)) (listed-is ts c.least.result c.least.ensures)
