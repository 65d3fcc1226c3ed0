-- `soonest` meets its contract. The one that meets first is the better of each and what came before.
use Rattle.std.proofs.Common.{rules, ◌∙◌}
use Rattle.std.proofs.lemmas.Iterator.{YieldsList-from_slice}
use Rattle.std.proofs.lemmas.Iterator.Consumers.{YieldsList-at, YieldsList-from_filter_map, reduce_from_yields_List}
use Rattle.targets.specs.Asking.{met, sooner_of}
use Rattle.targets.proofs.Picks.{first-best, steps-of, by-turns}
use Rattle.targets.proofs.asking.soonest.Goals as goal

pub returns : goal.returns
returns c =
    let slice = YieldsList-from_slice {s = c.iter.result} c.args.targets.now (search rules) in
    let found = by-turns _ sooner_of _ (λ a x r q w. search rules) (steps-of c.filter_map.ensures.runs) c.filter_map.result c.reduce.result c.reduce.ensures.ran in
    reduce_from_yields_List sooner_of c.filter_map.result c.reduce.result found
    (YieldsList-from_filter_map _ met (YieldsList-at c.filter_map.ensures.source slice) c.filter_map.ensures.closure (λ x r q k. search rules))
    ∙ first-best c.args.targets.now
