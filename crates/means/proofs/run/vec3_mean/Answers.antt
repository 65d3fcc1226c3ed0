-- `vec3_mean` meets its contract.
use Rattle.std.proofs.Common.{rules, arith, refl, ap, ◌∙◌}
use Rattle.std.proofs.lemmas.Iterator.{YieldsList-from_range}
use Rattle.std.proofs.lemmas.Iterator.Consumers.{fold_from_yields_List}
use Rattle.means.specs.Mean.{nowhere, plus, along}
use lib.ListN.{length, get_or}
use Rattle.means.proofs.Entries.{fold-by_index}
use Rattle.means.proofs.run.vec3_mean.Goals as goal

pub returns : goal.returns
returns g c =
    let xs = g.R.Run.listed c.args.ps in
    c.new_unit.ensures
    ∙ ap along
    (fold_from_yields_List _ (λ s i. plus s (get_or xs i nowhere)) _ _ c.fold-s.ensures.ran
    (YieldsList-from_range _ _ (length xs) refl (omega (arith, c.len.ensures)))
    (λ a x b q k. search rules)
    ∙ fold-by_index xs nowhere plus _)
