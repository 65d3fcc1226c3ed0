-- `contains` meets its contract.
use Rattle.std.proofs.Common.{rules, arith, refl, ◌∙◌}
use Rattle.std.proofs.lemmas.Iterator.{YieldsList-from_range}
use Rattle.std.proofs.lemmas.Iterator.Search.{any_from_yields_List}
use Rattle.jord.specs.Positions.{eq}
use Rattle.means.specs.Mean.{nowhere}
use lib.ListN.{length, get_or}
use Rattle.means.proofs.Entries.{any-by_index}
use Rattle.means.proofs.run.contains.Goals as goal

pub returns : goal.returns
returns g c =
    let xs = g.R.Run.listed c.args.ps in
    any_from_yields_List (λ i. eq (get_or xs i nowhere) c.args.a) _ _ _ c.any.ensures.ran
    (YieldsList-from_range _ _ (length xs) refl (omega (arith, c.len.ensures)))
    (λ x b q k. search rules)
    ∙ any-by_index xs nowhere (λ p. eq p c.args.a)
