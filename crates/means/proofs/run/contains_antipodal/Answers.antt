-- `contains_antipodal` meets its contract.
use Rattle.std.proofs.Common.{rules, arith, refl, ◌∙◌}
use Rattle.std.proofs.lemmas.Iterator.{YieldsList-from_range}
use Rattle.std.proofs.lemmas.Iterator.Search.{any_from_yields_List}
use Rattle.jord.specs.Positions.{antipode}
use Rattle.means.specs.Mean.{nowhere, contains}
use lib.ListN.{length, get_or}
use Rattle.means.proofs.Entries.{any-by_index}
use Rattle.means.proofs.run.contains_antipodal.Goals as goal

pub returns : goal.returns
returns g c =
    let xs = g.R.Run.listed c.args.ps in
    any_from_yields_List (λ i. contains (antipode (get_or xs i nowhere)) xs) _ _ _ c.any.ensures.ran
    (YieldsList-from_range _ _ (length xs) refl (omega (arith, c.len.ensures)))
    (λ x b q k. search rules)
    ∙ any-by_index xs nowhere (λ p. contains (antipode p) xs)
