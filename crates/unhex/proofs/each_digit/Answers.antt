-- `each_digit` meets its contract: a fold by `and` says whether all are digits.
use Rattle.std.proofs.Common.{◌≡◌, ◌&&◌, Bool, true, false, refl, ◌∙◌, ℕ, List, [], ◌∷◌, rules}
use Rattle.std.specs.Prelude.{fold}
use Rattle.std.specs.List.{list_all}
use Rattle.std.proofs.lemmas.Iterator.{YieldsList-from_slice}
use Rattle.std.proofs.lemmas.Iterator.Consumers.{fold_from_yields_List}
use Rattle.unhex.specs.Digits.{is_digit, all_digits}
use Rattle.unhex.proofs.each_digit.Goals as goal

fold-and : (ok : Bool) (s : List ℕ) → fold (λ ok b. ok && is_digit b) ok s ≡ (ok && list_all is_digit s)
fold-and true [] = refl
fold-and false [] = refl
fold-and true (b ∷ s) = fold-and (is_digit b) s
fold-and false (b ∷ s) = fold-and false s

pub returns : goal.returns
unfolding all_digits
returns c =
    fold_from_yields_List _ (λ ok b. ok && is_digit b) _ _ c.fold.ensures.ran
    (YieldsList-from_slice c.args.s.now c.iter.ensures.rest)
    (λ a x b q k. search rules)
    ∙ fold-and true c.args.s.now
