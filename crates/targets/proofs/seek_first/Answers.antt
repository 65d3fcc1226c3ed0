-- `seek_first` meets its contract: what is searched is what the contract names.
use Rattle.std.proofs.Common.{◌≡◌, ◌∙◌, sym, ap, take, map, ℕ, List, min, length}
use Rattle.std.proofs.lemmas.List.{take_min, take-map}
use Rattle.plain.specs.Targets.{at_most}
use Rattle.targets.specs.Slots.{spot_in}
use Rattle.targets.proofs.seek_first.Goals as goal

searched : {T : Type 0} (name : T → ℕ) (x m n count : ℕ) (among : List T) → m ≡ at_most count → n ≡ min m (length among)
    → spot_in 0 x (map name (take n among)) ≡ spot_in 0 x (take (at_most count) (map name among))
searched {T} name x m n count among e f =
    let first : ℕ → List T = λ j. take j among in
    ap (λ (l : List T). spot_in 0 x (map name l)) (ap first f ∙ take_min m among ∙ ap first e) ∙ ap (spot_in 0 x) (sym (take-map name (at_most count) among))

pub returns-clause-value : goal.returns-clause-value
returns-clause-value g c =
    let a = c.args in
    c.seek.ensures.value ∙ searched g.T.Named.name a.identity _ _ a.count a.among.now c.least.ensures c.min-n.ensures
