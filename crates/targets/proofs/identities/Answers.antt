-- `identities` meets its contract. Below the count each place has the identity of its entry, and else a zero.
use Rattle.std.proofs.Common.{rules, ◌≡◌, ◌≤◌, ◌∙◌, arith, length, map, take, drop, ◌++◌, replicate, ℕ, List}
use lib.ListN.{get_or, length-replicate}
use mathlib.Core.Logic.{inl, inr}
use Rattle.std.proofs.lemmas.Bool.{cases_lt}
use Rattle.std.proofs.lemmas.List.{length-take-le, length-append, length-drop}
use Rattle.plain.specs.Targets.{most_targets}
use Rattle.plain.proofs.Listed.{at-most-le}
use Rattle.targets.specs.Slots.{identities, identity_of}
use Rattle.targets.proofs.Arrays.{absent, length-map}
use Rattle.targets.proofs.Made.{made, mixed-below, blank-past}
use Rattle.targets.proofs.identities.Goals as goal

pub returns : goal.returns
unfolding identities
returns c =
    let es = c.args.targets.entries in
    let n = c.least-n.result in
    let full : length es ≡ most_targets = search rules in
    let small : n ≤ most_targets = rw c.least-n.ensures (at-most-le c.args.targets.count) in
    let inside : n ≤ length es = omega (arith, full, small) in
    let taken : length (take n es) ≡ n = length-take-le n es inside in
    let zeros : List ℕ = replicate most_targets 0 in
    let zs : List ℕ = map identity_of (take n es) ++ drop n zeros in
    let none : length zeros ≡ most_targets = length-replicate {A = ℕ} most_targets 0 in
    let long : length zs ≡ most_targets = rw (length-append, length-drop) (omega (arith, length-map identity_of (take n es), taken, none, small)) in (
      rw (← c.least-n.ensures)
          (made _ zs 0 _ c.from_fn.result long
          (λ i y q k. elim (cases_lt i n) [
            | inl l ↦ (search rules, (let at : y ≡ (get_or es i absent).identity = search rules in at) ∙ mixed-below identity_of es (drop n zeros) n i absent inside l)
            | inr l ↦ (search rules, (let at : y ≡ 0 = search rules in at) ∙ blank-past identity_of es most_targets n i 0 inside l)
          ])
          c.from_fn.ensures.items),
      full,
    )
