-- The lesser of two by their times, the first where both are equal.
use Rattle.std.proofs.Common.{rules, ◌≡◌, refl, ◌∙◌, ap, cond, eqb, ltb, Bool, true, false, Less, Equal, Greater}
use Rattle.std.specs.Ordering.{is_lt}
use Rattle.std.proofs.lemmas.Fn.{always_returns_same}
use Rattle.targets.specs.declared.asking.Best.{Best}
use Rattle.targets.proofs.asking.fn.soonest.reduce.Goals as goal

-- an order of numbers by two tests is `Less` where the first holds
is-first : (p q : Bool) → is_lt (cond p Less (cond q Equal Greater)) ≡ p
is-first true q = refl
is-first false true = refl
is-first false false = refl

pub returns : goal.returns
returns c =
    let a = c.args.a in
    let b = c.args.b in
    c.min_by_key.ensures (λ (x : Best). x.time) (always_returns_same _ _ _ (λ x r f' k. search rules))
    ∙ ap (λ (t : Bool). cond t b a) (is-first (ltb b.time a.time) (eqb b.time a.time))
