-- `number_by` meets its contract.
use Rattle.std.proofs.Common.{ℕ, ◌≡◌, arith, rules, sym, ap, ◌∙◌, get_or, zero-add, add-one, pow-suc}
use Rattle.std.proofs.lemmas.Option.{gets}
use Rattle.unhex.proofs.Read.{room, next}
use Rattle.unhex.proofs.number_by.Goals as goal

pub loop-i-init : goal.loop-i-init
loop-i-init g c = record { small = omega arith; number = λ f m r h. sym (r.none c.args.s.now 0) }

pub overflow_mul-v : goal.overflow_mul-v
overflow_mul-v g c =
    let l = c.loop-i in
    omega (arith, room l.i l.v (omega arith) l.invariant.small)

pub overflow_add-v : goal.overflow_add-v
overflow_add-v g c =
    let l = c.loop-i in
    omega (arith, room l.i l.v (omega arith) l.invariant.small, c.requires.small _ _ c.digit.ensures)

pub loop-i-preserved : goal.loop-i-preserved
loop-i-preserved g c =
    let l = c.loop-i in
    let b : c.unwrap_or.result ≡ get_or c.args.s.now l.i 0 = search (rules, gets) in
    record {
      small = grind (arith, add-one l.i, pow-suc 16 l.i, l.invariant.small, c.requires.small _ _ c.digit.ensures);
      number = λ f m r h. next r c.args.s.now 0 l.i (l.invariant.number f m r h) (b ∙ ap (λ (k : ℕ). get_or c.args.s.now k 0) (sym (zero-add l.i))) (h _ _ c.digit.ensures);
    }
