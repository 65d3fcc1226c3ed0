-- `near_rem` meets its contract.
use Rattle.std.proofs.Common.{ℕ, ◌*◌, ◌%◌, ap, ◌∙◌, lt_of_lt_of_le, le_of_lt, mod-lt, arith, shl_exact}
use Rattle.remainders.proofs.Modulo.{shifted}
use Rattle.remainders.proofs.modular.Shifted.near_rem.Goals as goal

pub loop-left-preserved : goal.loop-left-preserved
loop-left-preserved c =
    let l = c.loop-left in
    (lt_of_lt_of_le (mod-lt (l.rest * 2048) c.requires.0) (le_of_lt c.requires.1), shifted l.rest 11 l.left c.args.m (le_of_lt c.loop-left-test.true) ∙ l.invariant.1)

pub returns : goal.returns
returns c =
    let l = c.loop-left in
    ap (λ (n : ℕ). n % c.args.m) (shl_exact 53 l.left 64 l.invariant.0 (omega arith)) ∙ l.invariant.1
