-- `leading_rem` meets its contract: a remainder shifted on leaves what the whole shift leaves.
use Rattle.std.proofs.Common.{ℕ, ◌-◌, ◌*◌, ◌%◌, ◌^◌, ◌<◌, ap, ◌∙◌, lt_of_lt_of_le, le_of_lt, mod-lt, arith, shl_exact}
use Rattle.remainders.proofs.Modulo.{shifted}
use Rattle.remainders.proofs.modular.Shifted.leading_rem.Goals as goal

pub returns-in-53-to-63 : goal.returns-in-53-to-63
returns-in-53-to-63 c =
    let n = c.args.self.digits in
    let k = c.args.self.shift in
    let m = c.args.by in
    let l : n * 2 ^ 52 % m.m < 2 ^ 53 = lt_of_lt_of_le (mod-lt (n * 2 ^ 52) (omega arith)) (le_of_lt m.fits) in
    ap (λ (r : ℕ). r * 2 ^ (k - 52) % 2 ^ 64 % m.m) c.leap_rem-in-53-to-63.ensures
    ∙ ap (λ (r : ℕ). r % m.m) (shl_exact 53 (k - 52) 64 l (omega arith)) ∙ shifted n 52 k m.m (omega arith)
