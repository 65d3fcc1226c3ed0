-- `far_rem` meets its contract.
use Rattle.std.proofs.Common.{ℕ, ◌*◌, ◌%◌, ◌^◌, sym, ap, ◌∙◌, arith}
use Rattle.remainders.proofs.Modulo.{mul-mod, shifted-out}
use Rattle.remainders.proofs.modular.Shifted.far_rem.Goals as goal

pub returns-then-by-eq-FIELD : goal.returns-then-by-eq-FIELD
returns-then-by-eq-FIELD c =
    sym (ap (λ (n : ℕ). c.args.self.digits * 2 ^ c.args.self.shift % n) c.if-by-eq-FIELD.true ∙ shifted-out c.args.self.digits 52 c.args.self.shift (omega arith))

pub returns : goal.returns
returns c =
    let m = c.args.by.m in
    c.product_rem.ensures ∙ ap (λ (n : ℕ). c.args.self.digits * n % m) c.power_rem.ensures ∙ mul-mod c.args.self.digits (2 ^ c.args.self.shift) m
