-- `half_away` meets its contract.
use mathlib.Core.Path.{sym, ap, ◌∙◌}
use Prim.Native.Nat.{ℕ, ◌+◌, ◌-◌, ◌/◌}
use native.Mathlib.Omega.{arith}
use lib.Pow.{shl_exact}
use Rattle.duration.proofs.Places.{one_shifted, from-units, below-units, under-half}
use Rattle.duration.proofs.half_away.Goals as goal

pub returns-then-p-ge-UNITS : goal.returns-then-p-ge-UNITS
returns-then-p-ge-UNITS c = shl_exact 53 (c.args.p.place - 1074) 64 c.args.p.digits_fit (omega arith) ∙ sym (from-units c.args.p.digits c.args.p.place c.if-p-ge-UNITS.true)

pub returns-then-p : goal.returns-then-p
returns-then-p c = sym (under-half c.args.p.digits c.args.p.place c.args.p.digits_fit c.if-p.true)

pub returns : goal.returns
returns c =
    ap (λ (n : ℕ). (c.args.p.digits / n + 1) / 2) (one_shifted (1073 - c.args.p.place) (omega arith))
    ∙ sym (below-units c.args.p.digits c.args.p.place c.if-p-ge-UNITS.false)
