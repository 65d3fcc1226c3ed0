-- `inverse` meets its contract: after i steps the quotient and the rest are those of 2 ^ (52 + 11 * i).
use Rattle.std.proofs.Common.{◌≡◌, ℕ, ◌+◌, ◌*◌, ◌/◌, ◌%◌, ◌^◌, ◌<◌}
use Rattle.remainders.proofs.modular.Modulus.inverse.Given as goal

-- the dividend after i steps
abbrev pub dividend : ℕ → ℕ
dividend i = 2 ^ (52 + 11 * i)

abbrev pub invariant-loop-i : goal.invariant-loop-i
invariant-loop-i l = (l.rest < l.self.m) × (l.quotient ≡ dividend l._i / l.self.m) × (l.rest ≡ dividend l._i % l.self.m)
