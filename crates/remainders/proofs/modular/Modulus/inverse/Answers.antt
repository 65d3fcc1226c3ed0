-- `inverse` meets its contract.
use Rattle.std.proofs.Common.{◌≡◌, ℕ, ◌+◌, ◌*◌, ◌/◌, ◌%◌, ◌^◌, ◌<◌, ◌≤◌, sym, ap, ◌∙◌, ap₂, le_trans, le_of_eq, mod-lt, div-lt_iff_lt-mul, arith, pow_mono, pow-add}
use native.Mathlib.Nat.{div-le_of_le-mul}
use Rattle.remainders.proofs.Modulo.{mod-mul, long-division}
use Rattle.remainders.proofs.modular.Modulus.inverse.Invariants.{dividend}
use Rattle.remainders.proofs.modular.Modulus.inverse.Goals as goal

next : (i : ℕ) → dividend i * 2048 ≡ dividend (i + 1)
next i = sym (pow-add 2 (52 + 11 * i) 11) ∙ ap (λ (n : ℕ). 2 ^ n) (step i)
  where
    step : (i : ℕ) → 52 + 11 * i + 11 ≡ 52 + 11 * (i + 1)
    step i = omega arith

small : (i m : ℕ) → i < 5 → 2 ^ 52 ≤ m → dividend i / m ≤ 2 ^ 44
small i m h l = div-le_of_le-mul m (le_trans (pow_mono {i = 52 + 11 * i} {j = 96} (omega arith)) (omega arith))

quotient_le : (c : goal.In-loop-i) → c.loop-i.quotient ≤ 2 ^ 44
quotient_le c = le_trans (le_of_eq c.loop-i.invariant.1) (small c.loop-i._i c.args.self.m c.loop-i-test.true c.args.self.leads)

pub overflow_mul-quotient : goal.overflow_mul-quotient
overflow_mul-quotient c = let q = quotient_le c in omega arith

pub overflow_add-quotient : goal.overflow_add-quotient
overflow_add-quotient c =
    let q = quotient_le c.before in
    let m = c.args.self.m in
    let d : c.loop-i.rest * 2048 / m < 2048 = (div-lt_iff_lt-mul {k = m} (omega arith)).1 (omega arith) in
    omega arith

pub loop-i-preserved : goal.loop-i-preserved
loop-i-preserved c =
    let l = c.loop-i in
    let m = c.args.self.m in
    let p : 0 < m = omega arith in (
      mod-lt (l.rest * 2048) p,
      ap₂ (λ (q r : ℕ). q * 2048 + r * 2048 / m) l.invariant.1 l.invariant.2 ∙ sym (long-division (dividend l._i) 2048 m p) ∙ ap (λ (n : ℕ). n / m) (next l._i),
      ap (λ (r : ℕ). r * 2048 % m) l.invariant.2 ∙ mod-mul (dividend l._i) 2048 m ∙ ap (λ (n : ℕ). n % m) (next l._i),
    )
