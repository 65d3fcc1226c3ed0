-- `power_rem` meets its contract.
use Rattle.std.proofs.Common.{◌≡◌, ℕ, suc, ◌+◌, ◌-◌, ◌*◌, ◌/◌, ◌%◌, ◌^◌, ◌<◌, ◌≤◌, sym, ap, ◌∙◌, subst, lt_of_lt_of_le, le_of_suc-le-suc, le_of_lt, mod-lt}
use Rattle.std.proofs.Common.{mod-eq_of_lt, one-mul, lt_of_not-le, not-le_of_lt, arith, pow_mono, shl_lt, shl_exact, shr-shr, shr_lt}
use Rattle.remainders.proofs.Modulo.{squared}
use Rattle.patterns.proofs.Leading.{zeros, top}
use Rattle.remainders.proofs.modular.Barrett.power_rem.Goals as goal

-- the six leading bits of k
module _ (k : ℕ) (h : 64 ≤ k) (l : k < 2 ^ 53) where
  leading-place : 6 ≤ (top k (omega arith) l).0
  leading-place = let t = top k (omega arith) l in le_of_suc-le-suc (lt_of_not-le (λ (g : suc t.0 ≤ 6). not-le_of_lt (lt_of_lt_of_le t.3 (pow_mono g)) h))

  zeros-le : zeros k ≤ 58
  zeros-le = let t = (top k (omega arith) l).1 in let p = leading-place in omega arith

  leading_lt : k / 2 ^ (58 - zeros k) < 64
  leading_lt =
      let t = top k (omega arith) l in
      let e : suc t.0 ≤ 6 + (58 - zeros k) = let s = t.1 in omega arith in
      shr_lt 6 (58 - zeros k) (lt_of_lt_of_le t.3 (pow_mono e))

-- the power with one bit more of the exponent stays below 2 ^ 54
shifted-lt : (p e : ℕ) → p < 2 ^ 53 → p * 2 ^ (e % 2) < 2 ^ 54
shifted-lt p e h = lt_of_lt_of_le (shl_lt 53 (e % 2) h) (pow_mono (room e))
  where
    room : (e : ℕ) → 53 + e % 2 ≤ 54
    room e = omega arith

-- halving the bits that were taken with one more gives them
halved : (k j : ℕ) → 0 < j → k / 2 ^ (j - 1) / 2 ≡ k / 2 ^ j
halved k j h = shr-shr k (j - 1) 1 ∙ ap (λ (n : ℕ). k / 2 ^ n) (back j h)
  where
    back : (j : ℕ) → 0 < j → j - 1 + 1 ≡ j
    back j h = omega arith

pub overflow_sub-left : goal.overflow_sub-left
overflow_sub-left c = zeros-le c.args.k c.requires.0 c.requires.1

pub overflow_shl-power : goal.overflow_shl-power
overflow_shl-power c = leading_lt c.args.k c.requires.0 c.requires.1

pub loop-i-init : goal.loop-i-init
loop-i-init c =
    let e = c.args.k / 2 ^ (58 - zeros c.args.k) in
    let l : e < 64 = leading_lt c.args.k c.requires.0 c.requires.1 in
    ap (λ (n : ℕ). n % c.args.self.by.m) (shl_exact {a = 1} 1 e 64 (omega arith) (omega arith) ∙ one-mul (2 ^ e))

power-lt : (c : goal.In-loop-i) → c.loop-i.power < 2 ^ 53
power-lt c = let m = c.args.self.by in lt_of_lt_of_le (subst (λ (n : ℕ). n < m.m) (sym c.loop-i.invariant) (mod-lt _ (omega arith))) (le_of_lt m.fits)

-- the bits of k that are taken after this step
abbrev taken : goal.In-loop-i → ℕ
taken c = c.args.k / 2 ^ (c.loop-i.i - 1)

exact : (c : goal.In-loop-i) → c.loop-i.power * 2 ^ (taken c % 2) % 2 ^ 64 ≡ c.loop-i.power * 2 ^ (taken c % 2)
exact c = mod-eq_of_lt (lt_of_lt_of_le (shifted-lt c.loop-i.power (taken c) (power-lt c)) (omega arith))

pub product_rem-power-requires : goal.product_rem-power-requires
product_rem-power-requires c = (subst (λ (n : ℕ). n < 2 ^ 54) (sym (exact c)) (shifted-lt c.loop-i.power (taken c) (power-lt c)), power-lt c)

pub loop-i-preserved : goal.loop-i-preserved
loop-i-preserved c =
    let l = c.loop-i in
    let m = c.args.self.by.m in
    let e = taken c.before in
    let p : l.power ≡ 2 ^ (e / 2) % m = l.invariant ∙ ap (λ (n : ℕ). 2 ^ n % m) (sym (halved c.args.k l.i c.loop-i-test.true)) in
    c.product_rem-power.ensures ∙ ap (λ (n : ℕ). n * l.power % m) (exact c.before) ∙ ap (λ (n : ℕ). n * 2 ^ (e % 2) * n % m) p ∙ squared e m
