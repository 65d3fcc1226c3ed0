-- `leap_rem` meets its contract: a rest that the low words tell is the whole of it, where the high words differ by little.
use Rattle.std.proofs.Common.{◌≡◌, ℕ, ◌+◌, ◌-◌, ◌*◌, ◌/◌, ◌%◌, ◌^◌, ◌<◌, ◌≤◌, sym, ap, ◌∙◌, lt_of_lt_of_le, lt_of_le_of_lt, le_of_lt, mod-lt, mul-le-mul_left}
use Rattle.std.proofs.Common.{div-le_self, arith, pow_pos, pow_mono, shl_lt}
use native.Mathlib.Nat.{mul-add-mod_self_right}
use lib.Ieee.{Float, binary64, to_bits}
use Rattle.remainders.proofs.Modulo.{mod-mul, split-shift, leads, taken-off}
use Rattle.remainders.proofs.modular.Shifted.leap_rem.Goals as goal

-- p and r make up n * 2 ^ 43
whole : (n p m r d : ℕ) → n < 2 ^ 62 → p < 2 ^ 105 → m < 2 ^ 53 → r < 2 * m → d < 2 ^ 13 → (r + p % 2 ^ 64) % 2 ^ 64 ≡ n * 2 ^ 43 % 2 ^ 64
    → (d + p / 2 ^ 43) % 2 ^ 64 ≡ n % 2 ^ 64 → n * 2 ^ 43 ≡ p + r
whole n p m r d nl pl ml rl dl low high =
    exact (n * 2 ^ 43) p (p % 2 ^ 43) (d * 2 ^ 43) r (level n p d (differ n (p / 2 ^ 43) d nl (omega arith) dl high)) (omega arith) (omega arith) (omega arith) low
  where
    differ : (n h d : ℕ) → n < 2 ^ 62 → h < 2 ^ 62 → d < 2 ^ 13 → (d + h) % 2 ^ 64 ≡ n % 2 ^ 64 → d + h ≡ n
    differ n h d nl hl dl e = omega arith

    level : (n p d : ℕ) → d + p / 2 ^ 43 ≡ n → n * 2 ^ 43 + p % 2 ^ 43 ≡ p + d * 2 ^ 43
    level n p d e = omega arith

    exact : (n p t e r : ℕ) → n + t ≡ p + e → t < 2 ^ 43 → e < 2 ^ 56 → r < 2 ^ 56 → (r + p % 2 ^ 64) % 2 ^ 64 ≡ n % 2 ^ 64 → n ≡ p + r
    exact n p t e r h tl el rl low = omega arith

-- a shift by k leaves the low 43 places free
lifted : (a k : ℕ) → 43 ≤ k → a * 2 ^ (k - 43) * 2 ^ 43 ≡ a * 2 ^ k
lifted a k h = sym (split-shift a (k - 43) 43) ∙ ap (λ (n : ℕ). a * 2 ^ n) (back k h)
  where
    back : (k : ℕ) → 43 ≤ k → k - 43 + 43 ≡ k
    back k h = omega arith

-- what the quotient q leaves, by the low words and by the high, of which h is the product's
abbrev low : ℕ → ℕ → ℕ → ℕ → ℕ
low a k m q = (a * 2 ^ k % 2 ^ 64 + (2 ^ 64 - q * m % 2 ^ 64)) % 2 ^ 64

abbrev high : ℕ → ℕ → ℕ → ℕ
high a k h = (a * 2 ^ (k - 43) % 2 ^ 64 + (2 ^ 64 - h)) % 2 ^ 64

-- both tests passed, the quotient and the low word make up the dividend
made_up : (a k m q h : ℕ) → a < 2 ^ 53 → 43 ≤ k → k ≤ 52 → m < 2 ^ 53 → q < 2 ^ 52 → h ≡ q * m / 2 ^ 43 → low a k m q < 2 * m → high a k h < 2 ^ 13
    → a * 2 ^ k ≡ q * m + low a k m q
made_up a k m q h al kl ku ml ql i rl dl =
    let e = lifted a k kl in
    let top : 53 + (k - 43) ≤ 62 = omega arith in
    let pl : q * m < 2 ^ 105 = lt_of_le_of_lt (mul-le-mul_left q (le_of_lt ml)) (shl_lt 52 53 ql) in
    let hl : h < 2 ^ 64 = omega arith in
    sym e
    ∙ whole (a * 2 ^ (k - 43)) (q * m) m (low a k m q) (high a k h) (lt_of_lt_of_le (shl_lt 53 (k - 43) al) (pow_mono top)) pl ml rl dl
    (taken-off (a * 2 ^ k) (q * m % 2 ^ 64) (mod-lt (q * m) (pow_pos 64)) ∙ ap (λ (n : ℕ). n % 2 ^ 64) (sym e))
    (ap (λ (v : ℕ). (high a k h + v) % 2 ^ 64) (sym i) ∙ taken-off (a * 2 ^ (k - 43)) h hl)

-- the quotient by the float d
abbrev quotient : Float → ℕ → ℕ
quotient d k = to_bits binary64 d % 2 ^ 52 / 2 ^ (52 - k)

quotient-lt : (d : Float) (k : ℕ) → quotient d k < 2 ^ 52
quotient-lt d k = let b = to_bits binary64 d in lt_of_le_of_lt (div-le_self (b % 2 ^ 52) (2 ^ (52 - k))) (mod-lt b (pow_pos 52))

pub returns-then-high-lt8192 : goal.returns-then-high-lt8192
returns-then-high-lt8192 c =
    let n = c.args.self.digits in
    let k = c.args.self.shift in
    let m = c.args.by in
    let a = c.less_once-a.result in
    let q = quotient c.float_quotient-d.result k in
    let ql = quotient-lt c.float_quotient-d.result k in
    let al : a < 2 ^ 53 = rw c.less_once-a.ensures (lt_of_lt_of_le (mod-lt n (omega arith)) (le_of_lt m.fits)) in
    c.less_once.ensures
    ∙ sym (ap (λ (x : ℕ). x % m.m)
    (made_up a k m.m q c.high_product.result al c.requires.0 c.requires.1 m.fits ql
    (c.high_product.ensures ∙ leads q m.m (lt_of_lt_of_le ql (pow_mono {i = 52} {j = 54} (omega arith))) m.fits) c.if-low-by.true c.if-high-lt8192.true)
    ∙ mul-add-mod_self_right q m.m (low a k m.m q))
    ∙ ap (λ (x : ℕ). x * 2 ^ k % m.m) c.less_once-a.ensures
    ∙ mod-mul n (2 ^ k) m.m
