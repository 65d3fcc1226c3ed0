-- Remainders of products, the running remainder of a shifted number, long division, and Barrett's estimate of a quotient. Assumes nothing.
use Rattle.std.proofs.Common.{◌≡◌, ℕ, suc, ◌+◌, ◌-◌, ◌*◌, ◌/◌, ◌%◌, ◌^◌, ◌<◌, ◌≤◌, sym, ap, ◌∙◌, ap₂, mul-le-mul_right, mod-lt, mod-eq_of_lt, mul_assoc}
use Rattle.std.proofs.Common.{mul_comm, add-mul, add_comm, lt_of_mul-lt-mul_right, mul-le-mul_left, mul-lt-mul_of_pos_right, mul-pos, div-add-mod'}
use Rattle.std.proofs.Common.{mul_right_comm, div-mul-le_self, le_of_mul-le-mul_right, arith, pow_pos, pow-add, shl_exact}
use native.Mathlib.Nat.{lt-div-mul-add, mul-add-div_right}
use native.Mathlib.Nat.{mul-mod_left, add-mul-mod_self_right}
use native.Mathlib.Nat.{mul-mul-mul_comm, mul-div-mul_right, mod-eq-sub-mod}
use lib.Arith.{digits_mod}
use lib.Pow.{shl-shr}

-- one subtraction is enough
pub once : (x m : ℕ) → m ≤ x → x < 2 * m → x - m ≡ x % m
once x m h l = sym (mod-eq-sub-mod h ∙ mod-eq_of_lt (omega arith))

-- either factor may be reduced first
pub mod-mul : (a b m : ℕ) → a % m * b % m ≡ a * b % m
mod-mul a b m =
    sym (add-mul-mod_self_right (a % m * b) (a / m * b) m)
    ∙ ap (λ (n : ℕ). n % m) (ap (λ (n : ℕ). a % m * b + n) (mul_right_comm (a / m) b m) ∙ add_comm (a % m * b) (a / m * m * b)
    ∙ sym (add-mul (a / m * m) (a % m) b) ∙ ap (λ (n : ℕ). n * b) (div-add-mod' a m))

pub mul-mod : (a b m : ℕ) → a * (b % m) % m ≡ a * b % m
mul-mod a b m = ap (λ (n : ℕ). n % m) (mul_comm a (b % m)) ∙ mod-mul b a m ∙ ap (λ (n : ℕ). n % m) (mul_comm b a)

-- a common factor stays
pub mul-mod-mul : (a b c : ℕ) → 0 < b → 0 < c → a * c % (b * c) ≡ a % b * c
mul-mod-mul a b c B C =
    ap (λ (n : ℕ). n * c % (b * c)) (sym (div-add-mod' a b))
    ∙ ap (λ (n : ℕ). n % (b * c)) (add-mul (a / b * b) (a % b) c ∙ ap (λ (n : ℕ). n + a % b * c) (mul_assoc (a / b) b c))
    ∙ digits_mod (a / b) (mul-lt-mul_of_pos_right (mod-lt a B) C)

-- a shift in two parts
pub split-shift : (a j k : ℕ) → a * 2 ^ (j + k) ≡ a * 2 ^ j * 2 ^ k
split-shift a j k = ap (λ (n : ℕ). a * n) (pow-add 2 j k) ∙ sym (mul_assoc a (2 ^ j) (2 ^ k))

-- j bits of the shift are worked off
pub shifted : (r j k m : ℕ) → j ≤ k → r * 2 ^ j % m * 2 ^ (k - j) % m ≡ r * 2 ^ k % m
shifted r j k m h =
    mod-mul (r * 2 ^ j) (2 ^ (k - j)) m
    ∙ ap (λ (n : ℕ). n % m) (sym (split-shift r j (k - j)) ∙ ap (λ (n : ℕ). r * 2 ^ n) (back j k h))
  where
    back : (j k : ℕ) → j ≤ k → j + (k - j) ≡ k
    back j k h = omega arith

-- a number shifted so far has no digits below
pub shifted-out : (a j k : ℕ) → j ≤ k → a * 2 ^ k % 2 ^ j ≡ 0
shifted-out a j k h = ap (λ (n : ℕ). a * 2 ^ n % 2 ^ j) (back j k h) ∙ ap (λ (n : ℕ). n % 2 ^ j) (split-shift a (k - j) j) ∙ mul-mod_left (a * 2 ^ (k - j)) (2 ^ j)
  where
    back : (j k : ℕ) → j ≤ k → k ≡ k - j + j
    back j k h = omega arith

-- a shift of both may be undone afterwards
pub shifted-both : (a k j m : ℕ) → 0 < m → a * 2 ^ (k + j) % (m * 2 ^ j) / 2 ^ j ≡ a * 2 ^ k % m
shifted-both a k j m p =
    ap (λ (n : ℕ). n % (m * 2 ^ j) / 2 ^ j) (split-shift a k j) ∙ ap (λ (n : ℕ). n / 2 ^ j) (mul-mod-mul (a * 2 ^ k) m (2 ^ j) p (pow_pos j)) ∙ shl-shr (a * 2 ^ k % m) j

-- a power of two from that of half the exponent
pub squared : (e m : ℕ) → 2 ^ (e / 2) % m * 2 ^ (e % 2) * (2 ^ (e / 2) % m) % m ≡ 2 ^ e % m
squared e m =
    let p = 2 ^ (e / 2) in
    let c = 2 ^ (e % 2) in
    ap (λ (n : ℕ). n % m) (mul_right_comm (p % m) c (p % m))
    ∙ sym (mod-mul (p % m * (p % m)) c m)
    ∙ ap (λ (n : ℕ). n * c % m) (mod-mul p (p % m) m ∙ mul-mod p p m)
    ∙ mod-mul (p * p) c m
    ∙ ap (λ (n : ℕ). n % m) (ap (λ (n : ℕ). n * c) (sym (pow-add 2 (e / 2) (e / 2))) ∙ sym (pow-add 2 (e / 2 + e / 2) (e % 2)) ∙ ap (λ (n : ℕ). 2 ^ n) (whole e))
  where
    whole : (e : ℕ) → e / 2 + e / 2 + e % 2 ≡ e
    whole e = omega arith

-- the next digits of a quotient are those of the rest
pub long-division : (a b m : ℕ) → 0 < m → a * b / m ≡ a / m * b + a % m * b / m
long-division a b m p =
    ap (λ (n : ℕ). n * b / m) (sym (div-add-mod' a m))
    ∙ ap (λ (n : ℕ). n / m) (add-mul (a / m * m) (a % m) b ∙ ap (λ (n : ℕ). n + a % m * b) (mul_right_comm (a / m) m b))
    ∙ mul-add-div_right p (a / m * b) (a % m * b)

-- both factors shifted up, the high word of their product holds its leading digits
pub leads : (a b : ℕ) → a < 2 ^ 54 → b < 2 ^ 53 → a * 2 ^ 10 % 2 ^ 64 * (b * 2 ^ 11 % 2 ^ 64) / 2 ^ 64 ≡ a * b / 2 ^ 43
leads a b h l =
    ap₂ (λ (x y : ℕ). x * y / 2 ^ 64) (shl_exact 54 10 64 h (omega arith)) (shl_exact 53 11 64 l (omega arith))
    ∙ ap (λ (n : ℕ). n / 2 ^ 64) (mul-mul-mul_comm a (2 ^ 10) b (2 ^ 11))
    ∙ mul-div-mul_right (a * b) (2 ^ 43) (pow_pos 21)

-- Barrett's estimate of p / m: the leading digits of p, times the inverse of m, without the last digits again.
module _ (p m D W : ℕ) where
  abbrev pub leading : ℕ
  leading = p / D

  abbrev pub inverse : ℕ
  inverse = D * W / m

  abbrev pub estimate : ℕ
  estimate = leading * inverse / W

  module _ (mp : 0 < m) (Dp : 0 < D) (Wp : 0 < W) where
    -- the estimate is not above p / m
    pub barrett-low : estimate * m ≤ p
    barrett-low =
        let x = mul-le-mul_right (m * D) (div-mul-le_self (leading * inverse) W) in
        let y = mul-le-mul_left (leading * D) (div-mul-le_self (D * W) m) in
        let z = mul-le-mul_right (D * W) (div-mul-le_self p D) in
        le_of_mul-le-mul_right (chain leading inverse estimate p m D W x y z) (mul-pos Dp Wp)
      where
        chain : (h i q p m D W : ℕ) → q * W * (m * D) ≤ h * i * (m * D) → h * D * (i * m) ≤ h * D * (D * W) → h * D * (D * W) ≤ p * (D * W) → q * m * (D * W) ≤ p * (D * W)
        chain h i q p m D W x y z = omega arith

    -- the estimate is at most two below p / m, where the leading digits and the inverse are words
    pub barrett-high : leading ≤ W → inverse ≤ W → p < (estimate + 3) * m
    barrett-high h i =
        let u = mul-le-mul_right W (lt-div-mul-add {a = p} Dp) in
        let v = mul-le-mul_left (leading + 1) (lt-div-mul-add {a = D * W} mp) in
        let w = mul-le-mul_right m (lt-div-mul-add {a = leading * inverse} Wp) in
        lt_of_mul-lt-mul_right W (chain leading inverse estimate p m D W Wp u v w (mul-le-mul_right m h) (mul-le-mul_right m i))
      where
        chain : (h i q p m D W : ℕ) → 0 < W → suc p * W ≤ (h * D + D) * W → (h + 1) * suc (D * W) ≤ (h + 1) * (i * m + m)
            → suc (h * i) * m ≤ (q * W + W) * m → h * m ≤ W * m → i * m ≤ W * m → p * W < (q + 3) * m * W
        chain h i q p m D W Wp u v w x y = omega arith

-- ---- a wrapping difference and what was taken off it
pub taken-off : (x y : ℕ) → y < 2 ^ 64 → ((x % 2 ^ 64 + (2 ^ 64 - y)) % 2 ^ 64 + y) % 2 ^ 64 ≡ x % 2 ^ 64
taken-off x y h = omega arith
