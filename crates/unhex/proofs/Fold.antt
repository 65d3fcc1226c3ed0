-- The laws of digits folded within a word: bytes read by their low bits all at once, and neighbouring fields joined.
use Prim.Native.Nat.{ℕ, zero, suc, ◌+◌, ◌-◌, ◌*◌, ◌/◌, ◌%◌, ◌^◌, ◌≤◌, ◌<◌}
use mathlib.Core.List.{List}
use mathlib.Core.Path.{◌≡◌, refl, sym, ap, ap₂, ◌∙◌}
use native.Mathlib.Nat.{zero-add, mod-lt, lt_of_lt_of_le, mul-le-mul_left, mul-le-mul_right, pow-suc}
use native.Mathlib.Omega.{arith}
use lib.Bits.{bit_and, and_block, and_mask}
use lib.ListN.{get_or}
use lib.Pow.{pow_pos, pow_mono, pow-add, split, high, low, shr-shr, field, mod-mod-pow, ones_lt}
use Rattle.std.specs.Int.{from_le_bytes, sum_through, byte_worth}
use Rattle.std.proofs.Common.{w64}
use Rattle.unhex.proofs.Read.{lows-reads}
use Rattle.unhex.specs.Digits.{low_of, lows_at, lows_of}

-- a mask that keeps the k low bits of each of m fields of j + k bits
unfoldable pub mask : ℕ → ℕ → ℕ → ℕ
mask j k zero = 0
mask j k (suc m) = mask j k m * 2 ^ (j + k) + (2 ^ k - 1)

-- the lowest field by itself, and the rest of the mask on the rest of y
low_field : (j k y e : ℕ) → bit_and y (e * 2 ^ (j + k) + (2 ^ k - 1)) ≡ bit_and (y / 2 ^ (j + k)) e * 2 ^ (j + k) + y % 2 ^ k
low_field j k y e =
    ap (λ (n : ℕ). bit_and n (e * 2 ^ (j + k) + (2 ^ k - 1))) (sym (split y (j + k)))
    ∙ and_block (j + k) (y / 2 ^ (j + k)) e (y % 2 ^ (j + k)) (2 ^ k - 1) (mod-lt y (pow_pos (j + k))) (lt_of_lt_of_le (ones_lt k) (pow_mono (omega arith)))
    ∙ ap (λ (n : ℕ). bit_and (y / 2 ^ (j + k)) e * 2 ^ (j + k) + n) (and_mask (y % 2 ^ (j + k)) k ∙ mod-mod-pow y j k)

-- the number of the m low fields of f bits of y, each a digit to the base 2 ^ h, the lowest the first
unfoldable pub joined : (f h m y : ℕ) → ℕ
joined f h zero y = 0
joined f h (suc m) y = y % 2 ^ f * 2 ^ (h * m) + joined f h m (y / 2 ^ f)

joined-next : (f h m x : ℕ) {d : ℕ} → d < 2 ^ f → joined f h (suc m) (x * 2 ^ f + d) ≡ d * 2 ^ (h * m) + joined f h m x
unfolding joined
joined-next f h m x l = rw (high x f l, low x f l)

-- one step of the program: each field of k + k bits becomes its two halves, joined as digits to the base 2 ^ h
abbrev pub paired : (k h e y : ℕ) → ℕ
paired k h e y = bit_and y e * 2 ^ h + bit_and (y / 2 ^ k) e

sum_fields : (a b p q u v : ℕ) → (a * p + u) * q + (b * p + v) ≡ (a * q + b) * p + (u * q + v)
sum_fields a b p q u v = omega arith

paired-next : (k h m y : ℕ) → paired k h (mask k k (suc m)) y ≡ paired k h (mask k k m) (y / 2 ^ (k + k)) * 2 ^ (k + k) + (y % 2 ^ k * 2 ^ h + y / 2 ^ k % 2 ^ k)
unfolding mask
paired-next k h m y =
    let e : ℕ = mask k k m in
    let s : y / 2 ^ k / 2 ^ (k + k) ≡ y / 2 ^ (k + k) / 2 ^ k = shr-shr y k (k + k) ∙ ap (λ (n : ℕ). y / 2 ^ n) (omega arith) ∙ sym (shr-shr y (k + k) k) in
    ap₂ (λ (p q : ℕ). p * 2 ^ h + q) (low_field k k y e) (low_field k k (y / 2 ^ k) e)
    ∙ sum_fields (bit_and (y / 2 ^ (k + k)) e) (bit_and (y / 2 ^ k / 2 ^ (k + k)) e) (2 ^ (k + k)) (2 ^ h) (y % 2 ^ k) (y / 2 ^ k % 2 ^ k)
    ∙ ap (λ (n : ℕ). (bit_and (y / 2 ^ (k + k)) e * 2 ^ h + bit_and n e) * 2 ^ (k + k) + (y % 2 ^ k * 2 ^ h + y / 2 ^ k % 2 ^ k)) s

-- two digits fit where one did
pair_fits : (k h : ℕ) {a b : ℕ} → h ≤ k → a < 2 ^ k → b < 2 ^ k → b * 2 ^ h + a < 2 ^ (k + k)
pair_fits k h {a} {b} l p q =
    let u : b * 2 ^ h ≤ b * 2 ^ k = mul-le-mul_left b (pow_mono l) in
    let v : suc b * 2 ^ k ≤ 2 ^ k * 2 ^ k = mul-le-mul_right (2 ^ k) q in
    omega (arith, pow-add 2 k k)

two_digits : (j a b q p : ℕ) → (a * q + b) * p + j ≡ a * (q * p) + (b * p + j)
two_digits j a b q p = omega arith

pub paired-joined : (k h m y : ℕ) → h ≤ k → joined (k + k) (h + h) m (paired k h (mask k k m) y) ≡ joined k h (m + m) y
unfolding joined
paired-joined k h zero y l = refl
paired-joined k h (suc m) y l =
    let n : suc m + suc m ≡ suc (suc (m + m)) = omega arith in
    let x : ℕ = paired k h (mask k k m) (y / 2 ^ (k + k)) in
    let f : y % 2 ^ k * 2 ^ h + y / 2 ^ k % 2 ^ k < 2 ^ (k + k) = pair_fits k h l (mod-lt (y / 2 ^ k) (pow_pos k)) (mod-lt y (pow_pos k)) in
    let u : (h + h) * m ≡ h * (m + m) = omega arith in
    let v : h * suc (m + m) ≡ h + h * (m + m) = omega arith in
    rw (n, shr-shr y k k, ← paired-joined k h m (y / 2 ^ (k + k)) l, v, pow-add 2 h (h * (m + m)))
    (ap (joined (k + k) (h + h) (suc m)) (paired-next k h m y) ∙ joined-next (k + k) (h + h) m x f
    ∙ rw u (two_digits (joined (k + k) (h + h) m x) (y % 2 ^ k) (y / 2 ^ k % 2 ^ k) (2 ^ h) (2 ^ (h * (m + m)))))

-- what the program makes of each byte of a word: its low bits
abbrev pub spread : (e o w : ℕ) → ℕ
spread e o w = bit_and (bit_and w e + bit_and (w / 2 ^ 6) o * 9) e

spread-next : (m w : ℕ) → spread (mask 4 4 (suc m)) (mask 7 1 (suc m)) w ≡ spread (mask 4 4 m) (mask 7 1 m) (w / 256) * 256 + low_of w
unfolding mask
spread-next m w =
    let e : ℕ = mask 4 4 m in
    let o : ℕ = mask 7 1 m in
    let x : ℕ = bit_and (w / 256) e + bit_and (w / 256 / 64) o * 9 in
    let d : ℕ = w % 16 + w / 64 % 2 * 9 in
    let s : w / 64 / 256 ≡ w / 256 / 64 = omega arith in
    let p : bit_and w (mask 4 4 (suc m)) + bit_and (w / 64) (mask 7 1 (suc m)) * 9 ≡ x * 256 + d =
    ap₂ (λ (p q : ℕ). p + q * 9) (low_field 4 4 w e) (low_field 7 1 (w / 64) o) ∙ rw s (omega arith) in
    let u : (x * 256 + d) / 256 ≡ x = omega arith in
    let v : (x * 256 + d) % 16 ≡ d % 16 = omega arith in
    ap (λ (n : ℕ). bit_and n (mask 4 4 (suc m))) p ∙ low_field 4 4 (x * 256 + d) e ∙ ap₂ (λ (u v : ℕ). bit_and u e * 256 + v) u v

pub spread-joined : (m w : ℕ) → joined 8 4 m (spread (mask 4 4 m) (mask 7 1 m) w) ≡ lows_of m w
unfolding joined lows_of
spread-joined zero w = refl
spread-joined (suc m) w =
    let a : w % 16 ≡ w % 256 % 16 = sym (mod-mod-pow w 4 4) in
    let b : w / 64 % 2 ≡ w % 256 / 64 % 2 = sym (ap (λ (n : ℕ). n % 2) (field w 2 6) ∙ mod-mod-pow (w / 64) 1 1) in
    ap (joined 8 4 (suc m)) (spread-next m w)
    ∙ joined-next 8 4 m (spread (mask 4 4 m) (mask 7 1 m) (w / 256)) (omega arith)
    ∙ ap₂ (λ (u v : ℕ). v * 2 ^ (4 * m) + u) (spread-joined m (w / 256)) (ap₂ (λ (u v : ℕ). (u + v * 9) % 16) a b)

-- one byte more above n bytes is one digit more
lows-more : (n v b : ℕ) → v < 256 ^ n → b < 256 → lows_of (suc n) (v + b * 256 ^ n) ≡ lows_of n v * 16 + low_of b
unfolding lows_of
lows-more zero v b h k =
    let z : v + b * 256 ^ 0 ≡ b = omega arith in
    let m : b % 256 ≡ b = omega arith in
    rw (z, m) (omega arith)
lows-more (suc n) v b h k =
    let e : v + b * 256 ^ suc n ≡ v + b * 256 ^ n * 256 = rw (pow-suc 256 n) (omega arith) in
    let p : (v + b * 256 ^ n * 256) % 256 ≡ v % 256 = omega arith in
    let q : (v + b * 256 ^ n * 256) / 256 ≡ v / 256 + b * 256 ^ n = omega arith in
    let m : 4 * suc n ≡ 4 * n + 4 = omega arith in
    let l : v / 256 < 256 ^ n = omega (arith, pow-suc 256 n) in
    rw (e, p, q, lows-more n (v / 256) b l k, m, pow-add 2 (4 * n) 4) (omega arith)

-- a word made of bytes, the first lowest
word-lows : (s : List ℕ) → ((i : ℕ) → get_or s i 0 < 256) → (n : ℕ)
    → let v = sum_through (λ i. byte_worth i (get_or s i 0)) n in (v < 256 ^ suc n) × (lows_of (suc n) v ≡ lows_at s 0 (suc n))
unfolding lows_of lows_at
word-lows s h zero =
    let m : get_or s 0 0 % 256 ≡ get_or s 0 0 = omega (arith, h 0) in
    (h 0, rw m (omega arith))
word-lows s h (suc n) =
    let i = word-lows s h n in
    let v : ℕ = sum_through (λ i. byte_worth i (get_or s i 0)) n in
    let b : ℕ = get_or s (suc n) 0 in
    let m : suc b * 256 ^ suc n ≤ 256 * 256 ^ suc n = mul-le-mul_right (256 ^ suc n) (h (suc n)) in (
      omega (arith, pow-suc 256 (suc n), i.0),
      lows-more (suc n) v b i.0 (h (suc n)) ∙ rw (lows-reads.more s 0 (suc n), zero-add (suc n), i.1) refl,
    )

pub le-lows : (s : List ℕ) → ((i : ℕ) → get_or s i 0 < 256) → lows_of 8 (from_le_bytes w64 s) ≡ lows_at s 0 8
le-lows s h = (word-lows s h 7).1
