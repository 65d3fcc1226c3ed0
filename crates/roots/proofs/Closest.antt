-- No tie: the number of units kept by `round_root a` is strictly nearer to √a than any other that binary64 holds, where a is itself
-- such a number times a power of two. (Nearness without roots: √a is below the middle of R and v where 4 * a < (R + v) ^ 2.) Assumes nothing.
use mathlib.Core.Path.{◌≡◌, refl, sym, ap, ◌∙◌}
use mathlib.Core.Logic.{inl, inr}
use Prim.Native.Nat.{ℕ, zero, suc, ◌+◌, ◌-◌, ◌*◌, ◌/◌, ◌%◌, ◌^◌, ◌≤◌, ◌<◌, compare, Ordering}
use native.Mathlib.Nat.{le_refl, le_trans, le_of_eq, le_of_lt, lt_of_lt_of_le, lt_of_le_of_lt, lt_of_not-le, not-le_of_lt, eq-zero-or-pos, mul-one}
use native.Mathlib.Nat.{mul_comm, mul_assoc, mul-mul-mul_comm, add-mul, mul-le-mul, mul-le-mul_left, mul-le-mul_right, mul-lt-mul_of_pos_right}
use native.Mathlib.Nat.{lt_of_mul-lt-mul_right, eq_of_mul-eq-mul_right, div-lt_iff_lt-mul, le-div_iff_mul-le, div-mul-le_self, pow-succ'}
use native.Mathlib.Nat.{mul_left_comm}
use native.Mathlib.Omega.{arith}
use mathlib.Core.Bool.{false}
use lib.Pow.{pow_pos, pow-add, pow_mono}
use lib.Ieee.{binary64, size, nearest, units}
use lib.Ieee.Digits.{size_reaches}
use lib.Ieee.Nearest.{nearest-ge}
use Rattle.roots.specs.Root.{whole_root, round_root}
use Rattle.patterns.proofs.Ordering.{Cmp, cmp}
use Rattle.roots.proofs.WholeRoot.{whole-root}
use Rattle.roots.proofs.RoundRoot.{round-root-is, odd-square}

-- a whole number of units that binary64 holds, but for the largest exponent
pub record Holds (v : ℕ) : Type 0 where
  pub digits : ℕ
  pub place : ℕ
  pub small : digits < 2 ^ 53
  pub is : v ≡ digits * 2 ^ place

module _ (a : ℕ) where
  abbrev pub w : ℕ
  w = whole_root a

  abbrev pub k : ℕ
  k = size (whole_root a) - 53

  abbrev pub q : ℕ
  q = whole_root a / 2 ^ (size (whole_root a) - 53)

  abbrev pub kept : ℕ
  kept = nearest q (compare (4 * a) ((2 * q + 1) * 2 ^ k * ((2 * q + 1) * 2 ^ k)))

  pub is-units : round_root a ≡ units binary64 false kept k
  is-units = round-root-is a

-- a number held that is above 2 ^ (52 + k) is a multiple of 2 ^ k
multiple : (v k b : ℕ) → Holds v → (0 < k → 2 ^ 52 ≤ b) → b * 2 ^ k < v → (c : ℕ) × (v ≡ c * 2 ^ k)
multiple v k b h big l =
    elim (eq-zero-or-pos k) [
      | inl z ↦ (v, sym (ap (λ (n : ℕ). v * 2 ^ n) z ∙ mul-one v))
      | inr p ↦
          let j = h.place in
          let B = big p in
          let up : 2 ^ 52 * 2 ^ k < 2 ^ 53 * 2 ^ j =
          lt_of_le_of_lt (mul-le-mul_right (2 ^ k) B) (lt_of_lt_of_le l (le_trans (le_of_eq h.is) (le_of_lt (mul-lt-mul_of_pos_right h.small (pow_pos j))))) in
          let ge : k ≤ j = least k j up in (
            h.digits * 2 ^ (j - k),
            h.is ∙ ap (λ (n : ℕ). h.digits * 2 ^ n) (back j k ge) ∙ ap (λ (n : ℕ). h.digits * n) (pow-add 2 (j - k) k) ∙ sym (mul_assoc h.digits (2 ^ (j - k)) (2 ^ k)),
          )
    ]
  where
    back : (j k : ℕ) → k ≤ j → j ≡ j - k + k
    back j k h = omega arith

    least : (k j : ℕ) → 2 ^ 52 * 2 ^ k < 2 ^ 53 * 2 ^ j → k ≤ j
    least k j h =
        le-of-suc (lt_of_not-le
        (λ (g : suc j ≤ k). not-le_of_lt h
        (le_trans (le_of_eq (sym (pow-add 2 53 j) ∙ ap (λ (n : ℕ). 2 ^ n) (shift j) ∙ pow-add 2 52 (suc j))) (mul-le-mul_left (2 ^ 52) (pow_mono g)))))
      where
        shift : (j : ℕ) → 53 + j ≡ 52 + suc j
        shift j = omega arith

        le-of-suc : k < suc j → k ≤ j
        le-of-suc h = omega arith

-- ---- an odd number above d is no divisor that a power of two could make up for
odd_part : (d j o k : ℕ) → d < o → o % 2 ≡ 1 → d * 2 ^ j ≡ o * 2 ^ k → ⊥
odd_part d zero o k h v e = let p = pow_pos k in not-le_of_lt h (le_trans (le_trans (le_of_eq (sym (mul-one o))) (mul-le-mul_left o p)) (le_of_eq (sym e ∙ mul-one d)))
odd_part d (suc j) o zero h v e = even (d * 2 ^ j) o (sym (ap (λ (n : ℕ). d * n) (pow-succ' 2 j) ∙ mul_left_comm d 2 (2 ^ j)) ∙ e ∙ mul-one o) v
  where
    even : (x o : ℕ) → 2 * x ≡ o → o % 2 ≡ 1 → ⊥
    even x o e v = omega arith
odd_part d (suc j) o (suc k) h v e = odd_part d j o k h v (eq_of_mul-eq-mul_right 2 (pow_pos 1) (d * 2 ^ j) (o * 2 ^ k) (half d j ∙ e ∙ sym (half o k)))
  where
    half : (x n : ℕ) → x * 2 ^ n * 2 ≡ x * 2 ^ suc n
    half x n = mul_assoc x (2 ^ n) 2 ∙ ap (λ (z : ℕ). x * z) (mul_comm (2 ^ n) 2 ∙ sym (pow-succ' 2 n))

module _ (a : ℕ) (d p : ℕ) (digits : d < 2 ^ 53) (is : a ≡ d * 2 ^ p) where
  -- the middle above q, squared and times 4
  abbrev S : ℕ
  S = (2 * q a + 1) * 2 ^ k a * ((2 * q a + 1) * 2 ^ k a)

  low : q a * 2 ^ k a ≤ w a
  low = div-mul-le_self (w a) (2 ^ k a)

  high : w a + 1 ≤ (q a + 1) * 2 ^ k a
  high = let h : w a < (q a + 1) * 2 ^ k a = (div-lt_iff_lt-mul (pow_pos (k a))).0 (next (q a)) in omega arith
    where
      next : (n : ℕ) → n < n + 1
      next n = omega arith

  big : 0 < k a → 2 ^ 52 ≤ q a
  big p = (le-div_iff_mul-le (pow_pos (k a))).1 (le_trans (le_of_eq (sym (pow-add 2 52 (k a)))) (size_reaches (w a) (52 + k a) (lead (size (w a)) p)))
    where
      lead : (z : ℕ) → 0 < z - 53 → 52 + (z - 53) < z
      lead z h = omega arith

  twice-low : 2 * w a * (2 * w a) ≤ 4 * a
  twice-low = let h = (whole-root a).low in let e : 2 * w a * (2 * w a) ≡ 4 * (w a * w a) = mul-mul-mul_comm 2 (w a) 2 (w a) in omega arith

  twice-high : 4 * a < 2 * (w a + 1) * (2 * (w a + 1))
  twice-high = let h = (whole-root a).high in let e : 2 * (w a + 1) * (2 * (w a + 1)) ≡ 4 * ((w a + 1) * (w a + 1)) = mul-mul-mul_comm 2 (w a + 1) 2 (w a + 1) in omega arith

  square : {x y : ℕ} → x ≤ y → x * x ≤ y * y
  square h = mul-le-mul h h

  square-lt : {x y : ℕ} → x < y → x * x < y * y
  square-lt {x} {y} h = lt_of_le_of_lt (mul-le-mul_left x (le_of_lt h)) (mul-lt-mul_of_pos_right h (positive h))
    where
      positive : {x y : ℕ} → x < y → 0 < y
      positive {x} {y} h = omega arith

  -- ---- no tie: 4 * a is d times a power of two, and the middle's square an odd number above d times one, or odd
  odd-of : (n : ℕ) → (2 * n + 1) * (2 * n + 1) % 2 ≡ 1
  odd-of n = go ((2 * n + 1) * (2 * n + 1) % 2) refl
    where
      go : (r : ℕ) → (2 * n + 1) * (2 * n + 1) % 2 ≡ r → (2 * n + 1) * (2 * n + 1) % 2 ≡ 1
      go zero e = absurd (odd-square (2 * n + 1) ((2 * n + 1) * (2 * n + 1)) ((2 * n + 1) * (2 * n + 1)) refl (omega arith) e refl)
      go (suc r) e = let z : r ≡ 0 = omega arith in e ∙ ap suc z

  four-a : 4 * a ≡ d * 2 ^ (p + 2)
  four-a = ap (λ (n : ℕ). 4 * n) is ∙ mul_left_comm 4 d (2 ^ p) ∙ ap (λ (n : ℕ). d * n) (mul_comm 4 (2 ^ p) ∙ sym (pow-add 2 p 2))

  no_tie : 4 * a ≡ S → ⊥
  no_tie e =
      let O = (2 * q a + 1) * (2 * q a + 1) in
      let f : d * 2 ^ (p + 2) ≡ O * 2 ^ (k a + k a) = sym four-a ∙ e ∙ mul-mul-mul_comm (2 * q a + 1) (2 ^ k a) (2 * q a + 1) (2 ^ k a)
      ∙ ap (λ (n : ℕ). O * n) (sym (pow-add 2 (k a) (k a))) in
      elim (eq-zero-or-pos (k a)) [
        | inl z ↦ odd-square (2 * q a + 1) O (4 * a) refl (odd (q a)) (even a)
            (sym (e ∙ ap (λ (n : ℕ). (2 * q a + 1) * 2 ^ n * ((2 * q a + 1) * 2 ^ n)) z ∙ mul-mul-mul_comm (2 * q a + 1) 1 (2 * q a + 1) 1 ∙ mul-one O))
        | inr z ↦ odd_part d (p + 2) O (k a + k a) (lt_of_lt_of_le digits (le_trans (above (q a) (big z)) (self (2 * q a + 1)))) (odd-of (q a)) f
      ]
    where
      odd : (n : ℕ) → (2 * n + 1) % 2 ≡ 1
      odd n = omega arith

      even : (n : ℕ) → 4 * n % 2 ≡ 0
      even n = omega arith

      above : (n : ℕ) → 2 ^ 52 ≤ n → 2 ^ 53 ≤ 2 * n + 1
      above n h = omega arith

      self : (n : ℕ) → n ≤ n * n
      self zero = le_refl 0
      self (suc n) = le_trans (le_of_eq (sym (mul-one (suc n)))) (mul-le-mul_left (suc n) (one n))
        where
          one : (n : ℕ) → 1 ≤ suc n
          one n = omega arith

  -- ---- above
  reach : (o : Ordering) → Cmp o (4 * a) S → 4 * a < (2 * nearest (q a) o + 1) * 2 ^ k a * ((2 * nearest (q a) o + 1) * 2 ^ k a)
  reach Ordering.lt c = c
  reach Ordering.eq c = absurd (no_tie c)
  reach Ordering.gt c =
      lt_of_lt_of_le twice-high
      (square (le_trans (mul-le-mul_left 2 high) (le_trans (le_of_eq (sym (mul_assoc 2 (q a + 1) (2 ^ k a)))) (mul-le-mul_right (2 ^ k a) (more (q a))))))
    where
      more : (n : ℕ) → 2 * (n + 1) ≤ 2 * suc n + 1
      more n = omega arith

  above_at : (o : Ordering) → Cmp o (4 * a) S → (v : ℕ) → Holds v → nearest (q a) o * 2 ^ k a < v → 4 * a < (nearest (q a) o * 2 ^ k a + v) * (nearest (q a) o * 2 ^ k a + v)
  above_at o c v h l =
      let r = nearest (q a) o in
      let p = 2 ^ k a in
      let m = multiple v (k a) r h (λ (z : 0 < k a). le_trans (big z) (nearest-ge (q a) o)) l in
      let s : r < m.0 = lt_of_mul-lt-mul_right p (lt_of_lt_of_le l (le_of_eq m.1)) in
      let t : (r + 1) * p ≤ v = le_trans (mul-le-mul_right p (omega arith)) (le_of_eq (sym m.1)) in
      let u : (2 * r + 1) * p ≤ r * p + v = le_trans (le_of_eq (ap (λ (n : ℕ). n * p) (both r) ∙ add-mul r (r + 1) p)) (omega arith) in
      lt_of_lt_of_le (reach o c) (square u)
    where
      both : (r : ℕ) → 2 * r + 1 ≡ r + (r + 1)
      both r = omega arith

  -- ---- below
  down : (v : ℕ) → Holds v → v < suc (q a) * 2 ^ k a → v ≤ q a * 2 ^ k a
  down v h l = le-of-not (λ (g : q a * 2 ^ k a < v).
      let m = multiple v (k a) (q a) h big g in
      let s : q a < m.0 = lt_of_mul-lt-mul_right (2 ^ k a) (lt_of_lt_of_le g (le_of_eq m.1)) in
      let t : m.0 < suc (q a) = lt_of_mul-lt-mul_right (2 ^ k a) (lt_of_le_of_lt (le_of_eq (sym m.1)) l) in
      let z : ⊥ = omega arith in
      z)
    where
      le-of-not : {x y : ℕ} → (y < x → ⊥) → x ≤ y
      le-of-not {x} {y} n = omega arith

  below_at : (o : Ordering) → Cmp o (4 * a) S → (v : ℕ) → Holds v → v < nearest (q a) o * 2 ^ k a → (nearest (q a) o * 2 ^ k a + v) * (nearest (q a) o * 2 ^ k a + v) < 4 * a
  below_at Ordering.lt c v h l = lt_of_lt_of_le (square-lt (let b = low in omega arith)) twice-low
  below_at Ordering.eq c v h l = absurd (no_tie c)
  below_at Ordering.gt c v h l =
      let p = 2 ^ k a in
      let t = down v h l in
      let e : (2 * q a + 1) * p ≡ suc (q a) * p + q a * p = ap (λ (n : ℕ). n * p) (both (q a)) ∙ add-mul (suc (q a)) (q a) p in
      lt_of_le_of_lt (square (omega arith)) c
    where
      both : (n : ℕ) → 2 * n + 1 ≡ suc n + n
      both n = omega arith

  pub above : (v : ℕ) → Holds v → kept a * 2 ^ k a < v → 4 * a < (kept a * 2 ^ k a + v) * (kept a * 2 ^ k a + v)
  above = above_at (compare (4 * a) S) (cmp (4 * a) S)

  pub below : (v : ℕ) → Holds v → v < kept a * 2 ^ k a → (kept a * 2 ^ k a + v) * (kept a * 2 ^ k a + v) < 4 * a
  below = below_at (compare (4 * a) S) (cmp (4 * a) S)
