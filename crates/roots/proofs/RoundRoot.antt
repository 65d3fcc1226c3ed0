-- `round_root` at a number that is n * 4 ^ h, by the whole part of the root of n. Assumes nothing.
use mathlib.Core.Path.{◌≡◌, refl, sym, ap, ◌∙◌, subst}
use Prim.Native.Nat.{ℕ, zero, suc, ◌+◌, ◌-◌, ◌*◌, ◌/◌, ◌%◌, ◌^◌, ◌≤◌, ◌<◌, compare, Ordering}
use native.Mathlib.Nat.{le_trans, le_of_eq, le_of_lt, lt_of_lt_of_le, mul_comm, mul_assoc, mul_left_comm, add-mul}
use native.Mathlib.Nat.{mul-add, add_assoc, add_comm, add_left_comm, div-lt_iff_lt-mul, le-div_iff_mul-le, div-div-eq-div-mul, mul-pos, pow-suc}
use native.Mathlib.Omega.{arith}
use mathlib.Core.Bool.{false}
use lib.Pow.{pow_pos, pow-add}
use lib.Ieee.{Float, binary64, size, nearest, units}
use lib.Ieee.Digits.{size-le}
use Rattle.roots.specs.Root.{whole_root, round_root}
use Rattle.patterns.proofs.Rounded.{size-gt}
use Rattle.patterns.proofs.Ordering.{Cmp, cmp, rescale}
use Rattle.roots.proofs.WholeRoot.{IsRoot, scaled}

-- w / 2 ^ h is q, which has 54 digits: so w has h more
size_is : (w q h : ℕ) → w / 2 ^ h ≡ q → 2 ^ 53 ≤ q → q < 2 ^ 54 → size w ≡ 54 + h
size_is w q h e lo hi =
    let a : 53 + h < size w = size-gt w (53 + h) (le_trans (le_of_eq (pow-add 2 53 h)) ((le-div_iff_mul-le (pow_pos h)).0 (subst (λ (z : ℕ). 2 ^ 53 ≤ z) (sym e) lo))) in
    let b : size w ≤ 54 + h = size-le w (54 + h)
    (lt_of_lt_of_le ((div-lt_iff_lt-mul (pow_pos h)).0 (subst (λ (z : ℕ). z < 2 ^ 54) (sym e) hi)) (le_of_eq (sym (pow-add 2 54 h)))) in
    omega arith

-- an odd number's square is odd, so it is no even number
pub odd-square : (q z n : ℕ) → z ≡ q * q → q % 2 ≡ 1 → n % 2 ≡ 0 → z ≡ n → ⊥
odd-square q z n e o v h =
    let k = q / 2 in
    let d : q ≡ 2 * k + 1 = omega arith in
    let s : z ≡ 2 * (2 * (k * k) + 2 * k) + 1 =
    e ∙ ap (λ (y : ℕ). y * y) d ∙ simp (mul-add, add-mul, mul_comm, mul_left_comm, add_assoc, add_comm, add_left_comm) (omega arith) in
    omega arith

-- from the number kept, q / 2, and how √n stands to the middle, which is q / 2 + 1 / 2: the nearest whole number to √n / 2 is (q + 1) / 2
middle : (n q : ℕ) → IsRoot n q → n % 2 ≡ 0 → (o : Ordering) → Cmp o n ((2 * (q / 2) + 1) * (2 * (q / 2) + 1)) → nearest (q / 2) o ≡ (q + 1) / 2
middle n q i v o c = parity (q % 2) refl o c
  where
    two : (r : ℕ) → q % 2 ≡ suc (suc r) → ⊥
    two r e = omega arith

    even : q % 2 ≡ 0 → 2 * (q / 2) + 1 ≡ q + 1
    even e = omega arith

    uneven : q % 2 ≡ 1 → 2 * (q / 2) + 1 ≡ q
    uneven e = omega arith

    below : q % 2 ≡ 0 → q / 2 ≡ (q + 1) / 2
    below e = omega arith

    above : q % 2 ≡ 1 → suc (q / 2) ≡ (q + 1) / 2
    above e = omega arith

    no_less : (a b : ℕ) → a < b → b ≤ a → ⊥
    no_less a b h k = omega arith

    high-case : q % 2 ≡ 0 → (o : Ordering) → Cmp o n ((q + 1) * (q + 1)) → nearest (q / 2) o ≡ (q + 1) / 2
    high-case e Ordering.lt c = below e
    high-case e Ordering.eq c = absurd (no_less n ((q + 1) * (q + 1)) i.high (le_of_eq (sym c)))
    high-case e Ordering.gt c = absurd (no_less n ((q + 1) * (q + 1)) i.high (le_of_lt c))

    low-case : q % 2 ≡ 1 → (o : Ordering) → Cmp o n (q * q) → nearest (q / 2) o ≡ (q + 1) / 2
    low-case e Ordering.lt c = absurd (no_less n (q * q) c i.low)
    low-case e Ordering.eq c = absurd (odd-square q (q * q) n refl e v (sym c))
    low-case e Ordering.gt c = above e

    parity : (r : ℕ) → q % 2 ≡ r → (o : Ordering) → Cmp o n ((2 * (q / 2) + 1) * (2 * (q / 2) + 1)) → nearest (q / 2) o ≡ (q + 1) / 2
    parity zero e o c = high-case e o (subst (λ (z : ℕ). Cmp o n (z * z)) (even e) c)
    parity (suc zero) e o c = low-case e o (subst (λ (z : ℕ). Cmp o n (z * z)) (uneven e) c)
    parity (suc (suc r)) e o c = absurd (two r e)

abbrev pub at : ℕ → ℕ → ℕ → Float
at a w k = units binary64 false (nearest (w / 2 ^ k) (compare (4 * a) ((2 * (w / 2 ^ k) + 1) * 2 ^ k * ((2 * (w / 2 ^ k) + 1) * 2 ^ k)))) k

pub round-root-is : (a : ℕ) → round_root a ≡ at a (whole_root a) (size (whole_root a) - 53)
unfolding round_root
round-root-is a = refl

pub rounded : (n q h : ℕ) → IsRoot n q → n % 2 ≡ 0 → 2 ^ 53 ≤ q → q < 2 ^ 54 → round_root (n * (2 ^ h * 2 ^ h)) ≡ units binary64 false ((q + 1) / 2) (suc h)
rounded n q h i v lo hi =
    let p = 2 ^ h in
    let a = n * (p * p) in
    let w = whole_root a in
    let s : w / p ≡ q = scaled n q h i in
    let k : size w - 53 ≡ suc h = ap (λ (z : ℕ). z - 53) (size_is w q h s lo hi) ∙ less h in
    let t : w / 2 ^ suc h ≡ q / 2 = ap (λ (z : ℕ). w / z) (pow-suc 2 h) ∙ sym (div-div-eq-div-mul w p 2) ∙ ap (λ (z : ℕ). z / 2) s in
    let u = 2 * (q / 2) + 1 in
    let g : u * 2 ^ suc h * (u * 2 ^ suc h) ≡ u * u * (4 * (p * p)) = ap (λ (z : ℕ). u * z * (u * z)) (pow-suc 2 h)
    ∙ simp (mul_comm, mul_assoc, mul_left_comm) (omega arith) in
    let f : 4 * a ≡ n * (4 * (p * p)) = mul_left_comm 4 n (p * p) in
    let o = compare (4 * a) (u * 2 ^ suc h * (u * 2 ^ suc h)) in
    let c : Cmp o (n * (4 * (p * p))) (u * u * (4 * (p * p))) = subst (λ (z : ℕ). Cmp o z (u * u * (4 * (p * p)))) f
    (subst (λ (z : ℕ). Cmp o (4 * a) z) g (cmp (4 * a) (u * 2 ^ suc h * (u * 2 ^ suc h)))) in
    let PP : 0 < 4 * (p * p) = mul-pos (pow_pos 2) (mul-pos (pow_pos h) (pow_pos h)) in
    round-root-is a
    ∙ ap (λ (z : ℕ). at a w z) k
    ∙ ap (λ (z : ℕ). units binary64 false (nearest z (compare (4 * a) ((2 * z + 1) * 2 ^ suc h * ((2 * z + 1) * 2 ^ suc h)))) (suc h)) t
    ∙ ap (λ (z : ℕ). units binary64 false z (suc h)) (middle n q i v o (rescale o n (u * u) (4 * (p * p)) PP c))
  where
    less : (h : ℕ) → 54 + h - 53 ≡ suc h
    less h = omega arith
