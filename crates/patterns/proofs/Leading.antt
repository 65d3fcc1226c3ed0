-- The leading digit of a significand: how far it may be shifted up, and the pattern that it then makes. Assumes nothing.
use Rattle.std.proofs.Common.{◌≡◌, ℕ, suc, ◌+◌, ◌-◌, ◌*◌, ◌%◌, ◌^◌, ◌<◌, ◌≤◌, Bool, false, T, sym, ap, ◌∙◌, subst, le_trans, le_of_eq, lt_of_lt_of_le, le_of_lt}
use Rattle.std.proofs.Common.{mul-le-mul_right, mul_assoc, lt_of_not-le, not-le_of_lt, arith, lit≤, pow_mono, pow-add, shl_lt, shl_exact}
use lib.Count.{count_leading_zeros, leading_top}
use lib.Ieee.{binary64, odd, of_bits, fits}
use lib.Ieee.Exact.{HasValue, odd_sign}
use lib.Ieee.Fits.{odd-fits}
use Rattle.patterns.proofs.Pattern.{Placed, packed}
use Rattle.patterns.proofs.Value.{same-value}

-- q * 2 ^ k units stay below the infinity
pub units_lt : (q k : ℕ) → q < 2 ^ 53 → k < 2046 → q * 2 ^ k < 2 ^ 2098
units_lt q k h l = lt_of_lt_of_le (shl_lt 53 k h) (pow_mono (room k l))
  where
    room : (k : ℕ) → k < 2046 → 53 + k ≤ 2098
    room k h = omega arith

pub odd-held : (s : Bool) (q k : ℕ) → q < 2 ^ 53 → k < 2046 → T (fits binary64 (odd 53 s q k 1074))
odd-held s q k h l = odd-fits binary64 53 s q k h (le_of_lt h) (units_lt q k h l)

abbrev pub zeros : ℕ → ℕ
zeros q = count_leading_zeros 64 q

module _ (q : ℕ) (qp : 0 < q) (small : q < 2 ^ 53) where
  -- the leading digit stands at j
  pub top : (j : ℕ) × (zeros q + suc j ≡ 64) × (2 ^ j ≤ q) × (q < 2 ^ suc j)
  top = leading_top 64 q qp (lt_of_lt_of_le small (lit≤ tt))

  pub few : top.0 < 53
  few = lt_of_not-le (λ (g : 53 ≤ top.0). not-le_of_lt (lt_of_lt_of_le small (pow_mono g)) top.2)

  pub zeros-in : (11 ≤ zeros q) × (zeros q ≤ 63)
  zeros-in = let a = few in let b = top.1 in (omega arith, omega arith)

  -- shifted by j, no digit leaves the 64 bits
  pub shift-exact : (j : ℕ) → j ≤ zeros q → q * 2 ^ j % 2 ^ 64 ≡ q * 2 ^ j
  shift-exact j h = shl_exact (suc top.0) j 64 top.3 (let b = top.1 in omega arith)

  -- shifted by the free places of a significand, and at most so far, it is one
  pub shift-lt : (j : ℕ) → j ≤ zeros q - 11 → q * 2 ^ j < 2 ^ 53
  shift-lt j h = let l : suc top.0 + j ≤ 53 = let b = top.1 in let z = zeros-in in omega arith in lt_of_lt_of_le (shl_lt (suc top.0) j top.3) (pow_mono l)

  pub shift-lead : 2 ^ 52 ≤ q * 2 ^ (zeros q - 11)
  shift-lead =
      let l : 52 ≤ top.0 + (zeros q - 11) = let b = top.1 in let z = zeros-in in omega arith in
      le_trans (pow_mono l) (le_trans (le_of_eq (pow-add 2 top.0 (zeros q - 11))) (mul-le-mul_right (2 ^ (zeros q - 11)) top.2))

  -- Shifted up by j at the cost of its place k, it is the pattern of the same value: where place is left, the digits lead.
  module _ (k j : ℕ) (kl : k < 2046) (room : j ≤ zeros q - 11) (within : j ≤ k) (full : 0 < k - j → j ≡ zeros q - 11) where
    exact : q * 2 ^ j % 2 ^ 64 ≡ q * 2 ^ j
    exact = shift-exact j (omega arith)

    placed : Placed (q * 2 ^ j) (k - j)
    placed = record { small = shift-lt j room; lead = λ (h : 0 < k - j). rw (full h) shift-lead; under = omega arith }

    pub pattern_lt : (k - j) * 2 ^ 52 + q * 2 ^ j % 2 ^ 64 < 2047 * 2 ^ 52
    pattern_lt = let e = exact in let h = shift-lt j room in omega arith

    same_units : q * 2 ^ j * 2 ^ (k - j) ≡ q * 2 ^ k
    same_units = mul_assoc q (2 ^ j) (2 ^ (k - j)) ∙ ap (λ (n : ℕ). q * n) (sym (pow-add 2 j (k - j)) ∙ ap (λ (n : ℕ). 2 ^ n) (back j k within))
      where
        back : (j k : ℕ) → j ≤ k → j + (k - j) ≡ k
        back j k h = omega arith

    pub pattern-value : of_bits binary64 ((k - j) * 2 ^ 52 + q * 2 ^ j % 2 ^ 64) ≡ odd 53 false q k 1074
    pattern-value =
        ap (λ (n : ℕ). of_bits binary64 ((k - j) * 2 ^ 52 + n)) exact
        ∙ packed (q * 2 ^ j) (k - j) placed
        ∙ same-value (odd 53 false (q * 2 ^ j) (k - j) 1074) (odd 53 false q k 1074) false (q * 2 ^ k)
        (odd-held false (q * 2 ^ j) (k - j) placed.small placed.under)
        (odd-held false q k small kl)
        (subst (λ (a : ℕ). HasValue (odd 53 false (q * 2 ^ j) (k - j) 1074) false a (2 ^ 1074)) same_units (odd_sign 53 false (q * 2 ^ j) (k - j) 1074))
        (odd_sign 53 false q k 1074)
