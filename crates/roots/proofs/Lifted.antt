-- The arithmetic of `root_of`: from the digits and the place of a value to the pattern of its root. Assumes nothing.
use mathlib.Core.Path.{◌≡◌, sym, ap, ◌∙◌}
use Prim.Native.Nat.{ℕ, zero, suc, ◌+◌, ◌-◌, ◌*◌, ◌/◌, ◌%◌, ◌^◌, ◌≤◌, ◌<◌}
use native.Mathlib.Nat.{le_trans, le_of_eq, le_of_lt, lt_of_lt_of_le, lt_of_le_of_lt, mul-one, mul_assoc, mul-le-mul_right, pow-succ', mul_left_comm}
use native.Mathlib.Omega.{arith}
use mathlib.Core.Bool.{false}
use lib.Dec.{T, lit<, lit≤, ltb}
use lib.Pow.{pow-add, pow_mono, shl_lt}
use lib.Ieee.{binary64, odd, units, of_bits, fits, inf}
use lib.Ieee.Exact.{odd_sign, units_val}
use lib.Ieee.Fits.{cond-fits, odd-fits, inf-fits}
use Rattle.roots.specs.Root.{whole_root, round_root}
use Rattle.patterns.proofs.Pattern.{Placed, packed}
use Rattle.patterns.proofs.Value.{same-value}
use Rattle.patterns.proofs.Leading.{units_lt, odd-held, zeros, top, zeros-in, shift-exact}
use Rattle.roots.proofs.WholeRoot.{sq-lt, whole-root}
use Rattle.roots.proofs.RoundRoot.{rounded}

-- ---- `units` of a significand is its value
units-held : (q k : ℕ) → q < 2 ^ 53 → k < 2046 → T (fits binary64 (units binary64 false q k))
unfolding units
units-held q k h l =
    cond-fits binary64 (ltb (q * 2 ^ k) (2 ^ 2098)) (odd 54 false q k 1074) (inf false)
    (odd-fits binary64 54 false q k (lt_of_lt_of_le h (lit≤ tt)) (le_of_lt h) (units_lt q k h l)) (inf-fits binary64 false)

units-is : (q k : ℕ) → q < 2 ^ 53 → k < 2046 → odd 53 false q k 1074 ≡ units binary64 false q k
units-is q k h l =
    same-value (odd 53 false q k 1074) (units binary64 false q k) false (q * 2 ^ k) (odd-held false q k h l) (units-held q k h l)
    (odd_sign 53 false q k 1074) (units_val binary64 false q k (units_lt q k h l))

-- ---- the digits d at the place k are shifted so that the power of two that is left is even
abbrev pub leads : ℕ → ℕ → ℕ
leads d k = k + 64 - zeros d

abbrev pub shift : ℕ → ℕ → ℕ
shift d k = zeros d - 11 + (leads d k + 1) % 2

abbrev pub lifted : ℕ → ℕ → ℕ
lifted d k = d * 2 ^ shift d k % 2 ^ 64

module _ (d k : ℕ) (dp : 0 < d) (small : d < 2 ^ 53) (under : k < 2047) where
  shift_is : suc (top d dp small).0 + shift d k ≡ 53 + (leads d k + 1) % 2
  shift_is = let z = zeros-in d dp small in let b = (top d dp small).1 in omega arith

  exact : lifted d k ≡ d * 2 ^ shift d k
  exact = shift-exact d dp small (shift d k) (let z = zeros-in d dp small in omega arith)

  lo : 2 ^ 52 ≤ lifted d k
  lo =
      let t = top d dp small in
      let e : 52 ≤ t.0 + shift d k = let s = shift_is in omega arith in
      le_trans (pow_mono e) (le_trans (le_of_eq (pow-add 2 t.0 (shift d k))) (le_trans (mul-le-mul_right (2 ^ shift d k) t.2) (le_of_eq (sym exact))))

  -- with 54 digits the last is 0
  hi : lifted d k ≤ 2 ^ 54 - 2
  hi = go (shift d k) exact shift_is
    where
      even : (x y : ℕ) → x ≡ 2 * y → x < 2 ^ 54 → x ≤ 2 ^ 54 - 2
      even x y e h = omega arith

      go : (s : ℕ) → lifted d k ≡ d * 2 ^ s → suc (top d dp small).0 + s ≡ 53 + (leads d k + 1) % 2 → lifted d k ≤ 2 ^ 54 - 2
      go zero e i = let m : d * 1 ≡ d = mul-one d in let x : lifted d k ≡ d = e ∙ m in omega arith
      go (suc s) e i =
          let b : suc (top d dp small).0 + suc s ≤ 54 = omega arith in
          even (lifted d k) (d * 2 ^ s) (e ∙ ap (λ (z : ℕ). d * z) (pow-succ' 2 s) ∙ mul_left_comm d 2 (2 ^ s))
          (lt_of_le_of_lt (le_of_eq e) (lt_of_lt_of_le (shl_lt (suc (top d dp small).0) (suc s) (top d dp small).3) (pow_mono b)))

  pub lifted-lt : lifted d k < 2 ^ 54
  lifted-lt = let h = hi in omega arith

  -- ---- the root of lifted * 2 ^ 54
  abbrev q : ℕ
  q = whole_root (lifted d k * 2 ^ 54)

  root-lo : 2 ^ 53 ≤ q
  root-lo =
      let a : 2 ^ 53 < q + 1 = sq-lt (2 ^ 53) (q + 1) (lt_of_le_of_lt (le_trans (lit≤ tt) (mul-le-mul_right (2 ^ 54) lo)) (whole-root (lifted d k * 2 ^ 54)).high) in
      omega arith

  root-hi : q < 2 ^ 54 - 1
  root-hi = sq-lt q (2 ^ 54 - 1) (lt_of_le_of_lt (whole-root (lifted d k * 2 ^ 54)).low (lt_of_le_of_lt (mul-le-mul_right (2 ^ 54) hi) (lit< tt)))

  abbrev field : ℕ
  field = (leads d k + 969) / 2

  placed : Placed ((q + 1) / 2) field
  placed =
      let a = root-lo in
      let b = root-hi in
      let z = zeros-in d dp small in
      record { small = omega arith; lead = λ (h : 0 < field). omega arith; under = omega arith }

  pub pattern_lt : field * 2 ^ 52 + (q + 1) / 2 < 2047 * 2 ^ 52
  pattern_lt = omega (arith, placed.small, placed.under)

  scale : d * 2 ^ k * 2 ^ 1074 ≡ lifted d k * 2 ^ 54 * (2 ^ (field - 1) * 2 ^ (field - 1))
  scale =
      let h = field - 1 in
      let e : k + 1074 ≡ shift d k + (54 + (h + h)) = let z = zeros-in d dp small in omega arith in
      mul_assoc d (2 ^ k) (2 ^ 1074)
      ∙ ap (λ (z : ℕ). d * z) (sym (pow-add 2 k 1074) ∙ ap (λ (z : ℕ). 2 ^ z) e ∙ pow-add 2 (shift d k) (54 + (h + h))
      ∙ ap (λ (z : ℕ). 2 ^ shift d k * z) (pow-add 2 54 (h + h) ∙ ap (λ (z : ℕ). 2 ^ 54 * z) (pow-add 2 h h)))
      ∙ sym (mul_assoc d (2 ^ shift d k) (2 ^ 54 * (2 ^ h * 2 ^ h)))
      ∙ ap (λ (z : ℕ). z * (2 ^ 54 * (2 ^ h * 2 ^ h))) (sym exact)
      ∙ sym (mul_assoc (lifted d k) (2 ^ 54) (2 ^ h * 2 ^ h))

  pub pattern-value : of_bits binary64 (field * 2 ^ 52 + (q + 1) / 2) ≡ round_root (d * 2 ^ k * 2 ^ 1074)
  pattern-value =
      let K : suc (field - 1) ≡ field = let z = zeros-in d dp small in omega arith in
      packed ((q + 1) / 2) field placed
      ∙ units-is ((q + 1) / 2) field placed.small placed.under
      ∙ ap (units binary64 false ((q + 1) / 2)) (sym K)
      ∙ sym (rounded (lifted d k * 2 ^ 54) q (field - 1) (whole-root (lifted d k * 2 ^ 54)) (even (lifted d k)) root-lo (let b = root-hi in omega arith))
      ∙ ap round_root (sym scale)
    where
      even : (m : ℕ) → m * 2 ^ 54 % 2 ≡ 0
      even m = omega arith
