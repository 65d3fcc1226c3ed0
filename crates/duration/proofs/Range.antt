-- A time that passes the questions 14 and 15 is finite, its digits stand low enough for a word, and they round as its value does. Assumes nothing.
use mathlib.Core.Path.{◌≡◌, refl, sym, ap, ◌∙◌}
use Prim.Native.Nat.{ℕ, ◌+◌, ◌*◌, ◌^◌, ◌≤◌, ◌<◌}
use native.Mathlib.Nat.{lt_of_lt_of_le, lt_of_not-le, not-le_of_lt, le_trans, le_of_eq, mul_right_comm, mul-le-mul, mul-le-mul_right, mul-lt-mul_of_pos_right}
use native.Mathlib.Omega.{arith}
use mathlib.Core.Bool.{Bool, false, not}
use lib.Dec.{T, lit<, lit≤}
use lib.Pow.{pow_pos, pow_mono, pow-add}
use lib.Ieee.{Float, nan, inf, fin, binary64, of_int, fits, to_bits}
use lib.Ieee.Exact.{HasValue}
use lib.Ieee.Fits.{mul-fits}
use lib.Ieee.Nearest.{closest, closest_same}
use lib.Ieee.Positive.{num, den, den_pos}
use Rattle.patterns.specs.Bits.{sign_bit, digits, place}
use Rattle.patterns.specs.declared.Unpacked.{Unpacked}
use Rattle.patterns.proofs.Value.{HasParts, parts-value}
use Rattle.patterns.specs.Operators.{whole}
use Rattle.duration.specs.Duration.{second, hour, limit, limit_nanoseconds, zero_or_more, below_limit, product, product_below, half_away, exact_nanoseconds}
use Rattle.duration.proofs.Order.{Within, within, zero-or-more-times}
use Rattle.duration.proofs.Questions.{yes}
use Rattle.duration.proofs.Rounding.{half-same}

-- ---- what the two questions say
pub within-limit : (t : Float) → T (zero_or_more t) → T (below_limit t) → Within t limit
unfolding of_int
within-limit t a b = within t (whole limit) limit (lit< tt) (refl, refl) a b

pub within-limit-nanoseconds : (h : Float) → T (zero_or_more h) → T (product_below h) → Within (product h) limit_nanoseconds
unfolding of_int
within-limit-nanoseconds h a b = within (product h) (whole limit_nanoseconds) limit_nanoseconds (lit< tt) (refl, refl) (zero-or-more-times h (whole hour) tt a) b

-- ---- the digits of a value, in units of 2 ^ -1074
value-cross : (x : Float) (s : Bool) (a c : ℕ) → HasValue x s a c → num x * c ≡ a * den x
value-cross nan s a c v = absurd v
value-cross (inf t) s a c v = absurd v
value-cross (fin t m e) s a c v = v.1

parts-cross : (x : Float) (q k : ℕ) → HasParts x q k → num x * 2 ^ 1074 ≡ q * 2 ^ k * den x
parts-cross x q k p = value-cross x (sign_bit x) (q * 2 ^ k) (2 ^ 1074) p.value

-- both roundings of the digits are those of the value
pub seconds-same : (x : Float) (q k : ℕ) → HasParts x q k → closest (q * 2 ^ k * second) (2 ^ 1074) ≡ exact_nanoseconds x
seconds-same x q k p =
    closest_same (q * 2 ^ k * second) (2 ^ 1074) (num x * second) (den x) (pow_pos 1074) (den_pos x)
    (mul_right_comm (q * 2 ^ k) second (den x) ∙ ap (λ (n : ℕ). n * second) (sym (parts-cross x q k p)) ∙ mul_right_comm (num x) (2 ^ 1074) second)

pub whole_same : (x : Float) (q k : ℕ) → HasParts x q k → half_away (q * 2 ^ k) (2 ^ 1074) ≡ half_away (num x) (den x)
whole_same x q k p = half-same (q * 2 ^ k) (2 ^ 1074) (num x) (den x) (pow_pos 1074) (den_pos x) (sym (parts-cross x q k p))

-- below 2 ^ j the digits, 2 ^ 52 or more at a place above 0, stand no higher than this
place-lt : (x : Float) (q k j : ℕ) → HasParts x q k → num x < 2 ^ j * den x → k < 1022 + j
place-lt x q k j p h =
    lt_of_not-le (λ (g : 1022 + j ≤ k).
    let a : 2 ^ 52 * 2 ^ (1022 + j) ≤ q * 2 ^ k = mul-le-mul (p.placed.lead (omega arith)) (pow_mono g) in
    let b : 2 ^ j * 2 ^ 1074 * den x ≤ num x * 2 ^ 1074 = le_trans (le_of_eq (ap (λ (n : ℕ). n * den x) (sym (top j))))
    (le_trans (mul-le-mul_right (den x) a) (le_of_eq (sym (parts-cross x q k p)))) in
    not-le_of_lt (mul-lt-mul_of_pos_right h (pow_pos 1074)) (le_trans (le_of_eq (mul_right_comm (2 ^ j) (den x) (2 ^ 1074))) b))
  where
    exps : (j : ℕ) → 52 + (1022 + j) ≡ j + 1074
    exps j = omega arith

    top : (j : ℕ) → 2 ^ 52 * 2 ^ (1022 + j) ≡ 2 ^ j * 2 ^ 1074
    top j = sym (pow-add 2 52 (1022 + j)) ∙ ap (λ (n : ℕ). 2 ^ n) (exps j) ∙ pow-add 2 j 1074

-- p holds the digits of x, which is below 2 ^ j
pub record Digits (x : Float) (j : ℕ) (p : Unpacked) : Type 0 where
  pub parts : HasParts x p.digits p.place
  pub low : p.place < 1022 + j

-- p is what `unpack` makes of the pattern b
pub record Parts (b : ℕ) (p : Unpacked) : Type 0 where
  pub its_digits : p.digits ≡ digits b
  pub its_place : p.place ≡ place b

digits_of : (x : Float) (n j b : ℕ) (p : Unpacked) → n ≤ 2 ^ j → Within x n → T (fits binary64 x) → b ≡ to_bits binary64 x → Parts b p → Digits x j p
digits_of x n j b p h w f e q =
    let parts : HasParts x p.digits p.place = rw (q.its_digits, q.its_place, e) (parts-value x f w.is_finite) in
    record { parts = parts; low = place-lt x p.digits p.place j parts (lt_of_lt_of_le w.below (mul-le-mul_right (den x) h)) }

-- ---- the digits of what passes both questions
pub seconds-digits : (t : Float) (b : ℕ) (p : Unpacked) → T (fits binary64 t) → not (zero_or_more t) ≡ false → not (below_limit t) ≡ false
    → b ≡ to_bits binary64 t → Parts b p → Digits t 34 p
seconds-digits t b p f x y e q = digits_of t limit 34 b p (lit≤ tt) (within-limit t (yes (zero_or_more t) x) (yes (below_limit t) y)) f e q

pub product-digits : (h : Float) (b : ℕ) (p : Unpacked) → not (zero_or_more h) ≡ false → not (product_below h) ≡ false → b ≡ to_bits binary64 (product h)
    → Parts b p → Digits (product h) 64 p
product-digits h b p x y e q =
    digits_of (product h) limit_nanoseconds 64 b p (lit≤ tt) (within-limit-nanoseconds h (yes (zero_or_more h) x) (yes (product_below h) y)) (mul-fits binary64 h (whole hour)) e q
