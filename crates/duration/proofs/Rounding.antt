-- Fractions to the nearest whole number: ties to even by the digit of the half and what stands below it, and halves away from zero. Assumes nothing.
use mathlib.Core.Path.{◌≡◌, sym, ap, ◌∙◌}
use Prim.Native.Nat.{Ordering}
use Prim.Native.Nat.{ℕ, zero, suc, ◌+◌, ◌*◌, ◌/◌, ◌%◌, ◌≤◌, ◌<◌, compare}
use native.Mathlib.Nat.{le_of_suc-le-suc, mul_assoc, mul_comm, mul_left_comm, mul-le-mul_right, mul-pos, add-mul, mul-add, add_assoc, zero-lt-suc}
use native.Mathlib.Nat.{mod-eq_of_lt, div-eq_of_lt, add-div_right, div-div-eq-div-mul}
use native.Mathlib.Omega.{arith}
use mathlib.Core.Bool.{not}
use lib.Dec.{eqb, eqb-suc-zero}
use lib.Arith.{digits_div, digits_mod}
use lib.Ieee.{nearest}
use lib.Ieee.Nearest.{closest, div_same}
use Rattle.patterns.proofs.Ordering.{ordered}
use Rattle.duration.specs.Duration.{settled, half_away}

-- ---- ties to even

-- q whole ones and the remainder c
closest-by-rest : (q c b : ℕ) → c < b → closest (q * b + c) b ≡ nearest q (compare (c * 2) b)
closest-by-rest q c b h =
    ap (λ (x : ℕ). nearest x (compare ((q * b + c) % b * 2) b)) (digits_div q h)
    ∙ ap (λ (x : ℕ). nearest q (compare (x * 2) b)) (digits_mod q h)

-- less than a half
pub closest-small : (a b : ℕ) → a * 2 < b → closest a b ≡ 0
closest-small a b h =
    let l : a < b = omega arith in
    ap (λ (x : ℕ). nearest x (compare (a % b * 2) b)) (div-eq_of_lt l)
    ∙ ap (λ (x : ℕ). nearest 0 (compare (x * 2) b)) (mod-eq_of_lt l)
    ∙ ap (nearest 0) (ordered (a * 2) b Ordering.lt h)

-- q whole ones of 2 * w, h halves of w, and the rest r
pub closest-by-half : (a q h w r : ℕ) → h < 2 → r < w → a ≡ (q * 2 + h) * w + r → closest a (2 * w) ≡ settled q h (not (eqb r 0))
unfolding settled
closest-by-half a q h w r H R e =
    ap (λ (x : ℕ). closest x (2 * w)) (e ∙ shape q h w r)
    ∙ closest-by-rest q (h * w + r) (2 * w) (let m : h * w ≤ 1 * w = mul-le-mul_right w (le_of_suc-le-suc H) in omega arith)
    ∙ by-digit h r H R
  where
    shape : (q h w r : ℕ) → (q * 2 + h) * w + r ≡ q * (2 * w) + (h * w + r)
    shape q h w r = ap (λ (x : ℕ). x + r) (add-mul (q * 2) h w ∙ ap (λ (x : ℕ). x + h * w) (mul_assoc q 2 w)) ∙ add_assoc (q * (2 * w)) (h * w) r

    by-digit : (h r : ℕ) → h < 2 → r < w → nearest q (compare ((h * w + r) * 2) (2 * w)) ≡ settled q h (not (eqb r 0))
    by-digit zero r H R = ap (nearest q) (ordered ((0 * w + r) * 2) (2 * w) Ordering.lt (omega arith))
    by-digit (suc zero) zero H R = ap (nearest q) (ordered ((1 * w + 0) * 2) (2 * w) Ordering.eq (omega arith))
    by-digit (suc zero) (suc r) H R = simp eqb-suc-zero (ap (nearest q) (ordered ((1 * w + suc r) * 2) (2 * w) Ordering.gt (omega arith)) ∙ omega arith)
    by-digit (suc (suc h)) r H R = let z : ⊥ = omega arith in absurd z

-- ---- halves away from zero

-- equal fractions
pub half-same : (a b c d : ℕ) → 0 < b → 0 < d → a * d ≡ c * b → half_away a b ≡ half_away c d
half-same a b c d B D e =
    div_same (2 * a + b) (2 * b) (2 * c + d) (2 * d) (mul-pos (zero-lt-suc 1) B) (mul-pos (zero-lt-suc 1) D)
    (add-mul (2 * a) b (2 * d) ∙ ap (λ (n : ℕ). n + b * (2 * d)) (shape a d ∙ ap (λ (n : ℕ). 2 * (2 * n)) e ∙ sym (shape c b))
    ∙ ap (λ (n : ℕ). 2 * c * (2 * b) + n) (turn b d) ∙ sym (add-mul (2 * c) d (2 * b)))
  where
    shape : (x y : ℕ) → 2 * x * (2 * y) ≡ 2 * (2 * (x * y))
    shape x y = simp (mul_assoc, mul_left_comm)

    turn : (x y : ℕ) → x * (2 * y) ≡ y * (2 * x)
    turn x y = simp (mul_comm, mul_left_comm)

pub half-whole : (a : ℕ) → half_away a 1 ≡ a
half-whole a = omega arith

-- over an even number 2 * w
pub half-even : (a w : ℕ) → 0 < w → half_away a (2 * w) ≡ (a / w + 1) / 2
half-even a w W =
    div_same (2 * a + 2 * w) (2 * (2 * w)) (a + w) (w * 2) (mul-pos (zero-lt-suc 1) (mul-pos (zero-lt-suc 1) W)) (mul-pos W (zero-lt-suc 1)) (cross a w)
    ∙ sym (div-div-eq-div-mul (a + w) w 2)
    ∙ ap (λ (n : ℕ). n / 2) (add-div_right a W)
  where
    cross : (a w : ℕ) → (2 * a + 2 * w) * (w * 2) ≡ (a + w) * (2 * (2 * w))
    cross a w = ap (λ (n : ℕ). n * (w * 2)) (sym (mul-add 2 a w)) ∙ simp (mul_comm, mul_left_comm, mul_assoc)
