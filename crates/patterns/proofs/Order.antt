-- Finite values whose sign bit is clear: their order is that of their fractions, it goes through a third, and a product does not fall as a factor grows.
-- Assumes nothing.
use Rattle.std.proofs.Common.{◌≡◌, ℕ, ◌*◌, ◌<◌, ◌≤◌, Bool, true, false, ◌&&◌, ◌||◌, T, eqb, ltb, ℤ, refl, le_trans, le_of_eq, le_of_lt, mul-le-mul_right, mul-pos, eqb→eq, ltb→lt}
use native.Mathlib.Nat.{mul-mul-mul_comm}
use lib.Ieee.{fin, binary64, up, down, mul, le}
use lib.Ieee.Fits.{down_pos}
use lib.Ieee.Order.{le_of_values, round_mono}
use lib.Ieee.Positive.{through}
use Rattle.patterns.specs.Operators.{◌⊗◌}

below-or-level : (a b : ℕ) (c : Bool) → T (ltb a b || (eqb a b && c)) → a ≤ b
below-or-level a b c = go (ltb a b) (eqb a b) (ltb→lt a b) (eqb→eq a b)
  where
    go : (x y : Bool) → (T x → a < b) → (T y → a ≡ b) → T (x || (y && c)) → a ≤ b
    go true y f g t = le_of_lt (f tt)
    go false true f g t = le_of_eq (g tt)
    go false false f g t = absurd t

module _ (m n : ℕ) (e d : ℤ) where
  pub fractions-of-le : T (le (fin false m e) (fin false n d)) → m * up e * down d ≤ n * up d * down e
  unfolding le
  fractions-of-le t = below-or-level (m * up e * down d) (n * up d * down e) true t

  pub le-of-fractions : m * up e * down d ≤ n * up d * down e → T (le (fin false m e) (fin false n d))
  le-of-fractions h =
      le_of_values (fin false m e) (fin false n d) (m * up e) (down e) (n * up d) (down d) (down_pos e) (down_pos d) (refl, refl) (refl, refl) h

  pub product-mono : (k : ℕ) (c : ℤ) → T (le (fin false m e) (fin false n d)) → T (le (fin false m e ⊗ fin false k c) (fin false n d ⊗ fin false k c))
  unfolding mul
  product-mono k c t =
      round_mono binary64 (m * up e * (k * up c)) (down e * down c) (n * up d * (k * up c)) (down d * down c)
      (mul-pos (down_pos e) (down_pos c)) (mul-pos (down_pos d) (down_pos c))
      (le_trans (le_of_eq (mul-mul-mul_comm (m * up e) (k * up c) (down d) (down c)))
      (le_trans (mul-le-mul_right (k * up c * down c) (fractions-of-le t)) (le_of_eq (mul-mul-mul_comm (n * up d) (down e) (k * up c) (down c)))))

pub le-through : (m n k : ℕ) (e d c : ℤ) → T (le (fin false m e) (fin false n d)) → T (le (fin false n d) (fin false k c)) → T (le (fin false m e) (fin false k c))
le-through m n k e d c t u =
    le-of-fractions m k e c (through (m * up e) (n * up d) (k * up c) (down e) (down d) (down c) (down_pos d) (fractions-of-le m n e d t) (fractions-of-le n k d c u))
