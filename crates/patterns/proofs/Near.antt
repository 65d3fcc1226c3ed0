-- How `Near` goes through wider bounds, common factors and equal numbers. Assumes nothing.
use Rattle.std.proofs.Common.{◌≡◌, ℕ, ◌*◌, ◌<◌, ◌≤◌, sym, subst, le_trans, le_of_eq, add-mul, le_of_mul-le-mul_right, arith}
use Rattle.patterns.specs.Units.{Near}

pub near-refl : (x e : ℕ) → Near x x e
near-refl x e = record { low = omega arith; high = omega arith }

pub near-more : {x y e d : ℕ} → e ≤ d → Near x y e → Near x y d
near-more h n = let a = n.low in let b = n.high in record { low = omega arith; high = omega arith }

pub near-cancel : {x y e : ℕ} (p : ℕ) → 0 < p → Near (x * p) (y * p) (e * p) → Near x y e
near-cancel {x} {y} {e} p P n =
    record {
      low = le_of_mul-le-mul_right (le_trans n.low (le_of_eq (sym (add-mul y e p)))) P;
      high = le_of_mul-le-mul_right (le_trans n.high (le_of_eq (sym (add-mul x e p)))) P;
    }

pub near-at : {x y e x' y' e' : ℕ} → x ≡ x' → y ≡ y' → e ≡ e' → Near x y e → Near x' y' e'
near-at {x} {y} {e} {x'} {y'} {e'} p q r n =
    subst (λ (z : ℕ). Near z y' e') p (subst (λ (z : ℕ). Near x z e') q (subst (λ (z : ℕ). Near x y z) r n))
