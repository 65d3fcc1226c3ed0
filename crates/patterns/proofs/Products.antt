-- A product of floats: the factors in either order, and a factor that compares equal to another that is not zero. Assumes nothing.
use Rattle.std.proofs.Common.{◌≡◌, ℕ, zero, suc, ◌*◌, ◌<◌, Bool, true, false, eqb, ℤ, sym, refl, ap, ◌∙◌, mul_comm, mul-pos, zero-mul, arith, eqb-true}
use native.Mathlib.Nat.{mul-mul-mul_comm}
use lib.Dec.{eqb-suc-zero}
use lib.Ieee.{Float, nan, inf, fin, binary64, up, down, unlike, mul, eq}
use lib.Ieee.Fits.{down_pos}
use lib.Ieee.Scale.{round_same}
use Rattle.patterns.specs.Operators.{◌⊗◌}
use Rattle.patterns.proofs.Held.{above_zero, both_hold}

-- ---- in either order

unlike-comm : (s t : Bool) → unlike s t ≡ unlike t s
unlike-comm true true = refl
unlike-comm true false = refl
unlike-comm false true = refl
unlike-comm false false = refl

pub product-comm : (x y : Float) → x ⊗ y ≡ y ⊗ x
unfolding mul
product-comm nan nan = refl
product-comm nan (inf t) = refl
product-comm nan (fin t n d) = refl
product-comm (inf s) nan = refl
product-comm (inf s) (inf t) = rw (unlike-comm s t)
product-comm (inf s) (fin t n d) = rw (unlike-comm s t)
product-comm (fin s m e) nan = refl
product-comm (fin s m e) (inf t) = rw (unlike-comm s t)
product-comm (fin s m e) (fin t n d) = rw (unlike-comm s t, mul_comm (m * up e) (n * up d), mul_comm (down e) (down d))

-- ---- of a factor that compares equal

-- a factor that is level with one that is not zero is not zero
level-above : (m n : ℕ) (e d : ℤ) → m * up e * down d ≡ suc n * up d * down e → eqb m 0 ≡ false
level-above zero n e d h =
    let p : 0 < suc n * up d * down e = mul-pos (above_zero n d) (down_pos e) in
    let z : 0 * up e * down d ≡ 0 = ap (λ (k : ℕ). k * down d) (zero-mul (up e)) ∙ zero-mul (down d) in
    absurd (never (suc n * up d * down e) p (sym h ∙ z))
  where
    never : (b : ℕ) → 0 < b → b ≡ 0 → ⊥
    never b p z = omega arith
level-above (suc m) n e d h = eqb-suc-zero m

pub product-of-equal : (s : Bool) (m n : ℕ) (e d : ℤ) (y : Float) → eq (fin s m e) (fin s (suc n) d) ≡ true → fin s m e ⊗ y ≡ fin s (suc n) d ⊗ y
unfolding mul eq
product-of-equal s m n e d nan h = refl
product-of-equal s m n e d (inf t) h =
    let l = eqb-true _ _ (both_hold (eqb (m * up e * down d) (suc n * up d * down e)) _ h).0 in
    rw (level-above m n e d l, eqb-suc-zero n)
product-of-equal s m n e d (fin t k c) h =
    let l = eqb-true _ _ (both_hold (eqb (m * up e * down d) (suc n * up d * down e)) _ h).0 in
    round_same binary64 (unlike s t) (m * up e * (k * up c)) (down e * down c) (suc n * up d * (k * up c)) (down d * down c)
    (mul-pos (down_pos e) (down_pos c)) (mul-pos (down_pos d) (down_pos c))
    (mul-mul-mul_comm (m * up e) (k * up c) (down d) (down c) ∙ ap (λ (z : ℕ). z * (k * up c * down c)) l
    ∙ sym (mul-mul-mul_comm (suc n * up d) (k * up c) (down e) (down c)))
