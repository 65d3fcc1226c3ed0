-- A float that binary64 holds is a whole number of units of 2 ^ -1074, there is one such number, and the order of such floats is that of the numbers. Assumes nothing.
use Rattle.std.proofs.Common.{◌≡◌, ℕ, ◌*◌, ◌/◌, ◌^◌, ◌<◌, ◌≤◌, Bool, true, false, not, T, ℤ, sym, refl, ap, ◌∙◌, subst, mul-le-mul_right, lt_of_not-le}
use Rattle.std.proofs.Common.{not-le_of_lt, le_of_mul-le-mul_right, mul-div_cancel, pow_pos, ltb-false, ltb-true}
use lib.Ieee.{Float, nan, inf, fin, binary64, up, down, fits, neg, lt, le}
use lib.Ieee.Fits.{down_pos}
use lib.Ieee.Order.{transfer, le_of_values}
use lib.Ieee.Scale.{finite}
use Rattle.patterns.specs.Bits.{sign_bit, magnitude}
use Rattle.patterns.proofs.Order.{fractions-of-le}
use Rattle.patterns.proofs.Value.{parts-value}
use Rattle.patterns.specs.Units.{Has, units_of}

-- what is shown of finite values with a sign and so many units holds of x, which is one
pub as-fin : (x : Float) (s : Bool) (n : ℕ) (P : Float → Type 0) → Has x s n → ((m : ℕ) (e : ℤ) → m * up e * 2 ^ 1074 ≡ n * down e → P (fin s m e)) → P x
as-fin nan s n P h f = absurd h
as-fin (inf t) s n P h f = absurd h
as-fin (fin t m e) s n P h f = subst (λ (z : Bool). P (fin z m e)) (sym h.0) (f m e h.1)

-- and of two such values
module _ (x y : Float) (s t : Bool) (X Y : ℕ) (h : Has x s X) (k : Has y t Y) where
  pub both-fin : (P : Float → Float → Type 0)
      → ((m n : ℕ) (e d : ℤ) → m * up e * 2 ^ 1074 ≡ X * down e → n * up d * 2 ^ 1074 ≡ Y * down d → P (fin s m e) (fin t n d)) → P x y
  both-fin P f = as-fin x s X (λ x. P x y) h (λ m e p. as-fin y t Y (λ y. P (fin s m e) y) k (λ n d q. f m n e d p q))

-- there is one such number
pub units-is : (x : Float) (s : Bool) (n : ℕ) → Has x s n → units_of x ≡ n
unfolding units_of
units-is x s n h = as-fin x s n (λ x. units_of x ≡ n) h (λ m e k. ap (λ (z : ℕ). z / down e) k ∙ mul-div_cancel n (down_pos e))

pub units-exact : (x : Float) → T (fits binary64 x) → T (finite x) → Has x (sign_bit x) (units_of x)
units-exact x f t =
    let v = (parts-value x f t).value in
    subst (Has x (sign_bit x)) (sym (units-is x (sign_bit x) _ v)) v

pub has-finite : (x : Float) (s : Bool) (n : ℕ) → Has x s n → T (finite x)
has-finite x s n h = as-fin x s n (λ x. T (finite x)) h (λ m e k. tt)

pub has-sign : (x : Float) (s : Bool) (n : ℕ) → Has x s n → sign_bit x ≡ s
has-sign x s n h = as-fin x s n (λ x. sign_bit x ≡ s) h (λ m e k. refl)

pub magnitude-has : (x : Float) (s : Bool) (n : ℕ) → Has x s n → Has (magnitude x) false n
magnitude-has x s n h = as-fin x s n (λ x. Has (magnitude x) false n) h (λ m e k. (refl, k))

pub neg-has : (x : Float) (s : Bool) (n : ℕ) → Has x s n → Has (neg x) (not s) n
unfolding neg
neg-has x s n h = as-fin x s n (λ x. Has (neg x) (not s) n) h (λ m e k. (refl, k))

-- ---- the order of two values whose sign bits are clear

module _ (m n : ℕ) (e d : ℤ) (X Y : ℕ) (h : m * up e * 2 ^ 1074 ≡ X * down e) (k : n * up d * 2 ^ 1074 ≡ Y * down d) where
  fractions : X ≤ Y → m * up e * down d ≤ n * up d * down e
  fractions l = transfer (m * up e) (n * up d) (down e) (down d) X Y (2 ^ 1074) (2 ^ 1074) (pow_pos 1074) (pow_pos 1074) h k (mul-le-mul_right (2 ^ 1074) l)

  numbers : m * up e * down d ≤ n * up d * down e → X ≤ Y
  numbers l =
      le_of_mul-le-mul_right
      (transfer X Y (2 ^ 1074) (2 ^ 1074) (m * up e) (n * up d) (down e) (down d) (down_pos e) (down_pos d) (sym h) (sym k) l) (pow_pos 1074)

module _ (x y : Float) (X Y : ℕ) (h : Has x false X) (k : Has y false Y) where
  pub units-of-lt : lt x y ≡ true → X < Y
  unfolding lt
  units-of-lt =
      both-fin x y false false X Y h k (λ x y. lt x y ≡ true → X < Y)
      (λ m n e d p q t. lt_of_not-le (λ (g : Y ≤ X). not-le_of_lt (ltb-true _ _ t) (fractions n m d e Y X q p g)))

  pub units-of-not-lt : lt x y ≡ false → Y ≤ X
  unfolding lt
  units-of-not-lt = both-fin x y false false X Y h k (λ x y. lt x y ≡ false → Y ≤ X) (λ m n e d p q t. numbers n m d e Y X q p (ltb-false _ _ t))

  pub units-of-le : T (le x y) → X ≤ Y
  units-of-le = both-fin x y false false X Y h k (λ x y. T (le x y) → X ≤ Y) (λ m n e d p q t. numbers m n e d X Y p q (fractions-of-le m n e d t))

  pub le-of-units : X ≤ Y → T (le x y)
  le-of-units l = le_of_values x y X (2 ^ 1074) Y (2 ^ 1074) (pow_pos 1074) (pow_pos 1074) h k (mul-le-mul_right (2 ^ 1074) l)
