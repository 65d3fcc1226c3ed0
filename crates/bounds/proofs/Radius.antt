-- What a radius is worth: of two distances the one under the larger radius is no smaller, and their exact difference is that of the exact products but for two
-- roundings. A product up to 2 ^ (k + 2) is rounded by at most 2 ^ (k - 52); at 2 ^ (k + 2) itself it is exact. Assumes nothing.
use mathlib.Core.Path.{◌≡◌, refl, sym, ap, ◌∙◌}
use mathlib.Core.Logic.{inl, inr}
use Prim.Native.Nat.{ℕ, suc, ◌+◌, ◌-◌, ◌*◌, ◌^◌, ◌≤◌, ◌<◌, zero-le}
use native.Mathlib.Nat.{le_trans, le_of_eq, lt_of_le_of_lt, eq-or-lt_of_le, one-mul, zero-mul, mul_comm, mul_assoc, mul-add}
use native.Mathlib.Nat.{add-mul, mul-le-mul, mul-le-mul_left, mul-le-mul_right, pow-suc}
use native.Mathlib.Omega.{arith}
use mathlib.Core.Bool.{Bool, true, false}
use lib.Dec.{lit<, lit≤}
use lib.Pow.{pow_pos, pow-add, pow-lt}
use lib.Ieee.{Float, binary64, unlike}
use lib.Ieee.Fits.{mul-fits}
use Rattle.patterns.specs.Bits.{sign_bit}
use Rattle.patterns.specs.Operators.{◌⊗◌}
use Rattle.patterns.specs.Units.{Has, Near, units_of}
use Rattle.bounds.specs.Radius.{Between, Worth, WorthUpTo, RadiusMono, RadiusWorth}
use Rattle.patterns.proofs.Near.{near-refl, near-at, near-cancel}
use Rattle.patterns.proofs.Rounded.{rounded, rounded-below, rounded-exact, rounded-le, rounded-mono}
use Rattle.patterns.proofs.Units.{units-exact, units-is, has-finite, has-sign}
use Rattle.patterns.proofs.Operations.{rounds-has, mul-rounds}

-- ---- the difference of two products, each but for one rounding

-- a product up to 2 ^ (54 + j) units, of which p make one: at that end it is exact, below it at most half a unit of 53 digits is lost
product-near : (n p j : ℕ) → 0 < p → n ≤ 2 ^ (53 + suc j) * p → Near (rounded n p * p) n (p * 2 ^ j)
product-near n p j P h = elim (eq-or-lt_of_le h) [
  | inl e ↦
      let q = 2 ^ (53 + suc j) in
      let f : n ≡ 1 * q * p = e ∙ ap (λ (x : ℕ). x * p) (sym (one-mul q)) in
      let i : rounded n p ≡ q = ap (λ (x : ℕ). rounded x p) f ∙ rounded-exact 1 (53 + suc j) p P (lit< tt) ∙ one-mul q in
      near-at (e ∙ ap (λ (x : ℕ). x * p) (sym i)) refl refl (near-refl n (p * 2 ^ j))
  | inr l ↦
      near-cancel 2 (pow_pos 1)
      (near-at (mul_comm 2 (rounded n p * p)) (mul_comm 2 n) (ap (λ (x : ℕ). p * x) (pow-suc 2 j) ∙ sym (mul_assoc p (2 ^ j) 2)) (rounded-below n p (suc j) P l))
]

difference : (a r s d e p h : ℕ) → r ≤ s → d ≤ e → Near (d * p) (a * r) h → Near (e * p) (a * s) h → Near ((e - d) * p) (a * (s - r)) (h + h)
difference a r s d e p h R D m n =
    let x : a * s ≡ a * r + a * (s - r) = ap (λ (z : ℕ). a * z) (add_back r s R) ∙ mul-add a r (s - r) in
    let y : e * p ≡ d * p + (e - d) * p = ap (λ (z : ℕ). z * p) (add_back d e D) ∙ add-mul d (e - d) p in
    let m1 = m.low in
    let m2 = m.high in
    let n1 = n.low in
    let n2 = n.high in
    record { low = omega arith; high = omega arith }
  where
    add_back : (r s : ℕ) → r ≤ s → s ≡ r + (s - r)
    add_back r s h = omega arith

-- ---- over the floats' units

has-between : {lo hi : ℕ} {x : Float} → Between lo hi x → Has x (sign_bit x) (units_of x)
has-between {x = x} f = units-exact x f.held f.is_finite

-- the greatest product in units, of one, of its radius and of what is handed out
module _ (k : ℕ) where
  abbrev most : ℕ
  most = 53 + suc (1022 + k)

  most-product : 4 * 2 ^ 1074 * (2 ^ k * 2 ^ 1074) ≡ 2 ^ most * 2 ^ 1074
  most-product =
      sym (mul_assoc (2 ^ 1076) (2 ^ k) (2 ^ 1074)) ∙ ap (λ (x : ℕ). x * 2 ^ 1074) (sym (pow-add 2 1076 k) ∙ ap (λ (x : ℕ). 2 ^ x) (is k))
    where
      is : (k : ℕ) → 1076 + k ≡ 53 + suc (1022 + k)
      is k = omega arith

  most-units : 2 ^ most ≡ 2 ^ (k + 2) * 2 ^ 1074
  most-units = ap (λ (x : ℕ). 2 ^ x) (is k) ∙ pow-add 2 (k + 2) 1074
    where
      is : (k : ℕ) → 53 + suc (1022 + k) ≡ k + 2 + 1074
      is k = omega arith

  twice_half : k ≤ 51 → 2 ^ 1074 * 2 ^ (1022 + k) + 2 ^ 1074 * 2 ^ (1022 + k) ≡ 2 ^ (2148 - (51 - k))
  twice_half h =
      ap (λ (x : ℕ). x + x) (sym (pow-add 2 1074 (1022 + k))) ∙ double (2 ^ (1074 + (1022 + k))) ∙ sym (pow-suc 2 (1074 + (1022 + k))) ∙ ap (λ (x : ℕ). 2 ^ x) (is k h)
    where
      double : (x : ℕ) → x + x ≡ x * 2
      double x = omega arith

      is : (k : ℕ) → k ≤ 51 → suc (1074 + (1022 + k)) ≡ 2148 - (51 - k)
      is k h = omega arith

  fine : k ≤ 51 → 2 ^ most < 2 ^ 2098
  fine h = pow-lt (under k h)
    where
      under : (k : ℕ) → k ≤ 51 → 53 + suc (1022 + k) < 2098
      under k h = omega arith

-- an angle and a radius, and their product
module _ (k : ℕ) (k-le : k ≤ 51) (a r : Float) (fa : Between 0 4 a) (fr : Between 1 (2 ^ k) r) where
  abbrev pub product : ℕ
  product = rounded (units_of a * units_of r) (2 ^ 1074)

  up_to : units_of a * units_of r ≤ 2 ^ most k * 2 ^ 1074
  up_to = le_trans (mul-le-mul fa.high fr.high) (le_of_eq (most-product k))

  pub near : Near (product * 2 ^ 1074) (units_of a * units_of r) (2 ^ 1074 * 2 ^ (1022 + k))
  near = product-near (units_of a * units_of r) (2 ^ 1074) (1022 + k) (pow_pos 1074) up_to

  product_le : product ≤ 2 ^ most k
  product_le = rounded-le (units_of a * units_of r) (2 ^ 1074) (most k) (pow_pos 1074) up_to

  has-product : Has (a ⊗ r) (unlike (sign_bit a) (sign_bit r)) product
  has-product =
      rounds-has (a ⊗ r) _ _ _ (pow_pos 1074) (mul-rounds a r (sign_bit a) (sign_bit r) (units_of a) (units_of r) (has-between fa) (has-between fr))
      (lt_of_le_of_lt product_le (fine k k-le))

  pub units-product : units_of (a ⊗ r) ≡ product
  units-product = units-is (a ⊗ r) _ product has-product

  -- a radius is above zero, so a product below zero comes of an angle that is -0.0
  radius-sign : (s : Bool) → sign_bit r ≡ s → sign_bit r ≡ false
  radius-sign true e = absurd (nothing (units_of r) (2 ^ 1074) (pow_pos 1074) fr.low (fr.not_below e))
    where
      nothing : (n p : ℕ) → 0 < p → 1 * p ≤ n → n ≡ 0 → ⊥
      nothing n p P h e = omega arith
  radius-sign false e = e

  angle-sign : sign_bit (a ⊗ r) ≡ unlike (sign_bit a) false
  angle-sign = has-sign (a ⊗ r) _ product has-product ∙ ap (unlike (sign_bit a)) (radius-sign (sign_bit r) refl)

  zero-product : sign_bit (a ⊗ r) ≡ true → units_of (a ⊗ r) ≡ 0
  zero-product e =
      units-product ∙ ap (λ (z : ℕ). rounded (z * units_of r) (2 ^ 1074)) (fa.not_below (kept (sign_bit a) (sym angle-sign ∙ e)))
      ∙ ap (λ (z : ℕ). rounded z (2 ^ 1074)) (zero-mul (units_of r)) ∙ rounded-exact 0 0 (2 ^ 1074) (pow_pos 1074) (lit< tt)
    where
      kept : (s : Bool) → unlike s false ≡ true → s ≡ true
      kept true z = refl
      kept false z = z

  pub from-product : Between 0 (2 ^ (k + 2)) (a ⊗ r)
  from-product = record {
    held = mul-fits binary64 a r;
    is_finite = has-finite (a ⊗ r) _ product has-product;
    not_below = zero-product;
    low = le_trans (le_of_eq (zero-mul (2 ^ 1074))) zero-le;
    high = le_trans (le_of_eq units-product) (le_trans product_le (le_of_eq (most-units k)));
  }

pub worth-up-to : WorthUpTo
worth-up-to k k-le a r s fa w = (record { first = from-product k k-le a r fa w.first; second = from-product k k-le a s fa w.second; rising = rises }, close)
  where
    in_order : product k k-le a r fa w.first ≤ product k k-le a s fa w.second
    in_order =
        rounded-mono (units_of a * units_of r) (2 ^ 1074) (units_of a * units_of s) (2 ^ 1074) (pow_pos 1074) (pow_pos 1074)
        (mul-le-mul_right (2 ^ 1074) (mul-le-mul_left (units_of a) w.rising))

    r-is : units_of (a ⊗ r) ≡ product k k-le a r fa w.first
    r-is = units-product k k-le a r fa w.first

    s-is : units_of (a ⊗ s) ≡ product k k-le a s fa w.second
    s-is = units-product k k-le a s fa w.second

    rises : units_of (a ⊗ r) ≤ units_of (a ⊗ s)
    rises = rw (r-is, s-is) in_order

    close : Worth (51 - k) a r s (a ⊗ r) (a ⊗ s)
    close =
        rw (r-is, s-is)
        (near-at refl refl (twice_half k k-le)
        (difference (units_of a) (units_of r) (units_of s) _ _ (2 ^ 1074) (2 ^ 1074 * 2 ^ (1022 + k)) w.rising in_order
        (near k k-le a r fa w.first) (near k k-le a s fa w.second)))

pub radius-mono : RadiusMono
radius-mono a r s fa w = (worth-up-to 30 (lit≤ tt) a r s fa w).0

pub radius-worth : RadiusWorth
radius-worth a r s fa w = (worth-up-to 30 (lit≤ tt) a r s fa w).1
