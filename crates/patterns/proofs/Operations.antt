-- Product, sum, difference and quotient of binary64 in units of 2 ^ -1074: each is `rounded` of the exact fraction, subnormal operands and results included.
-- Assumes nothing.
use Rattle.std.proofs.Common.{◌≡◌, ℕ, zero, suc, ◌+◌, ◌-◌, ◌*◌, ◌^◌, ◌<◌, ◌≤◌, Bool, true, false, T, ℤ, sym, refl, ap, ◌∙◌, subst, le_trans, le_of_eq}
use Rattle.std.proofs.Common.{lt_of_lt_of_le, lt_of_le_of_lt, lt_irrefl, mul-le-mul_right, zero-lt-suc, mul_assoc, mul_comm, add-mul, lt_of_mul-lt-mul_right}
use Rattle.std.proofs.Common.{mul-lt-mul_of_pos_right, mul-pos, zero-mul, mul-one, mul_right_comm, le_of_mul-le-mul_right, lit≤, pow_pos, shl_lt, le-ltb}
use Rattle.std.proofs.Common.{lt-ltb}
use native.Mathlib.Nat.{mul-mul-mul_comm}
use native.Mathlib.Nat.{mul-sub}
use lib.Dec.{eqb-suc-zero}
use lib.Ieee.{Float, fin, binary64, unlike, up, down, units, round, sum, add, mul, div, of_int}
use lib.Ieee.Fits.{round_is, up_pos, down_pos}
use lib.Ieee.Exact.{units_val}
use lib.Ieee.Order.{drop, kept}
use lib.Ieee.Scale.{finite, round_under}
use Rattle.patterns.specs.Operators.{◌⊕◌, ◌⊗◌, ◌⊘◌, whole}
use Rattle.patterns.specs.Units.{Has}
use Rattle.patterns.proofs.Units.{both-fin}
use Rattle.patterns.proofs.Rounded.{rounded, rounded-is, rounded-same, rounded-exact}

-- z is the fraction n / d of units, rounded, with the sign s
pub record Rounds (z : Float) (s : Bool) (n d : ℕ) : Type 0 where
  pub num : ℕ
  pub den : ℕ
  pub is : z ≡ round binary64 s num den
  pub den_pos : 0 < den
  pub fraction : num * 2 ^ 1074 * d ≡ n * den

-- ---- its units, where it does not overflow

pub round-has : (s : Bool) (a c : ℕ) → rounded (a * 2 ^ 1074) c < 2 ^ 2098 → Has (round binary64 s a c) s (rounded (a * 2 ^ 1074) c)
round-has s a c h =
    let n = a * 2 ^ 1074 in
    let e = rounded-is n c in
    subst (λ (z : Float). Has z s (rounded n c)) (sym (round_is binary64 s a c))
    (subst (λ (z : ℕ). Has (units binary64 s (kept 53 n c) (drop 53 n c)) s z) (sym e)
    (units_val binary64 s (kept 53 n c) (drop 53 n c) (subst (λ (z : ℕ). z < 2 ^ 2098) e h)))

-- a whole number of at most 53 digits is a float as it is
pub whole_has : (n : ℕ) → n < 2 ^ 53 → Has (whole n) false (n * 2 ^ 1074)
unfolding of_int
whole_has n h =
    let e : rounded (n * 2 ^ 1074) 1 ≡ n * 2 ^ 1074 = ap (λ (z : ℕ). rounded z 1) (sym (mul-one (n * 2 ^ 1074))) ∙ rounded-exact n 1074 1 (pow_pos 0) h in
    subst (Has (round binary64 false n 1) false) e (round-has false n 1 (lt_of_le_of_lt (le_of_eq e) (lt_of_lt_of_le (shl_lt 53 1074 h) (lit≤ tt))))

module _ (z : Float) (s : Bool) (n d : ℕ) (d-pos : 0 < d) (r : Rounds z s n d) where
  same : rounded (r.num * 2 ^ 1074) r.den ≡ rounded n d
  same = rounded-same (r.num * 2 ^ 1074) r.den n d r.den_pos d-pos r.fraction

  pub rounds-has : rounded n d < 2 ^ 2098 → Has z s (rounded n d)
  rounds-has h =
      subst (λ (x : Float). Has x s (rounded n d)) (sym r.is)
      (subst (Has (round binary64 s r.num r.den) s) same (round-has s r.num r.den (subst (λ (x : ℕ). x < 2 ^ 2098) (sym same) h)))

-- a finite value has not overflowed
pub rounds-finite : (z : Float) (n d : ℕ) → 0 < d → Rounds z false n d → T (finite z) → Has z false (rounded n d)
rounds-finite z n d D r t =
    rounds-has z false n d D r
    (subst (λ (x : ℕ). x < 2 ^ 2098) (sym (rounded-is (r.num * 2 ^ 1074) r.den) ∙ same z false n d D r)
    (round_under binary64 r.num r.den (subst (λ (x : Float). T (finite x)) r.is t)))

-- ---- the product

product : (a b x y u v p : ℕ) → a * p ≡ x * u → b * p ≡ y * v → a * b * p * p ≡ x * y * (u * v)
product a b x y u v p e f =
    mul_assoc (a * b) p p ∙ mul-mul-mul_comm a b p p ∙ ap (λ (z : ℕ). z * (b * p)) e ∙ ap (λ (z : ℕ). x * u * z) f ∙ mul-mul-mul_comm x u y v

pub mul-rounds : (x y : Float) (s t : Bool) (X Y : ℕ) → Has x s X → Has y t Y → Rounds (x ⊗ y) (unlike s t) (X * Y) (2 ^ 1074)
unfolding mul
mul-rounds x y s t X Y h k = both-fin x y s t X Y h k (λ x y. Rounds (x ⊗ y) (unlike s t) (X * Y) (2 ^ 1074)) (λ m n e d p q. record {
  num = m * up e * (n * up d);
  den = down e * down d;
  is = refl;
  den_pos = mul-pos (down_pos e) (down_pos d);
  fraction = product (m * up e) (n * up d) X Y (down e) (down d) (2 ^ 1074) p q;
})

-- ---- the sum

lessened : (a b x y c p : ℕ) → a * p ≡ x * c → b * p ≡ y * c → (a - b) * p * 1 ≡ (x - y) * c
lessened a b x y c p e f =
    mul-one _ ∙ mul_comm (a - b) p ∙ mul-sub p a b ∙ ap (λ (z : ℕ). z - p * b) (mul_comm p a ∙ e ∙ mul_comm x c)
    ∙ ap (λ (z : ℕ). c * x - z) (mul_comm p b ∙ f ∙ mul_comm y c) ∙ sym (mul_comm (x - y) c ∙ mul-sub c x y)

-- both terms over one denominator, each as many units as before
module _ (m n : ℕ) (e d : ℤ) (X Y : ℕ) (h : m * up e * 2 ^ 1074 ≡ X * down e) (k : n * up d * 2 ^ 1074 ≡ Y * down d) where
  abbrev first : ℕ
  first = m * up e * down d

  abbrev second : ℕ
  second = n * up d * down e

  abbrev common : ℕ
  common = down e * down d

  common-pos : 0 < common
  common-pos = mul-pos (down_pos e) (down_pos d)

  of-first : first * 2 ^ 1074 ≡ X * common
  of-first = mul_right_comm (m * up e) (down d) (2 ^ 1074) ∙ ap (λ (z : ℕ). z * down d) h ∙ mul_assoc X (down e) (down d)

  of-second : second * 2 ^ 1074 ≡ Y * common
  of-second =
      mul_right_comm (n * up d) (down e) (2 ^ 1074) ∙ ap (λ (z : ℕ). z * down e) k ∙ mul_assoc Y (down d) (down e) ∙ ap (λ (z : ℕ). Y * z) (mul_comm (down d) (down e))

  second-le : Y ≤ X → second ≤ first
  second-le l = le_of_mul-le-mul_right (le_trans (le_of_eq of-second) (le_trans (mul-le-mul_right common l) (le_of_eq (sym of-first)))) (pow_pos 1074)

  first-lt : X < Y → first < second
  first-lt l =
      lt_of_mul-lt-mul_right (2 ^ 1074) (lt_of_le_of_lt (le_of_eq of-first) (lt_of_lt_of_le (mul-lt-mul_of_pos_right l common-pos) (le_of_eq (sym of-second))))

  added : (first + second) * 2 ^ 1074 * 1 ≡ (X + Y) * common
  added =
      mul-one _ ∙ add-mul first second (2 ^ 1074) ∙ ap (λ (z : ℕ). z + second * 2 ^ 1074) of-first ∙ ap (λ (z : ℕ). X * common + z) of-second
      ∙ sym (add-mul X Y common)

  by-sign : (s : Bool) → sum binary64 s first s second common ≡ round binary64 s (first + second) common
  unfolding sum
  by-sign true = refl
  by-sign false = refl

  same_sign : (s : Bool) → Rounds (sum binary64 s first s second common) s (X + Y) 1
  same_sign s = record { num = first + second; den = common; is = by-sign s; den_pos = common-pos; fraction = added }

  greater-first : Y ≤ X → Rounds (sum binary64 false first true second common) false (X - Y) 1
  unfolding sum
  greater-first g = record {
    num = first - second;
    den = common;
    is = rw (le-ltb first second (second-le g));
    den_pos = common-pos;
    fraction = lessened first second X Y common (2 ^ 1074) of-first of-second;
  }

  greater-second : X < Y → Rounds (sum binary64 false first true second common) true (Y - X) 1
  unfolding sum
  greater-second g = record {
    num = second - first;
    den = common;
    is = rw (lt-ltb first second (first-lt g));
    den_pos = common-pos;
    fraction = lessened second first Y X common (2 ^ 1074) of-second of-first;
  }

pub add_rounds : (x y : Float) (s : Bool) (X Y : ℕ) → Has x s X → Has y s Y → Rounds (x ⊕ y) s (X + Y) 1
unfolding add
add_rounds x y s X Y h k = both-fin x y s s X Y h k (λ x y. Rounds (x ⊕ y) s (X + Y) 1) (λ m n e d p q. same_sign m n e d X Y p q s)

-- from a number its part: the sign stays clear
pub less-rounds : (x y : Float) (X Y : ℕ) → Has x false X → Has y true Y → Y ≤ X → Rounds (x ⊕ y) false (X - Y) 1
unfolding add
less-rounds x y X Y h k g = both-fin x y false true X Y h k (λ x y. Rounds (x ⊕ y) false (X - Y) 1) (λ m n e d p q. greater-first m n e d X Y p q g)

-- from a number a greater one: the sign is the greater one's
pub more-rounds : (x y : Float) (X Y : ℕ) → Has x false X → Has y true Y → X < Y → Rounds (x ⊕ y) true (Y - X) 1
unfolding add
more-rounds x y X Y h k g = both-fin x y false true X Y h k (λ x y. Rounds (x ⊕ y) true (Y - X) 1) (λ m n e d p q. greater-second m n e d X Y p q g)

-- ---- the quotient, by a divisor other than zero

quotient : (a b x y u v p : ℕ) → a * p ≡ x * u → b * p ≡ y * v → a * v * p * y ≡ x * p * (b * u)
quotient a b x y u v p e f =
    ap (λ (z : ℕ). z * y) (mul_right_comm a v p ∙ ap (λ (z : ℕ). z * v) e)
    ∙ mul_assoc (x * u) v y
    ∙ ap (λ (z : ℕ). x * u * z) (mul_comm v y ∙ sym f)
    ∙ mul-mul-mul_comm x u b p
    ∙ ap (λ (z : ℕ). x * b * z) (mul_comm u p)
    ∙ mul-mul-mul_comm x b p u

-- a finite value over one that is not zero
pub divided : (s t : Bool) (m n : ℕ) (e d : ℤ) → fin s m e ⊘ fin t (suc n) d ≡ round binary64 (unlike s t) (m * up e * down d) (suc n * up d * down e)
unfolding div
divided s t m n e d = rw (eqb-suc-zero n)

-- zero has no units
not-zero : (d : ℤ) (Y : ℕ) → 0 < Y → 0 * up d * 2 ^ 1074 ≡ Y * down d → ⊥
not-zero d Y P q =
    lt_irrefl 0 (subst (λ (k : ℕ). 0 < k) (sym q ∙ ap (λ (k : ℕ). k * 2 ^ 1074) (zero-mul (up d)) ∙ zero-mul (2 ^ 1074)) (mul-pos P (down_pos d)))

pub div-rounds : (x y : Float) (s t : Bool) (X Y : ℕ) → Has x s X → Has y t Y → 0 < Y → Rounds (x ⊘ y) (unlike s t) (X * 2 ^ 1074) Y
div-rounds x y s t X Y h k P = both-fin x y s t X Y h k (λ x y. Rounds (x ⊘ y) (unlike s t) (X * 2 ^ 1074) Y) over
  where
    over : (m n : ℕ) (e d : ℤ) → m * up e * 2 ^ 1074 ≡ X * down e → n * up d * 2 ^ 1074 ≡ Y * down d → Rounds (fin s m e ⊘ fin t n d) (unlike s t) (X * 2 ^ 1074) Y
    over m zero e d p q = absurd (not-zero d Y P q)
    over m (suc n) e d p q = record {
      num = m * up e * down d;
      den = suc n * up d * down e;
      is = divided s t m n e d;
      den_pos = mul-pos (mul-pos (zero-lt-suc n) (up_pos d)) (down_pos e);
      fraction = quotient (m * up e) (suc n * up d) X Y (down e) (down d) (2 ^ 1074) p q;
    }
