-- A finite value is told by its sign and its number of units of 2 ^ -1074, which its parts give. Assumes nothing.
use Rattle.std.proofs.Common.{◌≡◌, ℕ, zero, suc, ◌+◌, ◌-◌, ◌*◌, ◌/◌, ◌%◌, ◌^◌, ◌<◌, Bool, true, false, cond, T, eqb, sym, refl, ap, ◌∙◌, subst, mod-lt}
use Rattle.std.proofs.Common.{mul-div_cancel, arith, pow_pos}
use lib.Dec.{eqb-suc-zero}
use lib.Ieee.{Float, nan, inf, fin, binary64, odd, of_fields, of_bits, to_bits, fits, size, up, down}
use lib.Ieee.Bits.{of_bits-to_bits}
use lib.Ieee.Exact.{HasValue, odd_sign}
use lib.Ieee.Fits.{down_pos}
use lib.Ieee.Scale.{finite}
use Rattle.patterns.specs.Bits.{magnitude, sign_bit, digits, place}
use Rattle.patterns.proofs.Pattern.{Placed, packed, unsigned}
use Rattle.patterns.proofs.Sign.{magnitude-of}

-- ---- sign and units tell a value
pattern-is : (x : Float) (s : Bool) (a : ℕ) → HasValue x s a (2 ^ 1074) → to_bits binary64 x ≡ cond s (2 ^ 63) 0 + (size a - 53) * 2 ^ 52 + a / 2 ^ (size a - 53)
unfolding to_bits
pattern-is nan s a v = absurd v
pattern-is (inf t) s a v = absurd v
pattern-is (fin t m e) s a v =
    let n = m * up e * 2 ^ 1074 / down e in
    let i : n ≡ a = ap (λ (y : ℕ). y / down e) v.1 ∙ mul-div_cancel a (down_pos e) in
    ap (λ (z : ℕ). cond t (2 ^ 63) 0 + (size z - 53) * 2 ^ 52 + z / 2 ^ (size z - 53)) i
    ∙ ap (λ (z : Bool). cond z (2 ^ 63) 0 + (size a - 53) * 2 ^ 52 + a / 2 ^ (size a - 53)) v.0

-- one pattern, one value: NaN too, of which the format holds one
pub same_bits : (x y : Float) → T (fits binary64 x) → T (fits binary64 y) → to_bits binary64 x ≡ to_bits binary64 y → x ≡ y
same_bits x y f g h = sym (of_bits-to_bits binary64 x f) ∙ ap (of_bits binary64) h ∙ of_bits-to_bits binary64 y g

pub same-value : (x y : Float) (s : Bool) (a : ℕ) → T (fits binary64 x) → T (fits binary64 y) → HasValue x s a (2 ^ 1074) → HasValue y s a (2 ^ 1074) → x ≡ y
same-value x y s a f g v w = same_bits x y f g (pattern-is x s a v ∙ sym (pattern-is y s a w))

-- ---- the parts of a finite value
finite-magnitude : (x : Float) → T (finite x) → T (finite (magnitude x))
finite-magnitude nan t = t
finite-magnitude (inf s) t = t
finite-magnitude (fin s m e) t = tt

of-magnitude : (x : Float) (a c : ℕ) → HasValue (magnitude x) false a c → HasValue x (sign_bit x) a c
of-magnitude nan a c v = v
of-magnitude (inf s) a c v = v
of-magnitude (fin s m e) a c v = (refl, v.1)

at_top : (t : ℕ) → T (finite (of_fields binary64 false 2047 t)) → ⊥
unfolding of_fields
at_top t u = go (eqb t 0) u
  where
    go : (b : Bool) → T (finite (cond b (inf false) nan)) → ⊥
    go true u = u
    go false u = u

-- a finite value's field is not all ones
pub field_lt : (x : Float) → T (fits binary64 x) → T (finite x) → to_bits binary64 x % 2 ^ 63 / 2 ^ 52 < 2047
field_lt x f t =
    let b = to_bits binary64 x % 2 ^ 63 in
    let l : b < 2 ^ 63 = mod-lt (to_bits binary64 x) (pow_pos 63) in
    let n : b / 2 ^ 52 ≡ 2047 → ⊥ =
    λ (e : b / 2 ^ 52 ≡ 2047). at_top (b % 2 ^ 52)
    (subst (λ (y : Float). T (finite y)) (sym (magnitude-of x f) ∙ unsigned b l ∙ ap (λ (z : ℕ). of_fields binary64 false z (b % 2 ^ 52)) e) (finite-magnitude x t)) in
    omega arith

-- q and k are the parts of the pattern b
pub record Taken (b q k : ℕ) : Type 0 where
  pub placed : Placed q k
  pub pattern : b % 2 ^ 63 ≡ k * 2 ^ 52 + q

pub taken : (b : ℕ) → b % 2 ^ 63 / 2 ^ 52 < 2047 → Taken b (digits b) (place b)
taken b h = go (b % 2 ^ 63 / 2 ^ 52) refl
  where
    go : (x : ℕ) → b % 2 ^ 63 / 2 ^ 52 ≡ x → Taken b (cond (eqb x 0) (b % 2 ^ 52) (b % 2 ^ 52 + 2 ^ 52)) (x - 1)
    go zero e = record { placed = record { small = omega arith; lead = λ z. omega arith; under = omega arith }; pattern = omega arith }
    go (suc x) e = simp (eqb-suc-zero) (record { placed = record { small = omega arith; lead = λ z. omega arith; under = omega arith }; pattern = omega arith })

-- x is q * 2 ^ k units in size
pub record HasParts (x : Float) (q k : ℕ) : Type 0 where
  pub placed : Placed q k
  pub value : HasValue x (sign_bit x) (q * 2 ^ k) (2 ^ 1074)

pub parts-value : (x : Float) → T (fits binary64 x) → T (finite x) → HasParts x (digits (to_bits binary64 x)) (place (to_bits binary64 x))
parts-value x f t =
    let b = to_bits binary64 x in
    let p = taken b (field_lt x f t) in
    let e : magnitude x ≡ odd 53 false (digits b) (place b) 1074 = sym (magnitude-of x f) ∙ ap (of_bits binary64) p.pattern ∙ packed (digits b) (place b) p.placed in
    record {
      placed = p.placed;
      value = of-magnitude x (digits b * 2 ^ place b) (2 ^ 1074)
          (subst (λ (y : Float). HasValue y false (digits b * 2 ^ place b) (2 ^ 1074)) (sym e) (odd_sign 53 false (digits b) (place b) 1074));
    }
