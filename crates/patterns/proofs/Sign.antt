-- The sign bit of a rounding, a square and a sum; and a value's sign bit and magnitude are read off its pattern. Assumes nothing.
use Rattle.std.proofs.Common.{◌≡◌, ℕ, zero, suc, ◌+◌, ◌*◌, ◌/◌, ◌%◌, ◌^◌, Bool, true, false, cond, not, T, eqb, ltb, leb, sym, refl, ap, ◌∙◌, subst, true≢false}
use Rattle.std.proofs.Common.{mod-lt, arith, pow_pos}
use lib.Ieee.{Float, nan, inf, fin, binary64, up, down, odd, units, round, sum, add, mul, of_fields, of_bits, to_bits, fits, is_nan, nan_bits}
use lib.Ieee.Bits.{of_bits-to_bits, nan_bits_is}
use lib.Ieee.Fits.{round_is}
use Rattle.patterns.specs.Bits.{magnitude, sign_bit}
use Rattle.patterns.specs.Operators.{◌⊕◌, ◌⊗◌}
use Rattle.patterns.proofs.Pattern.{fields, unsigned}

odd-sign-bit : (d : ℕ) (s : Bool) (q k : ℕ) → sign_bit (odd d s q k 1074) ≡ s
unfolding odd
odd-sign-bit d s zero k = refl
odd-sign-bit d s (suc q) k = refl

pub units-sign : (s : Bool) (q k : ℕ) → sign_bit (units binary64 s q k) ≡ s
unfolding units
units-sign s q k = go (ltb (q * 2 ^ k) (2 ^ 2098))
  where
    go : (t : Bool) → sign_bit (cond t (odd 54 s q k 1074) (inf s)) ≡ s
    go true = odd-sign-bit 54 s q k
    go false = refl

-- a rounding keeps the sign that it is given
pub round-sign : (s : Bool) (a b : ℕ) → sign_bit (round binary64 s a b) ≡ s
round-sign s a b = ap sign_bit (round_is binary64 s a b) ∙ units-sign s _ _

-- a square's sign bit is clear, and a sum's where both terms' are
pub square-sign : (x : Float) → sign_bit (x ⊗ x) ≡ false
unfolding mul
square-sign nan = refl
square-sign (inf true) = refl
square-sign (inf false) = refl
square-sign (fin true m e) = round-sign false (m * up e * (m * up e)) (down e * down e)
square-sign (fin false m e) = round-sign false (m * up e * (m * up e)) (down e * down e)

pub sum-sign : (x y : Float) → sign_bit x ≡ false → sign_bit y ≡ false → sign_bit (x ⊕ y) ≡ false
unfolding add sum
sum-sign nan y h k = refl
sum-sign (inf true) y h k = absurd (true≢false h)
sum-sign (inf false) nan h k = refl
sum-sign (inf false) (inf true) h k = absurd (true≢false k)
sum-sign (inf false) (inf false) h k = refl
sum-sign (inf false) (fin t n d) h k = refl
sum-sign (fin s m e) nan h k = refl
sum-sign (fin s m e) (inf t) h k = k
sum-sign (fin true m e) (fin t n d) h k = absurd (true≢false h)
sum-sign (fin false m e) (fin true n d) h k = absurd (true≢false k)
sum-sign (fin false m e) (fin false n d) h k = round-sign false (m * up e * down d + n * up d * down e) (down e * down d)

odd-magnitude : (s : Bool) (q k : ℕ) → magnitude (odd 53 s q k 1074) ≡ odd 53 false q k 1074
unfolding odd
odd-magnitude s zero k = refl
odd-magnitude s (suc q) k = refl

fields-sign : (s : Bool) (x t : ℕ) → T (not (is_nan (of_fields binary64 s x t))) → sign_bit (of_fields binary64 s x t) ≡ s
unfolding of_fields is_nan
fields-sign s zero t n = odd-sign-bit 53 s t 0
fields-sign s (suc x) t n = go (eqb (suc x) 2047) (eqb t 0) n
  where
    go : (a b : Bool) → T (not (is_nan (cond a (cond b (inf s) nan) (odd 53 s (2 ^ 52 + t) x 1074)))) → sign_bit (cond a (cond b (inf s) nan) (odd 53 s (2 ^ 52 + t) x 1074)) ≡ s
    go true true n = refl
    go true false n = absurd n
    go false b n = odd-sign-bit 53 s (2 ^ 52 + t) x

fields-magnitude : (s : Bool) (x t : ℕ) → magnitude (of_fields binary64 s x t) ≡ of_fields binary64 false x t
unfolding of_fields
fields-magnitude s zero t = odd-magnitude s t 0
fields-magnitude s (suc x) t = go (eqb (suc x) 2047) (eqb t 0)
  where
    go : (a b : Bool) → magnitude (cond a (cond b (inf s) nan) (odd 53 s (2 ^ 52 + t) x 1074)) ≡ cond a (cond b (inf false) nan) (odd 53 false (2 ^ 52 + t) x 1074)
    go true true = refl
    go true false = refl
    go false b = odd-magnitude s (2 ^ 52 + t) x

-- a value that the format holds, by the fields of its own pattern
by-fields : (x : Float) → T (fits binary64 x) → x ≡ of_fields binary64 (leb (2 ^ 63) (to_bits binary64 x)) (to_bits binary64 x % 2 ^ 63 / 2 ^ 52) (to_bits binary64 x % 2 ^ 52)
by-fields x f = sym (of_bits-to_bits binary64 x f) ∙ fields (to_bits binary64 x)

pub sign_of : (x : Float) → T (fits binary64 x) → T (not (is_nan x)) → leb (2 ^ 63) (to_bits binary64 x) ≡ sign_bit x
sign_of x f n =
    let b = to_bits binary64 x in
    let e = by-fields x f in
    sym (ap sign_bit e ∙ fields-sign (leb (2 ^ 63) b) (b % 2 ^ 63 / 2 ^ 52) (b % 2 ^ 52) (subst (λ (y : Float). T (not (is_nan y))) e n))

pub magnitude-of : (x : Float) → T (fits binary64 x) → of_bits binary64 (to_bits binary64 x % 2 ^ 63) ≡ magnitude x
magnitude-of x f =
    let b = to_bits binary64 x in
    unsigned (b % 2 ^ 63) (mod-lt b (pow_pos 63))
    ∙ ap (λ (t : ℕ). of_fields binary64 false (b % 2 ^ 63 / 2 ^ 52) t) (low b)
    ∙ sym (ap magnitude (by-fields x f) ∙ fields-magnitude (leb (2 ^ 63) b) (b % 2 ^ 63 / 2 ^ 52) (b % 2 ^ 52))
  where
    low : (b : ℕ) → b % 2 ^ 63 % 2 ^ 52 ≡ b % 2 ^ 52
    low b = omega arith

pub magnitude-no-nan : (x : Float) → T (not (is_nan x)) → T (not (is_nan (magnitude x)))
unfolding is_nan
magnitude-no-nan nan n = n
magnitude-no-nan (inf s) n = tt
magnitude-no-nan (fin s m e) n = tt

pub magnitude-pattern : (x : Float) → T (fits binary64 x) → T (not (is_nan x)) → T (not (nan_bits binary64 (to_bits binary64 x % 2 ^ 63)))
magnitude-pattern x f n = subst (λ (t : Bool). T (not t)) (sym (nan_bits_is binary64 (to_bits binary64 x % 2 ^ 63) ∙ ap is_nan (magnitude-of x f))) (magnitude-no-nan x n)
