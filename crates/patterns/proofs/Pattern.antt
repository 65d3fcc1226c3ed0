-- What a pattern of 64 bits stands for: a NaN, or the value of its sign, field and digits. Assumes nothing.
use Rattle.std.proofs.Common.{◌≡◌, ℕ, zero, suc, ◌+◌, ◌*◌, ◌/◌, ◌%◌, ◌^◌, ◌<◌, ◌≤◌, Bool, true, false, cond, not, T, eqb, ltb, leb, sym, refl, ap, ◌∙◌, subst}
use Rattle.std.proofs.Common.{inl, inr, true≢false, mod-eq_of_lt, eq-zero-or-pos, not-le_of_lt, arith, eqb→eq, lt→ltb, leb→le}
use lib.Dec.{not_T}
use lib.Arith.{le→nltb}
use lib.Ieee.{Float, nan, inf, fin, binary64, odd, of_fields, of_bits, is_nan, nan_bits, ne}
use lib.Ieee.Bits.{is_true, is_false, cond_no, nan_bits_is, nan_bits_above}
use lib.Ieee.Compare.{differs_from_itself}

-- ---- a NaN is what differs from itself
pub is-nan : (x : Float) → ne x x ≡ true → x ≡ nan
is-nan x h = differs_from_itself x (subst T (sym h) tt)

pub not-nan : (x : Float) → ne x x ≡ false → T (not (is_nan x))
unfolding ne is_nan
not-nan nan h = absurd (true≢false h)
not-nan (inf s) h = tt
not-nan (fin s m e) h = tt

-- the code writes a NaN as `f64::NAN`
pub nan_constant : of_bits binary64 0x7ff8000000000000 ≡ nan
unfolding of_bits
nan_constant = refl

pub nan-of : (x : Float) → is_nan x ≡ true → x ≡ nan
unfolding is_nan
nan-of nan h = refl
nan-of (inf s) h = absurd (subst T (sym h) tt)
nan-of (fin s m e) h = absurd (subst T (sym h) tt)

-- what `is_nan` answered b is the NaN, or none
pub told-nan : {b : Bool} (x : Float) → b ≡ is_nan x → b ≡ true → x ≡ nan
told-nan x e h = nan-of x (sym e ∙ h)

pub told-not-nan : {b : Bool} (x : Float) → b ≡ is_nan x → b ≡ false → T (not (is_nan x))
told-not-nan x e h = subst (λ (t : Bool). T (not t)) (sym h ∙ e) tt

-- ---- the patterns of NaN are those above the infinity's, the sign aside
pub nan-read : (b : ℕ) → 2047 * 2 ^ 52 < b % 2 ^ 63 → of_bits binary64 b ≡ nan
nan-read b h =
    nan-of (of_bits binary64 b) (sym (nan_bits_is binary64 b) ∙ nan_bits_above binary64 b ∙ is_true (ltb (2047 * 2 ^ 52) (b % 2 ^ 63)) (lt→ltb (2047 * 2 ^ 52) (b % 2 ^ 63) h))

pub no_nan : (b : ℕ) → b % 2 ^ 63 ≤ 2047 * 2 ^ 52 → T (not (nan_bits binary64 b))
no_nan b h = subst (λ (t : Bool). T (not t)) (sym (nan_bits_above binary64 b)) (le→nltb (2047 * 2 ^ 52) (b % 2 ^ 63) h)

-- ---- the fields
pub fields : (b : ℕ) → of_bits binary64 b ≡ of_fields binary64 (leb (2 ^ 63) b) (b % 2 ^ 63 / 2 ^ 52) (b % 2 ^ 52)
unfolding of_bits
fields b = refl

pub unsigned : (b : ℕ) → b < 2 ^ 63 → of_bits binary64 b ≡ of_fields binary64 false (b / 2 ^ 52) (b % 2 ^ 52)
unsigned b h =
    fields b
    ∙ ap (λ (s : Bool). of_fields binary64 s (b % 2 ^ 63 / 2 ^ 52) (b % 2 ^ 52))
    (is_false (leb (2 ^ 63) b) (not_T (leb (2 ^ 63) b) (λ (u : T (leb (2 ^ 63) b)). not-le_of_lt h (leb→le (2 ^ 63) b u))))
    ∙ ap (λ (x : ℕ). of_fields binary64 false (x / 2 ^ 52) (b % 2 ^ 52)) (mod-eq_of_lt h)

at_zero : (t : ℕ) → of_fields binary64 false 0 t ≡ odd 53 false t 0 1074
unfolding of_fields
at_zero t = refl

under_ones : (t x : ℕ) → suc x < 2047 → of_fields binary64 false (suc x) t ≡ odd 53 false (2 ^ 52 + t) x 1074
unfolding of_fields
under_ones t x h =
    cond_no (eqb (suc x) 2047) (cond (eqb t 0) (inf false) nan) (odd 53 false (2 ^ 52 + t) x 1074)
    (not_T (eqb (suc x) 2047) (λ (u : T (eqb (suc x) 2047)). differ (eqb→eq (suc x) 2047 u)))
  where
    differ : suc x ≡ 2047 → ⊥
    differ e = omega arith

-- ---- a finite pattern is place * 2 ^ 52 + digits: the leading digit, where there is one, makes the field one more than the place
pub record Placed (q k : ℕ) : Type 0 where
  pub small : q < 2 ^ 53
  pub lead : 0 < k → 2 ^ 52 ≤ q
  pub under : k < 2046

pub packed : (q k : ℕ) → Placed q k → of_bits binary64 (k * 2 ^ 52 + q) ≡ odd 53 false q k 1074
packed q k p = unsigned (k * 2 ^ 52 + q) (omega (arith, p.small, p.under)) ∙ by_field ((k * 2 ^ 52 + q) / 2 ^ 52) ((k * 2 ^ 52 + q) % 2 ^ 52) refl refl
  where
    -- with a field above 0 the leading digit is there, and the field is one more than the place
    led : (x t : ℕ) → (k * 2 ^ 52 + q) / 2 ^ 52 ≡ suc x → (k * 2 ^ 52 + q) % 2 ^ 52 ≡ t → (x ≡ k) × (2 ^ 52 + t ≡ q)
    led x t e f =
        let s = p.small in
        elim (eq-zero-or-pos k) [
          | inl z ↦ (omega arith, omega arith)
          | inr h ↦ let l = p.lead h in (omega arith, omega arith)
        ]

    by_field : (x t : ℕ) → (k * 2 ^ 52 + q) / 2 ^ 52 ≡ x → (k * 2 ^ 52 + q) % 2 ^ 52 ≡ t → of_fields binary64 false x t ≡ odd 53 false q k 1074
    by_field zero t e f =
        let z : k ≡ 0 = omega arith in
        let y : t ≡ q = omega arith in
        rw (z, y) (at_zero q)
    by_field (suc x) t e f =
        let l = led x t e f in
        let u = p.under in
        under_ones t x (omega arith) ∙ rw (l.0, l.1) refl
