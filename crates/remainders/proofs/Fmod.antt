-- `rem` of two finite values is the remainder of their numbers of units, and the patterns order the magnitudes. Assumes nothing.
use Rattle.std.proofs.Common.{◌≡◌, ℕ, zero, suc, ◌+◌, ◌-◌, ◌*◌, ◌%◌, ◌^◌, ◌<◌, ◌≤◌, Bool, true, false, cond, not, T, eqb, ℤ, pos, sym, refl, ap, ap₂, ◌∙◌, subst}
use Rattle.std.proofs.Common.{inl, inr, le_trans, le_of_eq, lt_of_lt_of_le, le_of_lt, lt_irrefl, mul-le-mul_right, mod-lt, mod-eq_of_lt, zero-lt-suc, mul_assoc}
use Rattle.std.proofs.Common.{mul_comm, eq-zero-or-pos, mul-le-mul_left, mul-lt-mul_of_pos_right, mul-pos, zero-mul, mul_right_comm, arith, pow_pos, pow_mono, pow-add}
use Rattle.std.proofs.Common.{◌||◌, eqb→eq, true≢false}
use mathlib.Core.Bool.{beq}
use native.Mathlib.Nat.{eq_of_mul-eq-mul_right, lt_of_mul-lt-mul_right}
use lib.Dec.{eqb-suc-zero}
use lib.Ieee.{Float, nan, inf, fin, binary64, up, down, odd, round, rem, neg, of_bits, to_bits, fits, eq, lt, is_nan}
use lib.Ieee.Exact.{HasValue, odd_sign, round_exact}
use lib.Ieee.Fits.{up_pos, down_pos, and_l, rem-fits}
use lib.Ieee.Scale.{finite}
use Rattle.std.specs.Float.{float_is_infinite}
use Rattle.std.specs.Float.Order.{lt_at}
use Rattle.std.proofs.lemmas.Bool.{ltb-true}
use Rattle.patterns.specs.Bits.{magnitude, sign_bit, digits, place}
use Rattle.patterns.proofs.Pattern.{Placed}
use Rattle.patterns.proofs.Sign.{magnitude-of}
use Rattle.patterns.proofs.Value.{same-value, field_lt, taken, parts-value}
use Rattle.remainders.proofs.Modulo.{mul-mod-mul}
use Rattle.patterns.proofs.Leading.{units_lt, odd-held}

-- ---- the same fraction over another denominator
rescale : (x : Float) (s : Bool) (a c b d : ℕ) → 0 < c → b * c ≡ a * d → HasValue x s a c → HasValue x s b d
rescale nan s a c b d p h v = v
rescale (inf t) s a c b d p h v = v
rescale (fin t m e) s a c b d p h v = (
  v.0,
  eq_of_mul-eq-mul_right c p (m * up e * d) (b * down e)
      (mul_right_comm (m * up e) d c
      ∙ ap (λ (n : ℕ). n * d) v.1
      ∙ mul_right_comm a (down e) d
      ∙ ap (λ (n : ℕ). n * down e) (sym h)
      ∙ mul_right_comm b c (down e)),
)

-- ---- the remainder in units
-- X / D and Y / D are a and b units: so X % Y over D is a % b units
over-units : (X Y D a b : ℕ) → 0 < Y → 0 < b → 0 < D → X * 2 ^ 1074 ≡ a * D → Y * 2 ^ 1074 ≡ b * D → X % Y * 2 ^ 1074 ≡ a % b * D
over-units X Y D a b Yp bp Dp x y =
    sym (mul-mod-mul X Y (2 ^ 1074) Yp (pow_pos 1074))
    ∙ ap (λ (n : ℕ). n % (Y * 2 ^ 1074)) x
    ∙ ap (λ (n : ℕ). a * D % n) y
    ∙ mul-mod-mul a b D bp Dp

rem-fin : (s : Bool) (m : ℕ) (e : ℤ) (t : Bool) (n : ℕ) (d : ℤ)
    → rem binary64 (fin s m e) (fin t (suc n) d) ≡ round binary64 s (m * up e * down d % (suc n * up d * down e)) (down e * down d)
unfolding rem
rem-fin s m e t n d = ap (λ (b : Bool). cond b nan (round binary64 s (m * up e * down d % (suc n * up d * down e)) (down e * down d))) (eqb-suc-zero n)

pub rem_value : (x y : Float) (a b q k : ℕ) → HasValue x (sign_bit x) a (2 ^ 1074) → HasValue y (sign_bit y) b (2 ^ 1074) → 0 < b → a % b ≡ q * 2 ^ k → q < 2 ^ 53 → k < 2046
    → HasValue (rem binary64 x y) (sign_bit x) (q * 2 ^ k) (2 ^ 1074)
rem_value nan y a b q k v w p h small l = absurd v
rem_value (inf s) y a b q k v w p h small l = absurd v
rem_value (fin s m e) nan a b q k v w p h small l = absurd w
rem_value (fin s m e) (inf t) a b q k v w p h small l = absurd w
rem_value (fin s m e) (fin t zero d) a b q k v w p h small l =
    let z : b * down d ≡ 0 = sym w.1 ∙ ap (λ (y : ℕ). y * 2 ^ 1074) (zero-mul (up d)) ∙ zero-mul (2 ^ 1074) in
    absurd (lt_irrefl 0 (subst (λ (y : ℕ). 0 < y) z (mul-pos p (down_pos d))))
rem_value (fin s m e) (fin t (suc n) d) a b q k v w p h small l =
    let D = down e * down d in
    let Dp : 0 < D = mul-pos (down_pos e) (down_pos d) in
    let X = m * up e * down d in
    let Y = suc n * up d * down e in
    let Yp : 0 < Y = mul-pos (mul-pos (zero-lt-suc n) (up_pos d)) (down_pos e) in
    let x : X * 2 ^ 1074 ≡ a * D = mul_right_comm (m * up e) (down d) (2 ^ 1074) ∙ ap (λ (z : ℕ). z * down d) v.1 ∙ mul_assoc a (down e) (down d) in
    let y : Y * 2 ^ 1074 ≡ b * D = mul_right_comm (suc n * up d) (down e) (2 ^ 1074) ∙ ap (λ (z : ℕ). z * down e) w.1
    ∙ mul_assoc b (down d) (down e) ∙ ap (λ (z : ℕ). b * z) (mul_comm (down d) (down e)) in
    let i : X % Y * 2 ^ 1074 ≡ q * 2 ^ k * D = over-units X Y D a b Yp p Dp x y ∙ ap (λ (z : ℕ). z * D) h in
    subst (λ (z : Float). HasValue z s (q * 2 ^ k) (2 ^ 1074)) (sym (rem-fin s m e t n d))
    (rescale (round binary64 s (X % Y) D) s (X % Y) D (q * 2 ^ k) (2 ^ 1074) Dp (sym i)
    (round_exact binary64 s (X % Y) D q k Dp small (units_lt q k small l) i))

-- ---- the tests of `rem`
pub rem-nan-left : (y : Float) → rem binary64 nan y ≡ nan
unfolding rem
rem-nan-left y = refl

pub rem-nan-right : (x : Float) → rem binary64 x nan ≡ nan
unfolding rem
rem-nan-right nan = refl
rem-nan-right (inf s) = refl
rem-nan-right (fin s m e) = refl

-- a pattern below the infinity's is finite, and any other that is no NaN's is an infinity
pub below-infinity : (x : Float) → to_bits binary64 x % 2 ^ 63 < 2047 * 2 ^ 52 → T (finite x)
unfolding to_bits
below-infinity nan h = let z : ⊥ = omega arith in absurd z
below-infinity (inf true) h = let z : ⊥ = omega arith in absurd z
below-infinity (inf false) h = let z : ⊥ = omega arith in absurd z
below-infinity (fin s m e) h = tt

pub no-infinity : (x : Float) → T (not (is_nan x)) → float_is_infinite x ≡ false → T (finite x)
unfolding is_nan float_is_infinite
no-infinity nan n h = n
no-infinity (inf s) n h = absurd (true≢false h)
no-infinity (fin s m e) n h = tt

pub rem-of-infinity : (x y : Float) → float_is_infinite x ≡ true → rem binary64 x y ≡ nan
unfolding rem float_is_infinite
rem-of-infinity nan y h = refl
rem-of-infinity (inf s) y h = refl
rem-of-infinity (fin s m e) y h = absurd (true≢false (sym h))

pub rem-by-zero : (x y : Float) → T (finite x) → eq y (of_bits binary64 0) ≡ true → rem binary64 x y ≡ nan
unfolding rem eq of_bits
rem-by-zero nan y t h = refl
rem-by-zero (inf r) y t h = refl
rem-by-zero (fin r m e) nan t h = refl
rem-by-zero (fin r m e) (inf s) t h = absurd (true≢false (sym h))
rem-by-zero (fin r m e) (fin s zero d) t h = refl
rem-by-zero (fin r m e) (fin s (suc n) d) t h =
    let z : suc n * up d * 1 ≡ 0 * 1 * down d = eqb→eq (suc n * up d * 1) (0 * 1 * down d)
    (and_l (eqb (suc n * up d * 1) (0 * 1 * down d)) (beq s false || eqb (suc n * up d * 1) 0) (subst T (sym h) tt)) in
    let p : 0 < suc n * up d * 1 = mul-pos (mul-pos (zero-lt-suc n) (up_pos d)) (zero-lt-suc 0) in
    let w : ⊥ = omega arith in
    absurd w

-- a pattern of no digits is a zero's
zero-magnitude : (y : Float) → magnitude y ≡ fin false 0 (pos 0) → eq y (of_bits binary64 0) ≡ true
unfolding eq of_bits
zero-magnitude nan h = let z : ◌≡◌ {A = ℕ} 0 1 = cc in let w : ⊥ = omega arith in absurd w
zero-magnitude (inf s) h = let z : ◌≡◌ {A = ℕ} 0 1 = cc in let w : ⊥ = omega arith in absurd w
zero-magnitude (fin s n d) h =
    let z : n ≡ 0 = cc in
    let y : d ≡ pos 0 = cc in
    ap₂ (λ (k : ℕ) (j : ℤ). eq (fin s k j) (fin false 0 (pos 0))) z y ∙ level s
  where
    level : (s : Bool) → eq (fin s 0 (pos 0)) (fin false 0 (pos 0)) ≡ true
    level true = refl
    level false = refl

zero-read : of_bits binary64 0 ≡ fin false 0 (pos 0)
unfolding of_bits
zero-read = refl

no-zero : (y : Float) → T (fits binary64 y) → eq y (of_bits binary64 0) ≡ false → to_bits binary64 y % 2 ^ 63 ≡ 0 → ⊥
no-zero y f h e = true≢false (sym (zero-magnitude y (sym (magnitude-of y f) ∙ ap (of_bits binary64) e ∙ zero-read)) ∙ h)

-- ---- of two finite patterns the smaller has the smaller magnitude
pub units-order : (q k r j : ℕ) → Placed q k → Placed r j → k * 2 ^ 52 + q < j * 2 ^ 52 + r → q * 2 ^ k < r * 2 ^ j
units-order q k r j a b h = elim (eq-zero-or-pos (j - k)) [ inl z ↦ same z | inr z ↦ more z ]
  where
    same : j - k ≡ 0 → q * 2 ^ k < r * 2 ^ j
    same z =
        let f : j ≡ k = elim (eq-zero-or-pos k) [
          | inl y ↦ omega arith
          | inr y ↦ let l = a.lead y in let s = b.small in omega arith
        ] in
        let g : q < r = omega arith in
        rw f (mul-lt-mul_of_pos_right g (pow_pos k))

    more : 0 < j - k → q * 2 ^ k < r * 2 ^ j
    more z =
        let l : suc k ≤ j = omega arith in
        lt_of_lt_of_le (mul-lt-mul_of_pos_right a.small (pow_pos k))
        (le_trans (le_of_eq (sym (pow-add 2 53 k) ∙ ap (λ (n : ℕ). 2 ^ n) (shift k) ∙ pow-add 2 52 (suc k)))
        (le_trans (mul-le-mul_right (2 ^ suc k) (b.lead (omega arith))) (le-of-pow r l)))
      where
        shift : (k : ℕ) → 53 + k ≡ 52 + suc k
        shift k = omega arith

        le-of-pow : (r : ℕ) {i n : ℕ} → i ≤ n → r * 2 ^ i ≤ r * 2 ^ n
        le-of-pow r h = mul-le-mul_left r (pow_mono h)

-- ---- the answers of `rem`
-- the parts of a finite value's own pattern
abbrev pub digits_of : Float → ℕ
digits_of x = digits (to_bits binary64 x)

abbrev pub place_of : Float → ℕ
place_of x = place (to_bits binary64 x)

abbrev units_of : Float → ℕ
units_of x = digits_of x * 2 ^ place_of x

nan_is_nan : T (not (is_nan nan)) → ⊥
unfolding is_nan
nan_is_nan n = n

rem-by-infinity : (r : Bool) (m : ℕ) (e : ℤ) (s : Bool) → rem binary64 (fin r m e) (inf s) ≡ fin r m e
unfolding rem
rem-by-infinity r m e s = refl

-- a finite value of fewer units than another is its own remainder by it
rem-of-fewer : (x y : Float) → T (fits binary64 x) → T (fits binary64 y) → T (finite x) → T (finite y) → units_of x < units_of y → x ≡ rem binary64 x y
rem-of-fewer x y f g t u o =
    let p = parts-value x f t in
    let q = parts-value y g u in
    same-value x (rem binary64 x y) (sign_bit x) (units_of x) f (rem-fits binary64 x y f) p.value
    (rem_value x y (units_of x) (units_of y) (digits_of x) (place_of x) p.value q.value (omega (arith, o)) (mod-eq_of_lt o)
    p.placed.small p.placed.under)

pub rem-of-smaller : (x y : Float) → T (fits binary64 x) → T (fits binary64 y) → T (not (is_nan y)) → T (finite x)
    → to_bits binary64 x % 2 ^ 63 < to_bits binary64 y % 2 ^ 63 → x ≡ rem binary64 x y
rem-of-smaller x nan f g n t h = absurd (nan_is_nan n)
rem-of-smaller nan (inf s) f g n t h = absurd t
rem-of-smaller (inf r) (inf s) f g n t h = absurd t
rem-of-smaller (fin r m e) (inf s) f g n t h = sym (rem-by-infinity r m e s)
rem-of-smaller x (fin s n d) f g _ t h =
    let y = fin s n d in
    let p = parts-value x f t in
    let q = parts-value y g tt in
    let a = (taken (to_bits binary64 x) (field_lt x f t)).pattern in
    let b = (taken (to_bits binary64 y) (field_lt y g tt)).pattern in
    let l : place_of x * 2 ^ 52 + digits_of x < place_of y * 2 ^ 52 + digits_of y = rw (a, b) at h in
    rem-of-fewer x y f g t tt (units-order (digits_of x) (place_of x) (digits_of y) (place_of y) p.placed q.placed l)

-- a value without a sign is its own remainder by a finite one above it
pub rem-of-less : (x y : Float) → T (fits binary64 x) → T (fits binary64 y) → sign_bit x ≡ false → sign_bit y ≡ false → T (finite x) → T (finite y)
    → lt x y ≡ true → x ≡ rem binary64 x y
rem-of-less x y f g s r t u h =
    let n = pow_pos 1074 in
    let v = subst (λ (b : Bool). HasValue x b (units_of x) (2 ^ 1074)) s (parts-value x f t).value in
    let w = subst (λ (b : Bool). HasValue y b (units_of y) (2 ^ 1074)) r (parts-value y g u).value in
    let o = ltb-true (units_of x * 2 ^ 1074) (units_of y * 2 ^ 1074) (sym (lt_at x y (units_of x) (2 ^ 1074) (units_of y) (2 ^ 1074) n n v w) ∙ h) in
    rem-of-fewer x y f g t u (lt_of_mul-lt-mul_right (2 ^ 1074) o)

-- the remainder of two magnitudes by their parts, and a magnitude with a sign
abbrev pub rem_parts : ℕ → ℕ → ℕ → ℕ → Float
rem_parts q k r j = odd 53 false (q * 2 ^ (k - j) % r) j 1074

abbrev pub with_sign : Bool → Float → Float
with_sign s x = cond s (neg x) x

odd-with-sign : (s : Bool) (q k : ℕ) → odd 53 s q k 1074 ≡ with_sign s (odd 53 false q k 1074)
unfolding neg odd
odd-with-sign false q k = refl
odd-with-sign true zero k = refl
odd-with-sign true (suc q) k = refl

-- the magnitude of y is at most that of x, and not zero
pub record Divides (x y : Float) : Type 0 where
  pub divisor : 0 < digits_of y
  pub under : place_of y < 2046
  pub order : place_of y ≤ place_of x
  pub is : rem binary64 x y ≡ with_sign (sign_bit x) (rem_parts (digits_of x) (place_of x) (digits_of y) (place_of y))

pub rem-of-larger : (x y : Float) → T (fits binary64 x) → T (fits binary64 y) → T (finite x) → eq y (of_bits binary64 0) ≡ false
    → to_bits binary64 y % 2 ^ 63 ≤ to_bits binary64 x % 2 ^ 63 → Divides x y
rem-of-larger x y f g t z h =
    let i = field_lt x f t in
    let u : T (finite y) = below-infinity y (omega arith) in
    let p = parts-value x f t in
    let q = parts-value y g u in
    let a = (taken (to_bits binary64 x) i).pattern in
    let b = (taken (to_bits binary64 y) (field_lt y g u)).pattern in
    let o : place_of y ≤ place_of x = places (digits_of x) (place_of x) (digits_of y) (place_of y) p.placed q.placed (omega arith) in
    let D : 0 < digits_of y = nonzero (digits_of y) (place_of y) q.placed (λ (e : place_of y * 2 ^ 52 + digits_of y ≡ 0). no-zero y g z (b ∙ e)) in
    let j = place_of y in
    let Q = digits_of x * 2 ^ (place_of x - j) in
    let s : Q % digits_of y < 2 ^ 53 = lt_of_lt_of_le (mod-lt Q D) (le_of_lt q.placed.small) in
    let e : units_of x % units_of y ≡ Q % digits_of y * 2 ^ j =
    ap (λ (n : ℕ). digits_of x * 2 ^ n % units_of y) (back j (place_of x) o)
    ∙ ap (λ (n : ℕ). n % units_of y) (ap (λ (n : ℕ). digits_of x * n) (pow-add 2 (place_of x - j) j) ∙ sym (mul_assoc (digits_of x) (2 ^ (place_of x - j)) (2 ^ j)))
    ∙ mul-mod-mul Q (digits_of y) (2 ^ j) D (pow_pos j) in
    record {
      divisor = D;
      under = q.placed.under;
      order = o;
      is =
          same-value (rem binary64 x y) (odd 53 (sign_bit x) (Q % digits_of y) j 1074) (sign_bit x) (Q % digits_of y * 2 ^ j) (rem-fits binary64 x y f)
          (odd-held (sign_bit x) (Q % digits_of y) j s q.placed.under)
          (rem_value x y (units_of x) (units_of y) (Q % digits_of y) j p.value q.value (mul-pos D (pow_pos j)) e s q.placed.under)
          (odd_sign 53 (sign_bit x) (Q % digits_of y) j 1074)
          ∙ odd-with-sign (sign_bit x) (Q % digits_of y) j;
    }
  where
    back : (j k : ℕ) → j ≤ k → k ≡ k - j + j
    back j k h = omega arith

    places : (q k r j : ℕ) → Placed q k → Placed r j → j * 2 ^ 52 + r ≤ k * 2 ^ 52 + q → j ≤ k
    places q k r j a b h = elim (eq-zero-or-pos j) [
      | inl z ↦ omega arith
      | inr z ↦ let l = b.lead z in let s = a.small in omega arith
    ]

    nonzero : (r j : ℕ) → Placed r j → (j * 2 ^ 52 + r ≡ 0 → ⊥) → 0 < r
    nonzero r j b n = elim (eq-zero-or-pos j) [
      | inl z ↦ omega arith
      | inr z ↦ let l = b.lead z in omega arith
    ]
