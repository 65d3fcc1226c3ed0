-- Values that binary64 holds: each is its own rounding, a zero has one exponent, and one that compares equal to a value that is not zero
-- is that very value. Assumes nothing.
use Rattle.std.proofs.Common.{◌≡◌, ℕ, zero, suc, ◌*◌, ◌^◌, ◌<◌, Bool, true, false, ◌&&◌, T, eqb, ℤ, pos, negsuc, sym, refl, ◌∙◌, zero-lt-suc, mul-pos, one-mul}
use Rattle.std.proofs.Common.{mul-one, arith, eqb→eq, pow_pos, eqb-true}
use mathlib.Core.Bool.{false≢true}
use lib.Pow.{pow-lt}
use lib.Ieee.{Float, nan, inf, fin, binary64, up, down, round, eq, level, fits, to_bits}
use lib.Ieee.Exact.{round_exact}
use lib.Ieee.Fits.{up_pos, down_pos, round-fits}
use lib.Ieee.Scale.{round_same}
use Rattle.patterns.specs.Bits.{digits, place}
use Rattle.patterns.proofs.Leading.{units_lt}
use Rattle.patterns.proofs.Value.{same-value, parts-value}

-- a value of the format is its own rounding
pub round-held : (s : Bool) (m : ℕ) (e : ℤ) → T (fits binary64 (fin s m e)) → round binary64 s (m * up e) (down e) ≡ fin s m e
round-held s m e f =
    let x = fin s m e in
    let q = digits (to_bits binary64 x) in
    let k = place (to_bits binary64 x) in
    let p = parts-value x f tt in
    let small = p.placed.small in
    round_same binary64 s (m * up e) (down e) (q * 2 ^ k) (2 ^ 1074) (down_pos e) (pow_pos 1074) p.value.1
    ∙ same-value (round binary64 s (q * 2 ^ k) (2 ^ 1074)) x s (q * 2 ^ k) (round-fits binary64 s (q * 2 ^ k) (2 ^ 1074)) f
    (round_exact binary64 s (q * 2 ^ k) (2 ^ 1074) q k (pow_pos 1074) small (units_lt q k small p.placed.under) refl)
    p.value

-- a zero has one exponent
not-one : (n k : ℕ) → n ≡ 2 ^ suc k → n ≡ 1 → ⊥
not-one n k p e = let h : 1 < 2 ^ suc k = pow-lt {i = 0} {j = suc k} (omega arith) in omega arith

pub zero_exponent : (s : Bool) (e : ℤ) → T (fits binary64 (fin s zero e)) → e ≡ pos 0
unfolding fits
zero_exponent s (pos zero) f = refl
zero_exponent s (pos (suc k)) f = absurd (not-one _ k (mul-one (2 ^ suc k)) (eqb→eq _ 1 f))
zero_exponent s (negsuc k) f = absurd (not-one _ k (one-mul (2 ^ suc k)) (eqb→eq _ 1 f))

-- the other finite values are not zero
pub above_zero : (m : ℕ) (e : ℤ) → 0 < suc m * up e
above_zero m e = mul-pos (zero-lt-suc m) (up_pos e)

-- ---- values that compare equal

pub both_hold : (p q : Bool) → p && q ≡ true → (p ≡ true) × (q ≡ true)
both_hold true q e = (refl, e)
both_hold false q e = absurd (false≢true e)

same-finite : (s : Bool) (n m : ℕ) (d e : ℤ) → T (fits binary64 (fin s n d)) → T (fits binary64 (fin s m e))
    → n * up d * down e ≡ m * up e * down d → fin s n d ≡ fin s m e
same-finite s n m d e f g h =
    sym (round-held s n d f) ∙ round_same binary64 s (n * up d) (down d) (m * up e) (down e) (down_pos d) (down_pos e) h ∙ round-held s m e g

-- numbers above zero of unlike signs are not level
unlike-signs : (a b : ℕ) → 0 < b → eqb a b && eqb a 0 ≡ true → ⊥
unlike-signs a b h e =
    let w = both_hold (eqb a b) (eqb a 0) e in
    omega (arith, eqb-true a b w.0, eqb-true a 0 w.1)

level-finite : (t s : Bool) (n m : ℕ) (d e : ℤ) → T (fits binary64 (fin t n d)) → T (fits binary64 (fin s m e)) → 0 < m * up e * down d
    → level t (n * up d * down e) s (m * up e * down d) ≡ true → fin t n d ≡ fin s m e
level-finite true true n m d e f g p h = same-finite true n m d e f g (eqb-true _ _ (both_hold (eqb (n * up d * down e) (m * up e * down d)) true h).0)
level-finite false false n m d e f g p h = same-finite false n m d e f g (eqb-true _ _ (both_hold (eqb (n * up d * down e) (m * up e * down d)) true h).0)
level-finite true false n m d e f g p h = absurd (unlike-signs (n * up d * down e) (m * up e * down d) p h)
level-finite false true n m d e f g p h = absurd (unlike-signs (n * up d * down e) (m * up e * down d) p h)

-- a value that compares equal to one that is not zero is that one
pub eq-same : (x : Float) (s : Bool) (m : ℕ) (e : ℤ) → T (fits binary64 x) → T (fits binary64 (fin s (suc m) e)) → eq x (fin s (suc m) e) ≡ true
    → x ≡ fin s (suc m) e
unfolding eq
eq-same nan s m e f g h = absurd (false≢true h)
eq-same (inf t) s m e f g h = absurd (false≢true h)
eq-same (fin t n d) s m e f g h = level-finite t s n (suc m) d e f g (mul-pos (above_zero m e) (down_pos d)) h
