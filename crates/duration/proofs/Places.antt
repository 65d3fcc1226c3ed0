-- d * 2 ^ p units of 2 ^ -1074, rounded by words of 64 bits: as seconds in nanoseconds, and as a whole number. Assumes nothing.
use mathlib.Core.Path.{◌≡◌, sym, ap, ◌∙◌, subst}
use Prim.Native.Nat.{ℕ, ◌+◌, ◌-◌, ◌*◌, ◌/◌, ◌%◌, ◌^◌, ◌≤◌, ◌<◌}
use native.Mathlib.Nat.{lt_of_lt_of_le, mul_assoc, mul_comm, mul_left_comm, mul-one, add-mul, add_assoc, mul-pos, zero-lt-suc, mod-lt, div-eq_of_lt, div-add-mod', div-le_self}
use native.Mathlib.Omega.{arith}
use mathlib.Core.Bool.{not}
use lib.Dec.{eqb}
use lib.Pow.{pow_pos, pow_mono, pow-add, shl_exact}
use lib.Ieee.Nearest.{closest, closest_same}
use Rattle.duration.specs.Duration.{second, settled, half_away}
use Rattle.duration.proofs.Rounding.{closest-small, closest-by-half, half-same, half-whole, half-even}

-- a 1 shifted within a word
pub one_shifted : (k : ℕ) → k < 64 → 1 * 2 ^ k % 2 ^ 64 ≡ 2 ^ k
one_shifted k h = shl_exact 1 k 64 (omega arith) (omega arith) ∙ omega arith

-- ---- seconds in nanoseconds: d * 5 ^ 9 / 2 ^ k, of whose dividend the lowest ten bits stand apart
abbrev fives : ℕ
fives = 5 ^ 9

abbrev pub high : ℕ → ℕ
high d = d / 1024 * fives + d % 1024 * fives / 1024

abbrev pub under : ℕ → ℕ
under d = d % 1024 * fives % 1024

joined : (d : ℕ) → d * fives ≡ high d * 1024 + under d
joined d = omega arith

-- the power of two that 10 ^ 9 and 2 ^ p have is taken off 2 ^ 1074
reduced : (d p : ℕ) → p ≤ 1055 → closest (d * 2 ^ p * second) (2 ^ 1074) ≡ closest (d * fives) (2 ^ (1065 - p))
reduced d p h = closest_same (d * 2 ^ p * second) (2 ^ 1074) (d * fives) (2 ^ (1065 - p)) (pow_pos 1074) (pow_pos (1065 - p)) cross
  where
    exps : (p : ℕ) → p ≤ 1055 → p + (9 + (1065 - p)) ≡ 1074
    exps p h = omega arith

    mix : (d x f n y : ℕ) → d * x * (f * n) * y ≡ d * f * (x * (n * y))
    mix d x f n y = simp (mul_comm, mul_assoc, mul_left_comm)

    cross : d * 2 ^ p * second * 2 ^ (1065 - p) ≡ d * fives * 2 ^ 1074
    cross =
        mix d (2 ^ p) fives 512 (2 ^ (1065 - p))
        ∙ ap (λ (n : ℕ). d * fives * (2 ^ p * n)) (sym (pow-add 2 9 (1065 - p)))
        ∙ ap (λ (n : ℕ). d * fives * n) (sym (pow-add 2 p (9 + (1065 - p))) ∙ ap (λ (n : ℕ). 2 ^ n) (exps p h))

pub none : (d p : ℕ) → d < 2 ^ 53 → p ≤ 1055 → 74 < 1065 - p → closest (d * 2 ^ p * second) (2 ^ 1074) ≡ 0
none d p h l g = reduced d p l ∙ closest-small (d * fives) (2 ^ (1065 - p)) (lt_of_lt_of_le (less d h) (pow_mono g))
  where
    less : (d : ℕ) → d < 2 ^ 53 → d * fives * 2 < 2 ^ 75
    less d h = omega arith

-- at k = 10 the half's digit is the highest of those that stand apart
pub at-ten : (d p : ℕ) → p ≤ 1055 → 1065 - p ≡ 10 → closest (d * 2 ^ p * second) (2 ^ 1074) ≡ settled (high d) (under d / 512) (not (eqb (under d % 512) 0))
at-ten d p l e =
    reduced d p l
    ∙ ap (λ (n : ℕ). closest (d * fives) (2 ^ n)) e
    ∙ closest-by-half (d * fives) (high d) (under d / 512) 512 (under d % 512) (omega arith) (omega arith) (omega arith)

-- past it the half's digit is above them
pub past-ten : (d p w : ℕ) → p ≤ 1055 → 11 ≤ 1065 - p → w ≡ 2 ^ (1065 - p - 11)
    → closest (d * 2 ^ p * second) (2 ^ 1074) ≡ settled (high d / w / 2) (high d / w % 2) (not (eqb (high d % w * 1024 + under d) 0))
past-ten d p w l a e =
    let s = high d / w in
    let r = high d % w in
    let R : r < w = mod-lt (high d) (subst (λ (n : ℕ). 0 < n) (sym e) (pow_pos (1065 - p - 11))) in
    reduced d p l
    ∙ ap (closest (d * fives)) (two (1065 - p) a e)
    ∙ closest-by-half (d * fives) (s / 2) (s % 2) (w * 1024) (r * 1024 + under d) (omega arith) (omega arith)
    (joined d
    ∙ ap (λ (n : ℕ). n * 1024 + under d) (sym (div-add-mod' (high d) w))
    ∙ ap (λ (n : ℕ). n + under d) (add-mul (s * w) r 1024)
    ∙ add_assoc (s * w * 1024) (r * 1024) (under d)
    ∙ ap (λ (n : ℕ). n + (r * 1024 + under d)) (mul_assoc s w 1024 ∙ ap (λ (n : ℕ). n * (w * 1024)) (sym (div-add-mod' s 2))))
  where
    two : (k : ℕ) → 11 ≤ k → w ≡ 2 ^ (k - 11) → 2 ^ k ≡ 2 * (w * 1024)
    two k a e =
        let f : k ≡ k - 11 + 11 = omega arith in
        ap (λ (n : ℕ). 2 ^ n) f ∙ pow-add 2 (k - 11) 11 ∙ ap (λ (n : ℕ). n * 2 ^ 11) (sym e) ∙ omega arith

-- there is room to go up by one
pub room : (d w : ℕ) → d < 2 ^ 53 → high d / w / 2 + 1 < 2 ^ 64
room d w h = let a : high d / w ≤ high d = div-le_self (high d) w in omega arith

-- ---- to a whole number, halves away from zero
pub from-units : (d p : ℕ) → 1074 ≤ p → half_away (d * 2 ^ p) (2 ^ 1074) ≡ d * 2 ^ (p - 1074)
from-units d p h = half-same (d * 2 ^ p) (2 ^ 1074) (d * 2 ^ (p - 1074)) 1 (pow_pos 1074) (zero-lt-suc 0) (mul-one (d * 2 ^ p) ∙ split) ∙ half-whole (d * 2 ^ (p - 1074))
  where
    above : (p : ℕ) → 1074 ≤ p → p ≡ p - 1074 + 1074
    above p h = omega arith

    split : d * 2 ^ p ≡ d * 2 ^ (p - 1074) * 2 ^ 1074
    split = ap (λ (n : ℕ). d * 2 ^ n) (above p h) ∙ ap (λ (n : ℕ). d * n) (pow-add 2 (p - 1074) 1074) ∙ sym (mul_assoc d (2 ^ (p - 1074)) (2 ^ 1074))

pub below-units : (d p : ℕ) → p < 1074 → half_away (d * 2 ^ p) (2 ^ 1074) ≡ (d / 2 ^ (1073 - p) + 1) / 2
below-units d p h =
    half-same (d * 2 ^ p) (2 ^ 1074) d (2 * 2 ^ (1073 - p)) (pow_pos 1074) (mul-pos (zero-lt-suc 1) (pow_pos (1073 - p))) cross
    ∙ half-even d (2 ^ (1073 - p)) (pow_pos (1073 - p))
  where
    exps : (p : ℕ) → p < 1074 → p + (1 + (1073 - p)) ≡ 1074
    exps p h = omega arith

    cross : d * 2 ^ p * (2 * 2 ^ (1073 - p)) ≡ d * 2 ^ 1074
    cross =
        mul_assoc d (2 ^ p) (2 * 2 ^ (1073 - p))
        ∙ ap (λ (n : ℕ). d * (2 ^ p * n)) (sym (pow-add 2 1 (1073 - p)))
        ∙ ap (λ (n : ℕ). d * n) (sym (pow-add 2 p (1 + (1073 - p))) ∙ ap (λ (n : ℕ). 2 ^ n) (exps p h))

pub under-half : (d p : ℕ) → d < 2 ^ 53 → p < 1021 → half_away (d * 2 ^ p) (2 ^ 1074) ≡ 0
under-half d p l h = below-units d p (wide p h) ∙ ap (λ (n : ℕ). (n + 1) / 2) (div-eq_of_lt (lt_of_lt_of_le l (pow_mono (room p h))))
  where
    wide : (p : ℕ) → p < 1021 → p < 1074
    wide p h = omega arith

    room : (p : ℕ) → p < 1021 → 53 ≤ 1073 - p
    room p h = omega arith
