-- Laws of the conversions: a found duration is at most 2 ^ 34 seconds and fits 64 bits, more seconds are no fewer nanoseconds, and `half_away` is nearest. Assumes nothing.
use mathlib.Core.Path.{◌≡◌, sym, subst}
use Prim.Native.Nat.{ℕ, ◌+◌, ◌*◌, ◌%◌, ◌^◌, ◌≤◌, ◌<◌}
use native.Mathlib.Nat.{le_of_eq, le_trans, zero-lt-suc, mul-pos, mul_right_comm, mod-lt, div-add-mod'}
use native.Mathlib.Omega.{arith}
use lib.Dec.{T, lit<}
use lib.Ieee.{Float, le}
use lib.Ieee.Nearest.{closest_mono, div_mono}
use lib.Ieee.Positive.{num, den, den_pos}
use Rattle.std.specs.Prelude.{Ok}
use Rattle.duration.specs.Duration.{second, limit_nanoseconds, zero_or_more, below_limit, exact_nanoseconds, product, product_below}
use Rattle.duration.specs.Duration.{product_nanoseconds, half_away, from_seconds, from_hours}
use Rattle.duration.proofs.Order.{le-cross}
use Rattle.duration.proofs.Questions.{found}
use Rattle.duration.proofs.Range.{within-limit, within-limit-nanoseconds}

-- ---- the bound
pub limit-nanoseconds-fits : limit_nanoseconds < 2 ^ 64
limit-nanoseconds-fits = lit< tt

pub seconds-bound : (t : Float) (n : ℕ) → from_seconds t ≡ Ok n → n ≤ limit_nanoseconds
unfolding from_seconds
seconds-bound t n e =
    let f = found (zero_or_more t) (below_limit t) (exact_nanoseconds t) n e in
    let b = (within-limit t f.first f.second).below in
    subst (λ (m : ℕ). m ≤ limit_nanoseconds) f.is (closest_mono (num t * second) (den t) limit_nanoseconds 1 (den_pos t) (zero-lt-suc 0) (omega arith))

pub hours-bound : (h : Float) (n : ℕ) → from_hours h ≡ Ok n → n ≤ limit_nanoseconds
unfolding from_hours
hours-bound h n e =
    let f = found (zero_or_more h) (product_below h) (product_nanoseconds h) n e in
    let p = product h in
    let b = (within-limit-nanoseconds h f.first f.second).below in
    subst (λ (m : ℕ). m ≤ limit_nanoseconds) f.is
    (div_mono (2 * num p + den p) (2 * den p) (2 * limit_nanoseconds + 1) 2 (mul-pos (zero-lt-suc 1) (den_pos p)) (zero-lt-suc 1) (omega arith))

-- ---- more seconds are no fewer nanoseconds
pub seconds-mono : (s t : Float) (m n : ℕ) → T (le s t) → from_seconds s ≡ Ok m → from_seconds t ≡ Ok n → m ≤ n
unfolding from_seconds
seconds-mono s t m n h a b =
    let f = found (zero_or_more s) (below_limit s) (exact_nanoseconds s) m a in
    let g = found (zero_or_more t) (below_limit t) (exact_nanoseconds t) n b in
    let c = le-cross s t f.first (within-limit t g.first g.second).is_finite h in
    let l : exact_nanoseconds s ≤ exact_nanoseconds t = closest_mono (num s * second) (den s) (num t * second) (den t) (den_pos s) (den_pos t)
    (scaled (num s) (den t) (num t) (den s) c) in
    le_trans (le_of_eq (sym f.is)) (le_trans l (le_of_eq g.is))
  where
    scaled : (a b c d : ℕ) → a * b ≤ c * d → a * second * b ≤ c * second * d
    scaled a b c d h =
        let p : a * second * b ≡ a * b * second = mul_right_comm a second b in let q : c * second * d ≡ c * d * second = mul_right_comm c second d in omega arith

-- ---- r = `half_away a b` is nearest, and up at a half: r - 1 / 2 ≤ a / b < r + 1 / 2
pub record HalfAway (a b r : ℕ) : Type 0 where
  pub not_above : r * (2 * b) ≤ 2 * a + b
  pub not_below : 2 * a < r * (2 * b) + b

pub half-away-nearest : (a b : ℕ) → 0 < b → HalfAway a b (half_away a b)
half-away-nearest a b B =
    let e : half_away a b * (2 * b) + (2 * a + b) % (2 * b) ≡ 2 * a + b = div-add-mod' (2 * a + b) (2 * b) in
    let l : (2 * a + b) % (2 * b) < 2 * b = mod-lt (2 * a + b) (mul-pos (zero-lt-suc 1) B) in
    record { not_above = omega arith; not_below = omega arith }
