-- What quarter turns make of sine and cosine, and what a NaN is reduced to. Assumes nothing.
use Rattle.std.proofs.Common.{◌≡◌, refl, true, false}
use Prim.Native.Nat.{ℕ, zero, suc}
use lib.Ieee.{Float, nan, inf, fin, neg, rem}
use Rattle.float.specs.Once.{turned}
use Rattle.float.specs.Trig.{reduced, sine_at, cosine_at, sine_series, cosine_series}

neg-neg : (x : Float) → neg (neg x) ≡ x
unfolding neg
neg-neg nan = refl
neg-neg (inf true) = refl
neg-neg (inf false) = refl
neg-neg (fin true m e) = refl
neg-neg (fin false m e) = refl

pub sine-turned : (j : ℕ) (y : Float) → turned j (sine_series y) (cosine_series y) ≡ sine_at j y
sine-turned zero y = refl
sine-turned (suc zero) y = refl
sine-turned (suc (suc zero)) y = refl
sine-turned (suc (suc (suc zero))) y = refl
sine-turned (suc (suc (suc (suc j)))) y = refl

pub cosine-turned : (j : ℕ) (y : Float) → turned j (cosine_series y) (neg (sine_series y)) ≡ cosine_at j y
cosine-turned zero y = refl
cosine-turned (suc zero) y = refl
cosine-turned (suc (suc zero)) y = refl
cosine-turned (suc (suc (suc zero))) y = neg-neg (sine_series y)
cosine-turned (suc (suc (suc (suc j)))) y = refl

-- ---- a NaN
pub reduced-nan : reduced nan ≡ nan
unfolding reduced rem
reduced-nan = refl
