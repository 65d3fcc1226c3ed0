-- The square root of IEEE 754, over the values of `lib.Ieee`: the value of binary64 nearest to the exact root, ties to even.
-- `NearestRoot` below says so without the definition's own steps; `nearest-root` of proofs/ shows it for every positive finite value.
use Prim.Native.Nat.{ℕ, zero, suc, ◌+◌, ◌-◌, ◌*◌, ◌/◌, ◌^◌, ◌<◌, compare}
use Rattle.std.specs.Prelude.{true, false, cond, T, leb, ℤ, Float}
use Rattle.std.specs.Float.{nan, inf, fin, binary64}
use Rattle.std.specs.Float.Ieee.{up, down, size, nearest, units, fits}
use Rattle.std.specs.Float.Ieee.Exact.{HasValue}

-- 2 * r, or one more where its square is still at most n
abbrev pub root_step : ℕ → ℕ → ℕ
root_step n r = cond (leb ((2 * r + 1) * (2 * r + 1)) n) (2 * r + 1) (2 * r)

-- the largest number whose square is at most n, for an n below 4 ^ d: by its binary digits
unfoldable pub root_digits : ℕ → ℕ → ℕ
root_digits zero n = 0
root_digits (suc d) n = root_step n (root_digits d (n / 4))

-- the whole part of the root of n
unfoldable pub whole_root : ℕ → ℕ
unfolding root_digits size
whole_root n = root_digits (size n) n

-- The value of binary64 that is nearest to √a units of 2 ^ -1074: as `round` of `lib.Ieee`, with √a for the fraction. Of its whole
-- part w the format keeps 53 digits, q, and drops k; q moves up by one where √a is above the middle, (q + 1/2) * 2 ^ k.
unfoldable pub round_root : ℕ → Float
unfolding whole_root size units
round_root a =
    let w = whole_root a in
    let k = size w - 53 in
    let q = w / 2 ^ k in
    units binary64 false (nearest q (compare (4 * a) ((2 * q + 1) * 2 ^ k * ((2 * q + 1) * 2 ^ k)))) k

-- m * 2 ^ e in units of 2 ^ -1074, of which every finite value of binary64 is a whole number
abbrev pub in_units : ℕ → ℤ → ℕ
in_units m e = m * up e * 2 ^ 1074 / down e

-- "IEEE 754, nearest, ties to even; NaN below zero; -0 and +infinity return."
-- A positive x is in_units m e * 2 ^ -1074, so its root is √(in_units m e * 2 ^ 1074) units.
unfoldable pub sqrt : Float → Float
unfolding round_root
sqrt nan = nan
sqrt (inf true) = nan
sqrt (inf false) = inf false
sqrt (fin s zero e) = fin s zero e
sqrt (fin true (suc m) e) = nan
sqrt (fin false (suc m) e) = round_root (in_units (suc m) e * 2 ^ 1074)

-- r is the value of binary64 nearest to √a units, and the only one: with r and any other value in units, the root lies strictly
-- on r's side of their middle. (√a < (r + v) / 2 exactly when 4 * a < (r + v) * (r + v).) So no tie exists.
pub record NearestRoot (a : ℕ) (r : Float) : Type 0 where
  pub result : ℕ
  pub value : HasValue r false result (2 ^ 1074)
  pub none_above : (n : ℕ) (d : ℤ) → T (fits binary64 (fin false n d)) → result < in_units n d → 4 * a < (result + in_units n d) * (result + in_units n d)
  pub none_below : (n : ℕ) (d : ℤ) → T (fits binary64 (fin false n d)) → in_units n d < result → (result + in_units n d) * (result + in_units n d) < 4 * a
