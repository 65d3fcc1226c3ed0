-- A float's sign bit, magnitude and pattern, over the values of `lib.Ieee`. Definitions only.
-- `to_bits` and `of_bits` are that file's: any NaN is written 7ff8000000000000, and every NaN pattern is read as a NaN.
use Rattle.std.specs.Prelude.{ℕ, ◌+◌, ◌-◌, ◌/◌, ◌%◌, ◌^◌, Bool, false, cond, ◌==◌, Float}
use Rattle.std.specs.Float.{nan, inf, fin}

-- the sign bit; a NaN has none
abbrev pub sign_bit : Float → Bool
sign_bit nan = false
sign_bit (inf s) = s
sign_bit (fin s m e) = s

-- the value with its sign bit clear
abbrev pub magnitude : Float → Float
magnitude nan = nan
magnitude (inf s) = inf false
magnitude (fin s m e) = fin false m e

-- The magnitude of a finite value is digits * 2 ^ place in units of 2 ^ -1074, the smallest value: the digits are the 52 low bits
-- and a leading one, but for an exponent's field of 0, which has no leading one and stands at the same place as a field of 1.
abbrev pub digits : ℕ → ℕ
digits b = cond (b % 2 ^ 63 / 2 ^ 52 == 0) (b % 2 ^ 52) (b % 2 ^ 52 + 2 ^ 52)

abbrev pub place : ℕ → ℕ
place b = b % 2 ^ 63 / 2 ^ 52 - 1
