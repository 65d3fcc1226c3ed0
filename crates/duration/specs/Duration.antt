-- Durations, which are whole nanoseconds, from seconds and from hours, and back to seconds. Definitions only.
-- Floats are the values of `lib.Ieee`. A finite one is the fraction `num` / `den` in size. `closest a b` is a / b to the nearest whole number,
-- a tie to the even one. A time that has no duration is answered by an `Err`, and `number_of` gives document 01's number of each answer.
use Rattle.std.specs.Prelude.{ℕ, ◌+◌, ◌*◌, ◌/◌, ◌%◌, ◌^◌, Bool, true, false, cond, eqb, Float, Result, Ok, Err}
use Rattle.std.specs.Float.Ieee.{le, lt}
use Rattle.std.specs.Float.Ieee.Nearest.{closest}
use Rattle.std.specs.Float.Ieee.Positive.{num, den}
use Rattle.patterns.specs.Operators.{◌⊕◌, ◌⊗◌, ◌⊘◌, whole}
use Rattle.duration.specs.declared.OutOfRange.{OutOfRange}
use Rattle.duration.specs.declared.OutOfRange.TheVariants.{Negative, TooLong}

-- ---- the numbers

-- the nanoseconds of a second
abbrev pub second : ℕ
second = 10 ^ 9

-- the nanoseconds of an hour: 3.6e12
abbrev pub hour : ℕ
hour = 3600 * second

-- the seconds from which on a time is too long
abbrev pub limit : ℕ
limit = 2 ^ 34

-- the limit in nanoseconds: 2 ^ 34 times 10 ^ 9, which is a value of binary64, as all of these are
abbrev pub limit_nanoseconds : ℕ
limit_nanoseconds = limit * second

-- ---- the questions

-- 'Is it zero or more?': -0 is, and a NaN is not
abbrev pub zero_or_more : Float → Bool
zero_or_more x = le (whole 0) x

-- 'Is it zero or more? 14. Is it below 2^34 seconds? 15': the first no is the answer
unfoldable pub asked : Bool → Bool → ℕ → Result ℕ OutOfRange
asked false below n = Err Negative
asked true false n = Err TooLong
asked true true n = Ok n

-- the number of a no
abbrev pub refusal_number : OutOfRange → ℕ
refusal_number Negative = 14
refusal_number TooLong = 15

-- the number of an answer; 0 is done
abbrev pub number_of : Result ℕ OutOfRange → ℕ
number_of (Ok n) = 0
number_of (Err e) = refusal_number e

-- the nanoseconds of an answer, '0 when refused'
abbrev pub nanoseconds_of : Result ℕ OutOfRange → ℕ
nanoseconds_of (Ok n) = n
nanoseconds_of (Err e) = 0

-- ---- the conversions

-- 'Is it below 2^34 seconds?'
abbrev pub below_limit : Float → Bool
below_limit t = lt t (whole limit)

-- 'exact value times 10^9, nearest, ties to even'
abbrev pub exact_nanoseconds : Float → ℕ
exact_nanoseconds t = closest (num t * second) (den t)

-- 'Seconds to nanoseconds'
unfoldable pub from_seconds : Float → Result ℕ OutOfRange
unfolding asked
from_seconds t = asked (zero_or_more t) (below_limit t) (exact_nanoseconds t)

-- 'the float product of hours and 3.6e12'
abbrev pub product : Float → Float
product h = h ⊗ whole hour

-- 'the float product of hours and 3.6e12 below 2^34 times 10^9'
abbrev pub product_below : Float → Bool
product_below h = lt (product h) (whole limit_nanoseconds)

-- a / b to the nearest whole number, halves away from zero: a / b + 1 / 2, cut
abbrev pub half_away : ℕ → ℕ → ℕ
half_away a b = (2 * a + b) / (2 * b)

-- 'the float product with 3.6e12, nearest, halves away from zero'
abbrev pub product_nanoseconds : Float → ℕ
product_nanoseconds h = half_away (num (product h)) (den (product h))

-- 'Hours': zero or more is asked of the hours, the limit of the product
unfoldable pub from_hours : Float → Result ℕ OutOfRange
unfolding asked
from_hours h = asked (zero_or_more h) (product_below h) (product_nanoseconds h)

-- 'A duration's seconds as float: whole seconds plus nanoseconds/1e9'
abbrev pub to_seconds : ℕ → Float
to_seconds n = whole (n / second) ⊕ whole (n % second) ⊘ whole second

-- ---- a step of rounding

-- q and h halves, h being 0 or 1, and whether there is a rest below them: nearest, ties to even
unfoldable pub settled : ℕ → ℕ → Bool → ℕ
settled q h rest = cond (eqb h 0) q (cond rest (q + 1) (q + q % 2))
