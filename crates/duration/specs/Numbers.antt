-- What document 01 says of a whole answer: its number, and its nanoseconds, '0 when refused'. The number of a refusal is that which `OutOfRange::number` gives.
use Rattle.std.specs.Prelude.{◌≡◌, refl, ℕ, Ok, Err}
use Rattle.duration.specs.declared.OutOfRange.{OutOfRange}
use Rattle.duration.specs.declared.OutOfRange.TheVariants.{Negative, TooLong}
use Rattle.duration.specs.Duration.{number_of, refusal_number, nanoseconds_of}

pub number-of-a-duration : (n : ℕ) → number_of (Ok n) ≡ 0
number-of-a-duration n = refl

pub number-of-a-refusal : (e : OutOfRange) → number_of (Err e) ≡ refusal_number e
number-of-a-refusal e = refl

pub number-of-negative : number_of (Err Negative) ≡ 14
number-of-negative = refl

pub number-of-too-long : number_of (Err TooLong) ≡ 15
number-of-too-long = refl

pub nanoseconds-of-a-duration : (n : ℕ) → nanoseconds_of (Ok n) ≡ n
nanoseconds-of-a-duration n = refl

pub nanoseconds-of-a-refusal : (e : OutOfRange) → nanoseconds_of (Err e) ≡ 0
nanoseconds-of-a-refusal e = refl
