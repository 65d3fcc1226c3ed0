-- What a walk comes to in the answer: document 01's numbers 12 to 15, with the count and the nanoseconds of each. Definitions only.
use Rattle.std.specs.Prelude.{ℕ, Float, Result, Ok, Err}
use Rattle.duration.specs.Duration.{from_seconds, from_hours}
use Rattle.duration.specs.declared.OutOfRange.{OutOfRange}
use Rattle.duration.specs.declared.OutOfRange.TheVariants as refused
use Rattle.walks.specs.Walk.{most_steps}
use Rattle.walks.specs.declared.Walk.{Walk}
use Rattle.walks.specs.declared.Walk.TheVariants as walked
use Rattle.walks.specs.declared.Outcome.{Outcome}
use Rattle.walks.specs.declared.Outcome.TheVariants.{Found, ZeroDerivative, NotConverged, Negative, TooLong}

-- the number of an outcome; 0 is done
abbrev pub number_of : Outcome → ℕ
number_of (Found ns count) = 0
number_of (ZeroDerivative count) = 12
number_of NotConverged = 13
number_of (Negative count) = 14
number_of (TooLong count) = 15

-- "A count is the steps begun, 1 to 50"; "13 has count 50"
abbrev pub count_of : Outcome → ℕ
count_of (Found ns count) = count
count_of (ZeroDerivative count) = count
count_of NotConverged = most_steps
count_of (Negative count) = count
count_of (TooLong count) = count

-- the nanoseconds of an outcome, "0 when refused"
abbrev pub nanoseconds_of : Outcome → ℕ
nanoseconds_of (Found ns count) = ns
nanoseconds_of (ZeroDerivative count) = 0
nanoseconds_of NotConverged = 0
nanoseconds_of (Negative count) = 0
nanoseconds_of (TooLong count) = 0

-- "Is it zero or more? 14. Is it below 2^34 seconds? 15": as the time's duration answers them
abbrev pub of_converted : Result ℕ OutOfRange → ℕ → Outcome
of_converted (Ok ns) count = Found ns count
of_converted (Err refused.Negative) count = Negative count
of_converted (Err refused.TooLong) count = TooLong count

-- "`newton_raphson`: is the derivative other than zero? 12. Walk: was a time accepted within 50 steps? 13", then 14 and 15
abbrev pub of_walk : (Float → Result ℕ OutOfRange) → Walk → Outcome
of_walk duration (walked.Accepted t count) = of_converted (duration t) count
of_walk duration (walked.ZeroDerivative count) = ZeroDerivative count
of_walk duration walked.NotConverged = NotConverged

-- of a walk over seconds, and of one over hours
abbrev pub of_seconds : Walk → Outcome
of_seconds w = of_walk from_seconds w

abbrev pub of_hours : Walk → Outcome
of_hours w = of_walk from_hours w
