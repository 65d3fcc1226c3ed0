-- What a call leaves in the number that it is lent for the nanoseconds of a duration. Definitions only.
use Rattle.std.specs.Prelude.{ℕ, Result, Ok, Err}
use Rattle.duration.specs.declared.OutOfRange.{OutOfRange}

-- "A refused call .. leaves .. lent memory as before": the nanoseconds of the answer, or what stood there where there are none
abbrev pub stored : Result ℕ OutOfRange → ℕ → ℕ
stored (Ok n) before = n
stored (Err e) before = before
