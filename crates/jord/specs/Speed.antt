-- speed.rs: speeds in metres a second. Definitions only. A duration is a number of nanoseconds.
use Rattle.std.specs.Prelude.{ℕ, Float}
use Rattle.std.specs.Float.{binary64}
use Rattle.std.specs.Float.Ieee.{of_bits}
use Rattle.patterns.specs.Operators.{◌⊗◌, ◌⊘◌}
use Rattle.duration.specs.Duration.{to_seconds}
use Rattle.vectors.specs.Literal.{zero}
use Rattle.jord.specs.Length.{from_metres}
use Rattle.jord.specs.declared.length.Length.{Length}
use Rattle.jord.specs.declared.speed.Speed.{Speed}

-- 1000.0 / 3600.0, by its bits; Table has the working
abbrev pub KPH_TO_MPS : Float
KPH_TO_MPS = of_bits binary64 0x3fd1c71c71c71c72

-- 1852.0 / 3600.0, by its bits; Table has the working
abbrev pub KNOTS_TO_MPS : Float
KNOTS_TO_MPS = of_bits binary64 0x3fe07654320fedcc

-- Speed { mps }
abbrev pub from_metres_per_second : Float → Speed
from_metres_per_second mps = record { mps = mps }

-- 0.0
abbrev pub ZERO : Speed
ZERO = from_metres_per_second zero

-- kph * KPH_TO_MPS
abbrev pub from_kilometres_per_hour : Float → Speed
from_kilometres_per_hour kph = from_metres_per_second (kph ⊗ KPH_TO_MPS)

-- knots * KNOTS_TO_MPS
abbrev pub from_knots : Float → Speed
from_knots knots = from_metres_per_second (knots ⊗ KNOTS_TO_MPS)

-- self.mps
abbrev pub as_metres_per_second : Speed → Float
as_metres_per_second s = s.mps

-- self.mps / KPH_TO_MPS
abbrev pub as_kilometres_per_hour : Speed → Float
as_kilometres_per_hour s = s.mps ⊘ KPH_TO_MPS

-- self.mps / KNOTS_TO_MPS
abbrev pub as_knots : Speed → Float
as_knots s = s.mps ⊘ KNOTS_TO_MPS

-- self.as_metres_per_second() * rhs.as_secs_f64()
abbrev pub mul_duration : Speed → ℕ → Length
mul_duration s nanoseconds = from_metres (s.mps ⊗ to_seconds nanoseconds)

-- self.as_metres() / rhs.as_secs_f64()
abbrev pub div_duration : Length → ℕ → Speed
div_duration l nanoseconds = from_metres_per_second (l.metres ⊘ to_seconds nanoseconds)
