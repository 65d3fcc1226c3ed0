-- What the laws of proofs/Counts and proofs/Thirteen say of the walks: which step a count names, and what that step found. Definitions only.
use Rattle.std.specs.Prelude.{◌≡◌, Bool, true, false, ℕ, zero, suc, ◌+◌, ◌-◌, ◌≤◌, ◌<◌, Float, Result, Ok}
use Rattle.std.specs.Float.Ieee as Ieee
use Rattle.std.specs.Float.Ieee.{lt}
use Rattle.patterns.specs.Operators.{◌⊖◌, ◌⊘◌}
use Rattle.patterns.specs.Bits.{magnitude}
use Rattle.vectors.specs.Literal as literal
use Rattle.duration.specs.declared.OutOfRange.{OutOfRange}
use Rattle.walks.specs.Walk.{most_steps, one_milli_hours, cpa_value, cpa_slope, sep, intercept_epsilon, min_correction, spd_correction}
use Rattle.walks.specs.declared.Cpa.{Cpa}
use Rattle.walks.specs.declared.Chase.{Chase}
use Rattle.walks.specs.declared.Step.{Step}
use Rattle.walks.specs.declared.Step.TheVariants as step
use Rattle.walks.specs.declared.Walk.{Walk}
use Rattle.walks.specs.declared.Walk.TheVariants as walked

-- "A count is the steps begun, 1 to 50"
pub record Counted (count : ℕ) : Type 0 where
  pub some : 1 ≤ count
  pub most : count ≤ most_steps

-- the time of the step that follows a step s at t; t itself where s ends the walk
abbrev pub after : Float → Step → Float
after t (step.Accepted u) = t
after t step.ZeroDerivative = t
after t (step.Next u) = u

-- the time after k steps f from t
abbrev pub time_after : (Float → Step) → Float → ℕ → Float
time_after f t zero = t
time_after f t (suc k) = time_after f (after t (f t)) k

-- whether the walk goes on after a step
abbrev pub goes_on : Step → Bool
goes_on (step.Accepted t) = false
goes_on step.ZeroDerivative = false
goes_on (step.Next t) = true

-- the steps f from t go on up to the step of this count, which finds s
pub record Ends (f : Float → Step) (t : Float) (count : ℕ) (s : Step) : Type 0 where
  pub counted : Counted count
  pub finds : f (time_after f t (count - 1)) ≡ s
  pub before : (i : ℕ) → i + 1 < count → goes_on (f (time_after f t i)) ≡ true

-- what the outcome of a walk by the steps f from t says of them
abbrev pub Told : (Float → Step) → Float → Walk → Type 0
Told f t (walked.Accepted u count) = Ends f t count (step.Accepted u)
Told f t (walked.ZeroDerivative count) = Ends f t count step.ZeroDerivative
Told f t walked.NotConverged = (i : ℕ) → i < most_steps → goes_on (f (time_after f t i)) ≡ true

-- the step of this count accepts a time whose duration is ns nanoseconds
pub record FoundAt (duration : Float → Result ℕ OutOfRange) (f : Float → Step) (t : Float) (ns count : ℕ) : Type 0 where
  pub time : Float
  pub ends : Ends f t count (step.Accepted time)
  pub lasts : duration time ≡ Ok ns

-- ---- request 2026-05: "Number 13 then means fifty steps in which no test of that walk passed"

-- of a step to the closest approach: the derivative is not zero, the correction not below `ONE_MILLI_HOURS`
pub record CpaMoves (k : Cpa) (x : Float) : Type 0 where
  pub steep : Ieee.eq (cpa_slope k x) literal.zero ≡ false
  pub not_small : lt (magnitude (cpa_value k x ⊘ cpa_slope k x)) one_milli_hours ≡ false

-- no test passes of the correction fi at t: it is not below 1e-11, and it moves the time
pub record Moves (t fi : Float) : Type 0 where
  pub not_small : lt (magnitude fi) intercept_epsilon ≡ false
  pub moved : Ieee.eq (t ⊖ fi) t ≡ false

-- of a step to an intercept at the angular speed w1
abbrev pub SpdMoves : Chase → Float → Float → Type 0
SpdMoves k w1 t = Moves t (spd_correction k w1 t)

-- of a step to the longest intercept: nor is the separation zero
pub record MinMoves (k : Chase) (t : Float) : Type 0 where
  pub apart : Ieee.eq (sep k t) literal.zero ≡ false
  pub moves : Moves t (min_correction k t)
