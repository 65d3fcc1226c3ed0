-- Laws of the walks: every count is from 1 to 50, 13 has count 50, the intercepts never give 12, and a found time is the time that the step
-- of its count accepts. Assumes nothing.
use mathlib.Core.Path.{◌≡◌, refl, ap, sym, ◌∙◌}
use mathlib.Core.Bool.{Bool, true, false, cond, false≢true}
use Prim.Native.Nat.{ℕ, zero, suc, ◌+◌, ◌-◌, ◌≤◌, ◌<◌}
use native.Mathlib.Omega.{arith}
use lib.Ieee.{Float, lt}
use lib.Ieee as Ieee
use Rattle.patterns.specs.Operators.{◌⊖◌, ◌⊘◌}
use Rattle.patterns.specs.Bits.{magnitude}
use Rattle.vectors.specs.Literal as literal
use Rattle.jord.specs.declared.speed.Speed.{Speed}
use Rattle.jord.specs.declared.vehicle.Vehicle.{Vehicle}
use Rattle.jord.specs.declared.positions.NVector.{NVector}
use Rattle.duration.specs.Duration.{from_seconds, from_hours}
use Rattle.std.specs.Prelude.{Result, Ok, Err}
use Rattle.duration.specs.declared.OutOfRange.{OutOfRange}
use Rattle.duration.specs.declared.OutOfRange.TheVariants as refused
use Rattle.walks.specs.Walk.{most_steps, settle, walk, cpa_new, cpa_value, cpa_slope, cpa_step, cpa_start, one_milli_hours, chase_new, corrected}
use Rattle.walks.specs.Walk.{int_min_step, spd_correction, int_spd_step, intercept_start}
use Rattle.walks.specs.Outcome.{number_of, count_of, of_converted, of_walk}
use Rattle.walks.specs.Times.{cpa_steps, cpa_walk, time_to_cpa, per_second, intercept_steps, intercept_walk, time_to_intercept, longest_steps}
use Rattle.walks.specs.Times.{longest_start, longest_walk, max_time_to_intercept}
use Rattle.walks.specs.Counts.{Counted, after, time_after, goes_on, Ends, Told, FoundAt}
use Rattle.walks.specs.declared.Cpa.{Cpa}
use Rattle.walks.specs.declared.Chase.{Chase}
use Rattle.walks.specs.declared.Step.{Step}
use Rattle.walks.specs.declared.Step.TheVariants as step
use Rattle.walks.specs.declared.Walk.{Walk}
use Rattle.walks.specs.declared.Walk.TheVariants as walked
use Rattle.walks.specs.declared.Outcome.{Outcome}
use Rattle.walks.specs.declared.Outcome.TheVariants.{Found, ZeroDerivative, NotConverged, Negative, TooLong}
use Rattle.jord.specs.declared.length.Length.{Length}

pub cond_same : {A : Type 0} (b : Bool) (x : A) → cond b x x ≡ x
cond_same true x = refl
cond_same false x = refl

-- ---- a walk is told by its steps

-- as `Ends`, with n steps left at t: k of them go on before the step that finds s
record EndsFrom (f : Float → Step) (n : ℕ) (t : Float) (count : ℕ) (s : Step) : Type 0 where
  pub k : ℕ
  pub is : count + n ≡ most_steps + (k + 1)
  pub less : k < n
  pub finds : f (time_after f t k) ≡ s
  pub before : (i : ℕ) → i < k → goes_on (f (time_after f t i)) ≡ true

abbrev ToldFrom : (Float → Step) → ℕ → Float → Walk → Type 0
ToldFrom f n t (walked.Accepted u count) = EndsFrom f n t count (step.Accepted u)
ToldFrom f n t (walked.ZeroDerivative count) = EndsFrom f n t count step.ZeroDerivative
ToldFrom f n t walked.NotConverged = (i : ℕ) → i < n → goes_on (f (time_after f t i)) ≡ true

module _ (f : Float → Step) where
  here : (n : ℕ) (t : Float) (s : Step) → n < most_steps → f t ≡ s → EndsFrom f (suc n) t (most_steps - n) s
  here n t s h e = record { k = 0; is = omega arith; less = omega arith; finds = e; before = λ i l. absurd (omega arith) }

  -- a step that goes on to u
  passed : (t u : Float) → f t ≡ step.Next u → (k : ℕ) → time_after f t (suc k) ≡ time_after f u k
  passed t u e k = ap (λ (s : Step). time_after f (after t s) k) e

  goes_on_lem : (t u : Float) → f t ≡ step.Next u → (n : ℕ) → ((i : ℕ) → i < n → goes_on (f (time_after f u i)) ≡ true)
      → (i : ℕ) → i < suc n → goes_on (f (time_after f t i)) ≡ true
  goes_on_lem t u e n h zero l = ap goes_on e
  goes_on_lem t u e n h (suc i) l = ap (λ (v : Float). goes_on (f v)) (passed t u e i) ∙ h i (omega arith)

  later : (n : ℕ) (t u : Float) (count : ℕ) (s : Step) → f t ≡ step.Next u → EndsFrom f n u count s → EndsFrom f (suc n) t count s
  later n t u count s e r =
      let i = r.is in
      let l = r.less in
      record {
        k = suc r.k;
        is = omega arith;
        less = omega arith;
        finds = ap f (passed t u e r.k) ∙ r.finds;
        before = goes_on_lem t u e r.k r.before;
      }

  moved : (n : ℕ) (t u : Float) (w : Walk) → f t ≡ step.Next u → ToldFrom f n u w → ToldFrom f (suc n) t w
  moved n t u (walked.Accepted v count) e r = later n t u count (step.Accepted v) e r
  moved n t u (walked.ZeroDerivative count) e r = later n t u count step.ZeroDerivative e r
  moved n t u walked.NotConverged e r = goes_on_lem t u e n r

  settled : (n : ℕ) (t : Float) (s : Step) → n < most_steps → f t ≡ s → ((u : Float) → ToldFrom f n u (walk f n u)) → ToldFrom f (suc n) t (settle (most_steps - n) s (walk f n))
  settled n t (step.Accepted u) h e r = here n t (step.Accepted u) h e
  settled n t step.ZeroDerivative h e r = here n t step.ZeroDerivative h e
  settled n t (step.Next u) h e r = moved n t u (walk f n u) e (r u)

  told-from : (n : ℕ) (t : Float) → n ≤ most_steps → ToldFrom f n t (walk f n t)
  unfolding walk
  told-from zero t h = λ i l. absurd (omega arith)
  told-from (suc n) t h = settled n t (f t) (omega arith) refl (λ u. told-from n u (omega arith))

  whole : (t : Float) (count : ℕ) (s : Step) → EndsFrom f most_steps t count s → Ends f t count s
  whole t count s r =
      let i = r.is in
      let l = r.less in
      let e : count - 1 ≡ r.k = omega arith in
      record {
        counted = record { some = omega arith; most = omega arith };
        finds = ap (λ (k : ℕ). f (time_after f t k)) e ∙ r.finds;
        before = λ i l. r.before i (omega arith);
      }

  telling : (t : Float) (w : Walk) → ToldFrom f most_steps t w → Told f t w
  telling t (walked.Accepted u count) r = whole t count (step.Accepted u) r
  telling t (walked.ZeroDerivative count) r = whole t count step.ZeroDerivative r
  telling t walked.NotConverged r = r

  -- what a walk comes to is what its steps find
  pub outcome-tells-steps : (t : Float) → Told f t (walk f most_steps t)
  outcome-tells-steps t = telling t (walk f most_steps t) (told-from most_steps t (omega arith))

-- ---- "A count is the steps begun, 1 to 50"

spanned : (s : Result ℕ OutOfRange) (count : ℕ) → Counted count → Counted (count_of (of_converted s count))
spanned (Ok ns) count h = h
spanned (Err refused.Negative) count h = h
spanned (Err refused.TooLong) count h = h

counted_of : (duration : Float → Result ℕ OutOfRange) (f : Float → Step) (t : Float) (w : Walk) → Told f t w → Counted (count_of (of_walk duration w))
counted_of duration f t (walked.Accepted u count) r = spanned (duration u) count r.counted
counted_of duration f t (walked.ZeroDerivative count) r = r.counted
counted_of duration f t walked.NotConverged r = record { some = omega arith; most = omega arith }

pub counts : (duration : Float → Result ℕ OutOfRange) (f : Float → Step) (t : Float) → Counted (count_of (of_walk duration (walk f most_steps t)))
counts duration f t = counted_of duration f t (walk f most_steps t) (outcome-tells-steps f t)

pub counts-cpa : (radius : Length) (own int : Vehicle) → Counted (count_of (time_to_cpa radius own int))
unfolding time_to_cpa
counts-cpa radius own int = counts from_hours (cpa_steps radius own int) cpa_start

pub counts-intercept : (radius : Length) (p : NVector) (v : Speed) (int : Vehicle) → Counted (count_of (time_to_intercept radius p v int))
unfolding time_to_intercept
counts-intercept radius p v int = counts from_seconds (intercept_steps radius p v int) intercept_start

pub counts-longest : (radius : Length) (p : NVector) (int : Vehicle) → Counted (count_of (max_time_to_intercept radius p int))
unfolding max_time_to_intercept
counts-longest radius p int = counts from_seconds (longest_steps radius p int) (longest_start radius p int)

-- "13 has count 50"
pub thirteen : (o : Outcome) → number_of o ≡ 13 → count_of o ≡ most_steps
thirteen (Found ns count) h = omega arith
thirteen (ZeroDerivative count) h = omega arith
thirteen NotConverged h = refl
thirteen (Negative count) h = omega arith
thirteen (TooLong count) h = omega arith

-- ---- 12 comes from `newton_raphson` alone

abbrev is_twelve : Step → Bool
is_twelve (step.Accepted t) = false
is_twelve step.ZeroDerivative = true
is_twelve (step.Next t) = false

twelve-cond : (b : Bool) (x y : Step) → is_twelve (cond b x y) ≡ cond b (is_twelve x) (is_twelve y)
twelve-cond true x y = refl
twelve-cond false x y = refl

corrected-twelve : (t fi : Float) → is_twelve (corrected t fi) ≡ false
unfolding corrected
corrected-twelve t fi = simp (twelve-cond, cond_same)

int-spd-twelve : (k : Chase) (w1 t : Float) → is_twelve (int_spd_step k w1 t) ≡ false
unfolding int_spd_step
int-spd-twelve k w1 t = corrected-twelve t (spd_correction k w1 t)

int-min-twelve : (k : Chase) (t : Float) → is_twelve (int_min_step k t) ≡ false
unfolding int_min_step
int-min-twelve k t = simp (twelve-cond, corrected-twelve, cond_same)

no-twelve-of : (duration : Float → Result ℕ OutOfRange) (f : Float → Step) (t : Float) (w : Walk) → ((u : Float) → is_twelve (f u) ≡ false) → Told f t w
    → number_of (of_walk duration w) ≡ 12 → ⊥
no-twelve-of duration f t (walked.Accepted u count) h r e = spans (duration u) e
  where
    spans : (s : Result ℕ OutOfRange) → number_of (of_converted s count) ≡ 12 → ⊥
    spans (Ok ns) e = omega arith
    spans (Err refused.Negative) e = omega arith
    spans (Err refused.TooLong) e = omega arith
no-twelve-of duration f t (walked.ZeroDerivative count) h r e = false≢true (sym (h _) ∙ ap is_twelve r.finds)
no-twelve-of duration f t walked.NotConverged h r e = omega arith

pub no-twelve-intercept : (radius : Length) (p : NVector) (v : Speed) (int : Vehicle) → number_of (time_to_intercept radius p v int) ≡ 12 → ⊥
unfolding time_to_intercept
no-twelve-intercept radius p v int =
    let f = intercept_steps radius p v int in
    no-twelve-of from_seconds f intercept_start (intercept_walk radius p v int) (int-spd-twelve (chase_new radius p int) (per_second radius v))
    (outcome-tells-steps f intercept_start)

pub no-twelve-longest : (radius : Length) (p : NVector) (int : Vehicle) → number_of (max_time_to_intercept radius p int) ≡ 12 → ⊥
unfolding max_time_to_intercept
no-twelve-longest radius p int =
    let f = longest_steps radius p int in
    no-twelve-of from_seconds f (longest_start radius p int) (longest_walk radius p int) (int-min-twelve (chase_new radius p int))
    (outcome-tells-steps f (longest_start radius p int))

-- ---- a found time is the time of the step that its count names

found_of : (duration : Float → Result ℕ OutOfRange) (f : Float → Step) (t : Float) (w : Walk) (ns count : ℕ) → Told f t w → of_walk duration w ≡ Found ns count
    → FoundAt duration f t ns count
found_of duration f t (walked.Accepted u n) ns count r e = of-converted (duration u) refl e
  where
    of-converted : (s : Result ℕ OutOfRange) → duration u ≡ s → of_converted s n ≡ Found ns count → FoundAt duration f t ns count
    of-converted (Ok m) d e =
        let a : n ≡ count = cc in
        let b : m ≡ ns = cc in
        record { time = u; ends = rw (← a) r; lasts = d ∙ ap Ok b }
    of-converted (Err refused.Negative) d e = absurd (cc)
    of-converted (Err refused.TooLong) d e = absurd (cc)
found_of duration f t (walked.ZeroDerivative n) ns count r e = absurd (cc)
found_of duration f t walked.NotConverged ns count r e = absurd (cc)

-- closest approach accepts "the time before the correction"
accepts-before : (a b : Bool) (x u v : Float) → cond a step.ZeroDerivative (cond b (step.Accepted x) (step.Next v)) ≡ step.Accepted u → u ≡ x
accepts-before true b x u v e = cc
accepts-before false true x u v e = cc
accepts-before false false x u v e = cc

cpa-accepts : (k : Cpa) (x u : Float) → cpa_step k x ≡ step.Accepted u → u ≡ x
unfolding cpa_step
cpa-accepts k x u e =
    let m = cpa_value k x ⊘ cpa_slope k x in
    accepts-before (Ieee.eq (cpa_slope k x) literal.zero) (lt (magnitude m) one_milli_hours) x u (x ⊖ m) e

pub found-cpa : (radius : Length) (own int : Vehicle) (ns count : ℕ) → time_to_cpa radius own int ≡ Found ns count
    → from_hours (time_after (cpa_steps radius own int) cpa_start (count - 1)) ≡ Ok ns
unfolding time_to_cpa
found-cpa radius own int ns count e =
    let f = cpa_steps radius own int in
    let r = found_of from_hours f cpa_start (cpa_walk radius own int) ns count (outcome-tells-steps f cpa_start) e in
    ap from_hours (sym (cpa-accepts (cpa_new radius own int) (time_after f cpa_start (count - 1)) r.time r.ends.finds)) ∙ r.lasts

pub found-intercept : (radius : Length) (p : NVector) (v : Speed) (int : Vehicle) (ns count : ℕ) → time_to_intercept radius p v int ≡ Found ns count
    → FoundAt from_seconds (intercept_steps radius p v int) intercept_start ns count
unfolding time_to_intercept
found-intercept radius p v int ns count e =
    let f = intercept_steps radius p v int in
    found_of from_seconds f intercept_start (intercept_walk radius p v int) ns count (outcome-tells-steps f intercept_start) e

pub found-longest : (radius : Length) (p : NVector) (int : Vehicle) (ns count : ℕ) → max_time_to_intercept radius p int ≡ Found ns count
    → FoundAt from_seconds (longest_steps radius p int) (longest_start radius p int) ns count
unfolding max_time_to_intercept
found-longest radius p int ns count e =
    let f = longest_steps radius p int in
    found_of from_seconds f (longest_start radius p int) (longest_walk radius p int) ns count (outcome-tells-steps f (longest_start radius p int)) e
