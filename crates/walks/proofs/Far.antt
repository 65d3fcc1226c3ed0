-- Request 2026-05, far meetings: whatever the old rule answered, but for 13, is answered under the new. Assumes nothing.
-- The new steps differ from the old only where the old stand still, and a walk that stands still accepts no time.
use mathlib.Core.Path.{◌≡◌, refl, ap, subst}
use mathlib.Core.Bool.{Bool, true, false, cond}
use mathlib.Core.Logic.{◌⊎◌, inl, inr, ⊎_elim}
use Prim.Native.Nat.{ℕ, zero, suc, ◌-◌}
use lib.Dec.{T}
use lib.Ieee as Ieee
use lib.Ieee.{Float, binary64, fits, lt, of_bits}
use lib.Ieee.Fits.{sub-fits, div-fits}
use Rattle.patterns.specs.Operators.{◌⊖◌}
use Rattle.patterns.specs.Bits.{magnitude}
use Rattle.vectors.specs.Literal as literal
use Rattle.jord.specs.declared.speed.Speed.{Speed}
use Rattle.jord.specs.declared.vehicle.Vehicle.{Vehicle}
use Rattle.jord.specs.declared.positions.NVector.{NVector}
use Rattle.walks.specs.Walk as walks
use Rattle.walks.specs.Walk.{most_steps, walk, chase_new, chase_start, sep, intercept_epsilon, min_correction, spd_correction, intercept_start}
use Rattle.walks.specs.Outcome.{number_of, of_seconds}
use Rattle.walks.specs.Times as times
use Rattle.walks.specs.Times.{per_second, longest_start}
use Rattle.walks.specs.Before.{corrected, int_min_step, int_spd_step, time_to_intercept, max_time_to_intercept, Keeps, KeepsWalk, FarMeetings}
use Rattle.walks.specs.declared.Chase.{Chase}
use Rattle.walks.specs.declared.Step.{Step}
use Rattle.walks.specs.declared.Step.TheVariants as step
use Rattle.walks.specs.declared.Walk.{Walk}
use Rattle.walks.specs.declared.Walk.TheVariants.{NotConverged}
use Rattle.jord.specs.declared.length.Length.{Length}
use Rattle.walks.proofs.Still.{still}

-- ---- two steps that differ only where the first stands still

record Alike (f g : Float → Step) : Type 0 where
  pub same : (t : Float) → T (fits binary64 t) → (f t ≡ step.Next t) ⊎ (g t ≡ f t)
  pub held : (t u : Float) → f t ≡ step.Next u → T (fits binary64 u)

module _ (f g : Float → Step) (a : Alike f g) where
  stuck : (n : ℕ) (t : Float) → f t ≡ step.Next t → walk f n t ≡ NotConverged
  unfolding walk
  stuck zero t e = refl
  stuck (suc n) t e = rw e (stuck n t e)

  -- what both walks come to after a step that is the same
  stepped : (n : ℕ) (t : Float) (s : Step) → f t ≡ s → g t ≡ f t
      → ((u : Float) → T (fits binary64 u) → (walk f n u ≡ NotConverged) ⊎ (walk g n u ≡ walk f n u))
      → (walk f (suc n) t ≡ NotConverged) ⊎ (walk g (suc n) t ≡ walk f (suc n) t)
  unfolding walk
  stepped n t (step.Accepted u) e q rest = inr (rw (q, e))
  stepped n t step.ZeroDerivative e q rest = inr (rw (q, e))
  stepped n t (step.Next u) e q rest = ⊎_elim (λ z. inl (rw e z)) (λ z. inr (rw (q, e) z)) (rest u (a.held t u e))

  kept : (n : ℕ) (t : Float) → T (fits binary64 t) → (walk f n t ≡ NotConverged) ⊎ (walk g n t ≡ walk f n t)
  unfolding walk
  kept zero t h = inr refl
  kept (suc n) t h = ⊎_elim (λ e. inl (stuck (suc n) t e)) (λ e. stepped n t (f t) refl e (kept n)) (a.same t h)

  keeps-walk : (n : ℕ) (t : Float) → T (fits binary64 t) → KeepsWalk (walk f n t) (walk g n t)
  keeps-walk n t h x = ⊎_elim (λ e. absurd (x e)) (λ e. e) (kept n t h)

  keeps : (n : ℕ) (t : Float) → T (fits binary64 t) → Keeps (of_seconds (walk f n t)) (of_seconds (walk g n t))
  keeps n t h x = ⊎_elim (λ e. absurd (x (ap (λ (w : Walk). number_of (of_seconds w)) e))) (λ e. ap of_seconds e) (kept n t h)

-- ---- the old and the new rule

abbrev StillOrSame : Float → Step → Step → Type 0
StillOrSame t old new = (old ≡ step.Next t) ⊎ (new ≡ old)

corrected-by : (t fi : Float) (b c : Bool) → T (fits binary64 t) → T (fits binary64 fi) → lt (magnitude fi) intercept_epsilon ≡ b → Ieee.eq (t ⊖ fi) t ≡ c
    → StillOrSame t (corrected t fi) (walks.corrected t fi)
unfolding corrected walks.corrected
corrected-by t fi true c h g p q = inr (rw p)
corrected-by t fi false true h g p q = inl (rw p (ap step.Next (still t fi h g p q)))
corrected-by t fi false false h g p q = inr (rw (p, q))

corrected-same : (t fi : Float) → T (fits binary64 t) → T (fits binary64 fi) → StillOrSame t (corrected t fi) (walks.corrected t fi)
corrected-same t fi h g = corrected-by t fi (lt (magnitude fi) intercept_epsilon) (Ieee.eq (t ⊖ fi) t) h g refl refl

-- after a test that both make first
unless-met : (b : Bool) (t : Float) (old new : Step) → StillOrSame t old new → StillOrSame t (cond b (step.Accepted t) old) (cond b (step.Accepted t) new)
unless-met true t old new h = inr refl
unless-met false t old new h = h

-- a next time is a step's own corrected time
next-is : (b : Bool) (t u : Float) (s : Step) → cond b (step.Accepted t) s ≡ step.Next u → s ≡ step.Next u
next-is true t u s e = cc
next-is false t u s e = e

corrected-held : (t fi u : Float) → corrected t fi ≡ step.Next u → T (fits binary64 u)
unfolding corrected
corrected-held t fi u e =
    let n : t ⊖ fi ≡ u = cc (next-is (lt (magnitude fi) intercept_epsilon) (t ⊖ fi) u (step.Next (t ⊖ fi)) e) in
    subst (λ (x : Float). T (fits binary64 x)) n (sub-fits binary64 t fi)

spd-alike : (k : Chase) (w1 : Float) → Alike (int_spd_step k w1) (walks.int_spd_step k w1)
unfolding int_spd_step walks.int_spd_step
spd-alike k w1 =
    record {
      same = λ t h. corrected-same t (spd_correction k w1 t) h (div-fits binary64 _ _);
      held = λ t u e. corrected-held t (spd_correction k w1 t) u e;
    }

min-alike : (k : Chase) → Alike (int_min_step k) (walks.int_min_step k)
unfolding int_min_step walks.int_min_step
min-alike k =
    record {
      same = λ t h.
          unless-met (Ieee.eq (sep k t) literal.zero) t (corrected t (min_correction k t)) (walks.corrected t (min_correction k t))
          (corrected-same t (min_correction k t) h (div-fits binary64 _ _));
      held = λ t u e. corrected-held t (min_correction k t) u (next-is (Ieee.eq (sep k t) literal.zero) t u (corrected t (min_correction k t)) e);
    }

-- ---- the request's claim

start-held : T (fits binary64 intercept_start)
unfolding fits of_bits
start-held = tt

longest-start-held : (radius : Length) (p : NVector) (int : Vehicle) → T (fits binary64 (longest_start radius p int))
unfolding chase_start
longest-start-held radius p int = div-fits binary64 _ _

intercept-kept : (radius : Length) (p : NVector) (v : Speed) (int : Vehicle) → Keeps (time_to_intercept radius p v int) (times.time_to_intercept radius p v int)
unfolding time_to_intercept times.time_to_intercept
intercept-kept radius p v int =
    let k = chase_new radius p int in
    let w1 = per_second radius v in
    keeps (int_spd_step k w1) (walks.int_spd_step k w1) (spd-alike k w1) most_steps intercept_start start-held

longest-kept : (radius : Length) (p : NVector) (int : Vehicle) → Keeps (max_time_to_intercept radius p int) (times.max_time_to_intercept radius p int)
unfolding max_time_to_intercept times.max_time_to_intercept
longest-kept radius p int =
    let k = chase_new radius p int in
    keeps (int_min_step k) (walks.int_min_step k) (min-alike k) most_steps (longest_start radius p int) (longest-start-held radius p int)

pub far-meetings : FarMeetings
far-meetings =
    record {
      intercept = intercept-kept;
      longest = longest-kept;
      int_spd = λ k w1 t i h. keeps-walk (int_spd_step k w1) (walks.int_spd_step k w1) (spd-alike k w1) (most_steps - i) t h;
      int_min = λ k t i h. keeps-walk (int_min_step k) (walks.int_min_step k) (min-alike k) (most_steps - i) t h;
    }
