-- The walks of sphere.rs. Definitions only.
-- A step looks at one time: it accepts a time, finds a zero derivative, or gives the time of the next step. A walk repeats its step, at most
-- 50 times, and "a count is the steps begun". The three walks differ in step and start alone, so one definition serves them all.
use Rattle.std.specs.Prelude.{ℕ, zero, suc, ◌-◌, cond, Float}
use Rattle.std.specs.Float.Ieee as Ieee
use Rattle.std.specs.Float.{binary64}
use Rattle.std.specs.Float.Ieee.{of_bits, lt, neg}
use Rattle.patterns.specs.Operators.{◌⊕◌, ◌⊖◌, ◌⊗◌, ◌⊘◌}
use Rattle.patterns.specs.Bits.{magnitude}
use Rattle.float.specs.Trig.{sin, cos}
use Rattle.vectors.specs.Literal as literal
use Rattle.vectors.specs.Vec3 as vec3
use Rattle.jord.specs.Length.{as_metres, as_nautical_miles}
use Rattle.jord.specs.Speed.{as_metres_per_second, as_knots}
use Rattle.jord.specs.Positions.{as_vec3}
use Rattle.vectors.specs.declared.vec3.Vec3.{Vec3}
use Rattle.jord.specs.declared.length.Length.{Length}
use Rattle.jord.specs.declared.positions.NVector.{NVector}
use Rattle.jord.specs.declared.vehicle.Vehicle.{Vehicle}
use Rattle.arcs.specs.Base.{angle_radians_between}
use Rattle.walks.specs.Course.{course}
use Rattle.walks.specs.declared.Cpa.{Cpa}
use Rattle.walks.specs.declared.Sines.{Sines}
use Rattle.walks.specs.declared.Chase.{Chase}
use Rattle.walks.specs.declared.Step.{Step}
use Rattle.walks.specs.declared.Step.TheVariants as step
use Rattle.walks.specs.declared.Walk.{Walk}
use Rattle.walks.specs.declared.Walk.TheVariants as walked

-- ---- a walk

-- "50 steps"
abbrev pub most_steps : ℕ
most_steps = 50

-- what a walk comes to when its step of this count finds s; rest is the walk from a next time on
abbrev pub settle : ℕ → Step → (Float → Walk) → Walk
settle count (step.Accepted t) rest = walked.Accepted t count
settle count step.ZeroDerivative rest = walked.ZeroDerivative count
settle count (step.Next t) rest = rest t

-- the walk by the step f from the time t on, with n of the 50 steps left; with suc n left, the next step has the count 50 - n
unfoldable pub walk : (Float → Step) → ℕ → Float → Walk
walk f zero t = walked.NotConverged
walk f (suc n) t = settle (most_steps - n) (f t) (walk f n)

-- ---- the closest approach

-- a, b, c and d of the source's `cpa_fn`
unfoldable pub cpa_coefficients : Vec3 → Vec3 → Float → Vec3 → Vec3 → Float → Cpa
cpa_coefficients p10 c10 w1 p20 c20 w2 =
    record {
      a = neg (w1 ⊗ vec3.dot_prod p10 c20 ⊕ w2 ⊗ vec3.dot_prod p20 c10);
      b = w1 ⊗ vec3.dot_prod c10 p20 ⊕ w2 ⊗ vec3.dot_prod c20 p10;
      c = neg (w1 ⊗ vec3.dot_prod p10 p20 ⊖ w2 ⊗ vec3.dot_prod c20 c10);
      d = w1 ⊗ vec3.dot_prod c10 c20 ⊖ w2 ⊗ vec3.dot_prod p20 p10;
      w1 = w1;
      w2 = w2;
    }

-- own_w = own_speed_knots / r_nm, and so int_w
abbrev per_hour : Length → Vehicle → Float
per_hour radius v = as_knots v.speed ⊘ as_nautical_miles radius

-- the coefficients of two vehicles, as `time_to_cpa` works them out
unfoldable pub cpa_new : Length → Vehicle → Vehicle → Cpa
cpa_new radius own int =
    cpa_coefficients (as_vec3 own.position) (course own) (per_hour radius own)
    (as_vec3 int.position) (course int) (per_hour radius int)

-- sw1t = (w1 * t).sin(), sw2t = (w2 * t).sin(), cw1t = (w1 * t).cos(), cw2t = (w2 * t).cos()
unfoldable pub sines_at : Cpa → Float → Sines
sines_at k t = record { sw1t = sin (k.w1 ⊗ t); sw2t = sin (k.w2 ⊗ t); cw1t = cos (k.w1 ⊗ t); cw2t = cos (k.w2 ⊗ t) }

-- a * sw1t * sw2t + b * cw1t * cw2t + c * sw1t * cw2t + d * cw1t * sw2t
unfoldable pub cpa_fn : Cpa → Sines → Float
cpa_fn k s = k.a ⊗ s.sw1t ⊗ s.sw2t ⊕ k.b ⊗ s.cw1t ⊗ s.cw2t ⊕ k.c ⊗ s.sw1t ⊗ s.cw2t ⊕ k.d ⊗ s.cw1t ⊗ s.sw2t

-- -(c * w2 + d * w1) * sw1t * sw2t + (d * w2 + c * w1) * cw1t * cw2t + (a * w2 - b * w1) * sw1t * cw2t - (b * w2 - a * w1) * cw1t * sw2t
unfoldable pub cpa_derivate : Cpa → Sines → Float
cpa_derivate k s =
    neg (k.c ⊗ k.w2 ⊕ k.d ⊗ k.w1) ⊗ s.sw1t ⊗ s.sw2t
    ⊕ (k.d ⊗ k.w2 ⊕ k.c ⊗ k.w1) ⊗ s.cw1t ⊗ s.cw2t
    ⊕ (k.a ⊗ k.w2 ⊖ k.b ⊗ k.w1) ⊗ s.sw1t ⊗ s.cw2t
    ⊖ (k.b ⊗ k.w2 ⊖ k.a ⊗ k.w1) ⊗ s.cw1t ⊗ s.sw2t

-- `ONE_MILLI_HOURS`: 1.0 / (3600.0 * 1000.0), by its bits; Table has the working
abbrev pub one_milli_hours : Float
one_milli_hours = of_bits binary64 0x3e92a42f961f79b9

-- "tests the derivative, then the correction strictly below `ONE_MILLI_HOURS`, and returns the time before the correction"
abbrev newton : Float → Float → Float → Step
newton x y d =
    cond (Ieee.eq d literal.zero) step.ZeroDerivative
    (cond (lt (magnitude (y ⊘ d)) one_milli_hours) (step.Accepted x) (step.Next (x ⊖ y ⊘ d)))

-- y = f(x) and d = df(x)
abbrev pub cpa_value : Cpa → Float → Float
cpa_value k x = cpa_fn k (sines_at k x)

abbrev pub cpa_slope : Cpa → Float → Float
cpa_slope k x = cpa_derivate k (sines_at k x)

unfoldable pub cpa_step : Cpa → Float → Step
cpa_step k x = newton x (cpa_value k x) (cpa_slope k x)

-- x0 = 0.0
abbrev pub cpa_start : Float
cpa_start = literal.zero

-- "`newton_raphson` starts at 0"
abbrev pub newton_raphson : Cpa → Walk
newton_raphson k = walk (cpa_step k) most_steps cpa_start

-- ---- the intercepts

-- the coefficients as `time_to_intercept` and `max_time_to_intercept` work them out; w2 is int_speed_mps / r_m
abbrev chase_at : Float → Vec3 → Vec3 → Vec3 → Float → Chase
chase_at radius v10 v20 c2 s2 =
    record {
      v10 = v10;
      v20 = v20;
      c2 = c2;
      s2 = s2;
      radius = radius;
      w2 = s2 ⊘ radius;
      v10v20 = vec3.dot_prod v10 v20;
      v10c2 = vec3.dot_prod v10 c2;
    }

unfoldable pub chase_new : Length → NVector → Vehicle → Chase
chase_new radius interceptor intruder =
    chase_at (as_metres radius) (as_vec3 interceptor) (as_vec3 intruder.position) (course intruder) (as_metres_per_second intruder.speed)

-- v0 * a.cos() + c * a.sin()
abbrev pos_at : Vec3 → Vec3 → Float → Vec3
pos_at v0 c a = vec3.add (vec3.mul v0 (cos a)) (vec3.mul c (sin a))

-- with a = mps / radius_m * t_secs
unfoldable pub pos : Vec3 → Vec3 → Float → Float → Float → Vec3
pos v0 c mps t radius = pos_at v0 c (mps ⊘ radius ⊗ t)

-- angle_radians_between(v10, pos(v20, c2, s2_mps, t_secs, radius_m), None)
unfoldable pub sep : Chase → Float → Float
sep k t = angle_radians_between k.v10 (pos k.v20 k.c2 k.s2 t k.radius)

-- `INTERCEPT_NR_EPSILON`: 1e-11
abbrev pub intercept_epsilon : Float
intercept_epsilon = of_bits binary64 0x3da5fd7fe1796495

-- "a correction below 1e-11 (the corrected time)"; request 2026-05: "accept also when the corrected time equals the time before it, as
-- floats compare (NaN equals nothing)"; else "the next time"
unfoldable pub corrected : Float → Float → Step
corrected t fi =
    cond (lt (magnitude fi) intercept_epsilon) (step.Accepted (t ⊖ fi))
    (cond (Ieee.eq (t ⊖ fi) t) (step.Accepted (t ⊖ fi)) (step.Next (t ⊖ fi)))

-- ---- the longest intercept

-- v10dv2dt = -w2 * (v10v20 * sinw2t - v10c2 * cosw2t)
abbrev first_derivative : Chase → Float → Float → Float
first_derivative k cosw2t sinw2t = neg k.w2 ⊗ (k.v10v20 ⊗ sinw2t ⊖ k.v10c2 ⊗ cosw2t)

-- v10d2v2dt2 = (-w2 * w2) * (v10v20 * cosw2t + v10c2 * sinw2t)
abbrev second_derivative : Chase → Float → Float → Float
second_derivative k cosw2t sinw2t = (neg k.w2 ⊗ k.w2) ⊗ (k.v10v20 ⊗ cosw2t ⊕ k.v10c2 ⊗ sinw2t)

-- f / df, with f = ti_secs * a * v10dv2dt - si and df = ti_secs * (a * (b * v10dv2dt * v10dv2dt + v10d2v2dt2))
abbrev pub min_quotient : Float → Float → Float → Float → Float → Float → Float
min_quotient t si a b v v2 = (t ⊗ a ⊗ v ⊖ si) ⊘ (t ⊗ (a ⊗ (b ⊗ v ⊗ v ⊕ v2)))

-- with a = -1.0 / sin_si and b = si.cos() / (sin_si * sin_si)
abbrev pub min_correction_at : Float → Float → Float → Float → Float
min_correction_at t si v v2 = min_quotient t si (neg literal.one ⊘ sin si) (cos si ⊘ (sin si ⊗ sin si)) v v2

-- fi of `int_min_nr_rec`
abbrev pub min_correction : Chase → Float → Float
min_correction k t =
    min_correction_at t (sep k t)
    (first_derivative k (cos (k.w2 ⊗ t)) (sin (k.w2 ⊗ t)))
    (second_derivative k (cos (k.w2 ⊗ t)) (sin (k.w2 ⊗ t)))

-- "a zero separation (that time), a correction below 1e-11 (the corrected time)"; request 2026-05: "The zero-separation test .. stays ahead"
unfoldable pub int_min_step : Chase → Float → Step
int_min_step k t = cond (Ieee.eq (sep k t) literal.zero) (step.Accepted t) (corrected t (min_correction k t))

-- "`int_min_nr_rec` calls itself with the next time until .. 50 steps", here after i steps
abbrev pub int_min_nr_rec : Chase → Float → ℕ → Walk
int_min_nr_rec k t i = walk (int_min_step k) (most_steps - i) t

-- t0 = r_m * s0 / int_speed_mps, with s0 = angle_radians_between(v10, v20, None)
unfoldable pub chase_start : Chase → Float
chase_start k = k.radius ⊗ angle_radians_between k.v10 k.v20 ⊘ k.s2

-- ---- the intercept at a given speed

-- dsdt = (w2 * (v10v20 * sinw2t - v10c2 * cosw2t)) / si.sin()
abbrev separating : Chase → Float → Float → Float → Float
separating k cosw2t sinw2t si = k.w2 ⊗ (k.v10v20 ⊗ sinw2t ⊖ k.v10c2 ⊗ cosw2t) ⊘ sin si

-- f / df, with f = si / ti_secs - w1 and df = (dsdt - (si / ti_secs)) / ti_secs
abbrev spd_quotient : Float → Float → Float → Float → Float
spd_quotient t w1 si dsdt = (si ⊘ t ⊖ w1) ⊘ ((dsdt ⊖ si ⊘ t) ⊘ t)

-- fi of `int_spd_nr_rec`
abbrev pub spd_correction : Chase → Float → Float → Float
spd_correction k w1 t = spd_quotient t w1 (sep k t) (separating k (cos (k.w2 ⊗ t)) (sin (k.w2 ⊗ t)) (sep k t))

-- "`int_spd_nr_rec` has no zero test"
unfoldable pub int_spd_step : Chase → Float → Float → Step
int_spd_step k w1 t = corrected t (spd_correction k w1 t)

-- `int_spd_nr_rec` after i steps has the rest of the fifty before it
abbrev pub int_spd_nr_rec : Chase → Float → Float → ℕ → Walk
int_spd_nr_rec k w1 t i = walk (int_spd_step k w1) (most_steps - i) t

-- t0 = 0.1
abbrev pub intercept_start : Float
intercept_start = of_bits binary64 0x3fb999999999999a
