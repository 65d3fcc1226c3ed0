-- What a radius is worth, of `distance` itself: the angle of two positions lies from 0 to `PI` wherever it is no NaN, and for positions that a board takes it is none.
-- Assumes nothing.
use mathlib.Core.Path.{◌≡◌, refl, sym, ◌∙◌}
use Prim.Native.Nat.{ℕ, ◌-◌, ◌^◌, ◌≤◌, zero-le}
use native.Mathlib.Nat.{le_trans, le_of_eq, zero-mul}
use mathlib.Core.Bool.{false, not, true≢false}
use lib.Dec.{T, lit≤}
use lib.Ieee.{Float, nan, inf, fin, is_nan, mul}
use Rattle.patterns.specs.Operators.{◌⊗◌, pi}
use Rattle.float.specs.Trig.{atan2}
use Rattle.float.proofs.Tangent.{atan2-fits}
use Rattle.vectors.specs.Vec3.{norm, cross_prod, dot_prod}
use Rattle.jord.specs.Positions.{as_vec3}
use Rattle.jord.specs.declared.positions.NVector.{NVector}
use Rattle.bounds.specs.Radius.{Between, AngleRange, Radii, ByAngle, DistanceIs, DistanceWorth, EarthWorth, UnitsHaveAngle, angle}
use Rattle.patterns.proofs.Units.{units-is, has-finite, has-sign}
use Rattle.bounds.proofs.Arc.{has-pi, atan2-in}
use Rattle.bounds.proofs.Norms.{norm-sign}
use Rattle.bounds.proofs.Positions.{parts_in, angle-no-nan}
use Rattle.bounds.proofs.Radius.{worth-up-to}

-- an atan2 that is no NaN is one of two values that are none
no_nan : (y x : Float) → T (not (is_nan (atan2 y x))) → T (not (is_nan y)) × T (not (is_nan x))
unfolding atan2 is_nan
no_nan nan x t = absurd t
no_nan (inf s) nan t = absurd t
no_nan (inf s) (inf u) t = (tt, tt)
no_nan (inf s) (fin u n d) t = (tt, tt)
no_nan (fin s m e) nan t = absurd t
no_nan (fin s m e) (inf u) t = (tt, tt)
no_nan (fin s m e) (fin u n d) t = (tt, tt)

pub angle-range : AngleRange
angle-range p1 p2 t =
    let v = cross_prod (as_vec3 p1) (as_vec3 p2) in
    let x = dot_prod (as_vec3 p1) (as_vec3 p2) in
    let n = no_nan (norm v) x t in
    let c = atan2-in (norm v) x (norm-sign v) n.0 n.1 in
    let a = angle p1 p2 in
    record {
      is_finite = has-finite a false c.units c.has;
      sign_clear = has-sign a false c.units c.has;
      to_pi = le_trans (le_of_eq (units-is a false c.units c.has)) (le_trans c.high (le_of_eq (sym (units-is pi false _ has-pi))));
    }

-- `PI` is less than 4
angle-between : (p1 p2 : NVector) → T (not (is_nan (angle p1 p2))) → Between 0 4 (angle p1 p2)
angle-between p1 p2 t =
    let r = angle-range p1 p2 t in
    record {
      held = atan2-fits _ _;
      is_finite = r.is_finite;
      not_below = λ e. absurd (true≢false (sym e ∙ r.sign_clear));
      low = le_trans (le_of_eq (zero-mul (2 ^ 1074))) zero-le;
      high = le_trans r.to_pi (le_trans (le_of_eq (units-is pi false _ has-pi)) (lit≤ tt));
    }

pub distance_is : DistanceIs
distance_is p1 p2 radius = refl

nan-product : (a radius : Float) → T (is_nan a) → a ⊗ radius ≡ nan
unfolding is_nan mul
nan-product nan radius t = refl
nan-product (inf s) radius t = absurd t
nan-product (fin s m e) radius t = absurd t

by-angle : (k : ℕ) → k ≤ 51 → (p1 p2 : NVector) (r s : Float) → Radii k r s → ByAngle k (51 - k) p1 p2 r s
by-angle k h p1 p2 r s w = record {
  no_angle = λ t. (nan-product (angle p1 p2) r t, nan-product (angle p1 p2) s t);
  mono = λ t. (worth-up-to k h (angle p1 p2) r s (angle-between p1 p2 t) w).0;
  worth = λ t. (worth-up-to k h (angle p1 p2) r s (angle-between p1 p2 t) w).1;
}

pub distance-worth : DistanceWorth
distance-worth p1 p2 r s w = by-angle 30 (lit≤ tt) p1 p2 r s w

pub earth-worth : EarthWorth
earth-worth p1 p2 r s w = by-angle 23 (lit≤ tt) p1 p2 r s w

pub units-have-angle : UnitsHaveAngle
units-have-angle p1 p2 t u =
    angle-no-nan (as_vec3 p1) (as_vec3 p2) (parts_in (as_vec3 p1) t.held t.near_one) (parts_in (as_vec3 p2) u.held u.near_one)
