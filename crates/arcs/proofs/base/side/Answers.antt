-- `side` meets its contract.
use mathlib.Core.Path.{◌≡◌, sym, ◌∙◌}
use mathlib.Core.Bool.{cond}
use Rattle.std.specs.Prelude.{Float}
use lib.Ieee.{le}
use Rattle.patterns.specs.Bits.{magnitude}
use Rattle.vectors.specs.Vec3 as vec3
use Rattle.vectors.specs.declared.vec3.Vec3.{Vec3}
use Rattle.jord.specs.Numbers.{eq_zero}
use Rattle.arcs.specs.Base.{TRIAGE_SIDE_EPS, by_sign, exact_side, side}
use Rattle.arcs.specs.declared.Side.TheVariants.{Collinear}
use Rattle.arcs.proofs.base.side.Goals as goal

-- the tests of `side` over the results of the calls
by-triage : (v0 v1 v2 p : Vec3) (triage m : Float) → p ≡ vec3.cross_prod v1 v2 → triage ≡ vec3.dot_prod v0 p → m ≡ magnitude triage
    → (let e = exact_side v0 v1 v2 in
    side v0 v1 v2 ≡ cond (le m TRIAGE_SIDE_EPS) (cond (eq_zero e) Collinear (by_sign e)) (by_sign triage))
unfolding side
by-triage v0 v1 v2 p triage m e f g = rw (g, f, e)

pub returns-then-eq_zero : goal.returns-then-eq_zero
returns-then-eq_zero c =
    rw (
      by-triage _ _ _ _ _ _ c.cross_prod.ensures c.dot_prod-triage_side.ensures c.magnitude.ensures,
      c.if-magnitude.true,
      sym (rw c.orthogonal_to.ensures at c.dot_prod-exact_side.ensures),
      sym c.eq_zero.ensures ∙ c.if-eq_zero.true,
    )

pub returns-else-eq_zero : goal.returns-else-eq_zero
returns-else-eq_zero c =
    rw (
      by-triage _ _ _ _ _ _ c.cross_prod.ensures c.dot_prod-triage_side.ensures c.magnitude.ensures,
      c.if-magnitude.true,
      sym (rw c.orthogonal_to.ensures at c.dot_prod-exact_side.ensures),
      sym c.eq_zero.ensures ∙ c.if-eq_zero.false,
    )
    c.by_sign.ensures

pub returns-else-magnitude : goal.returns-else-magnitude
returns-else-magnitude c = rw (by-triage _ _ _ _ _ _ c.cross_prod.ensures c.dot_prod-triage_side.ensures c.magnitude.ensures, c.if-magnitude.false) c.by_sign-else-magnitude.ensures
