-- `side` gives one of three answers, and Right where the deciding product is a NaN. Assumes nothing.
use mathlib.Core.Path.{◌≡◌, refl}
use mathlib.Core.Logic.{◌⊎◌, inl, inr}
use mathlib.Core.Bool.{Bool, true, false, cond}
use lib.Ieee as Ieee
use lib.Ieee.{Float, nan, of_bits, le}
use Rattle.patterns.specs.Bits.{magnitude}
use Rattle.jord.specs.Numbers.{eq_zero}
use Rattle.vectors.specs.declared.vec3.Vec3.{Vec3}
use Rattle.arcs.specs.Base.{TRIAGE_SIDE_EPS, by_sign, triage_side, exact_side, deciding, side}
use Rattle.arcs.specs.declared.Side.{Side}
use Rattle.arcs.specs.declared.Side.TheVariants.{Left, Right, Collinear}

pub one_of_three : (v0 v1 v2 : Vec3) → (side v0 v1 v2 ≡ Left) ⊎ (side v0 v1 v2 ≡ Right) ⊎ (side v0 v1 v2 ≡ Collinear)
one_of_three v0 v1 v2 = go (side v0 v1 v2)
  where
    go : (s : Side) → (s ≡ Left) ⊎ (s ≡ Right) ⊎ (s ≡ Collinear)
    go Left = inl refl
    go Right = inr (inl refl)
    go Collinear = inr (inr refl)

nan_right : by_sign nan ≡ Right
unfolding by_sign of_bits
nan_right = refl

nan-not-zero : eq_zero nan ≡ false
unfolding le Ieee.sub of_bits
nan-not-zero = refl

-- near says which of the two products decides
by : (near : Bool) (triage exact : Float) → cond near exact triage ≡ nan → cond near (cond (eq_zero exact) Collinear (by_sign exact)) (by_sign triage) ≡ Right
by true triage exact e = rw (e, nan-not-zero, nan_right)
by false triage exact e = rw (e, nan_right)

pub side-of-nan : (v0 v1 v2 : Vec3) → deciding v0 v1 v2 ≡ nan → side v0 v1 v2 ≡ Right
unfolding side
side-of-nan v0 v1 v2 e = by (le (magnitude (triage_side v0 v1 v2)) TRIAGE_SIDE_EPS) (triage_side v0 v1 v2) (exact_side v0 v1 v2) e
