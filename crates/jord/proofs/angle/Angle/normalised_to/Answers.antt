-- `normalised_to` meets its contract.
use Rattle.std.proofs.Common.{◌≡◌, ◌&&◌, ◌||◌, Bool, true, false, cond, refl, Some, None, Less, Equal, Greater}
use Rattle.std.specs.Float.{Float}
use Rattle.std.specs.Float.Ieee.{lt, eq, le}
use Rattle.std.specs.Ordering.{partial_lt, partial_le, float_partial_cmp, is_lt, is_le, is_some_and}
use Rattle.vectors.specs.Literal.{zero}
use Rattle.jord.specs.Angle.{normalised_to}
use Rattle.jord.proofs.Compare.{as_le, as_lt}
use Rattle.jord.proofs.angle.Angle.normalised_to.Goals as goal

-- what a range from 0.0 to below m tells of x
tells : (x m : Float) {r b : Bool} → r ≡ (partial_le float_partial_cmp zero x && partial_lt float_partial_cmp x m) → r ≡ b → (le zero x && lt x m) ≡ b
tells x m h is = rw (← is, h, as_le zero x, as_lt x m) refl

pub returns-then-contains : goal.returns-then-contains
unfolding normalised_to
returns-then-contains c = rw (tells c.args.self.radians c.args.max.radians c.contains.ensures.value c.if-contains.true)

pub returns-then-res : goal.returns-then-res
unfolding normalised_to
returns-then-res c =
    rw (tells c.args.self.radians c.args.max.radians c.contains.ensures.value c.if-contains.false, ← c.rem-res.ensures, c.if-res.true)

pub returns-else-res : goal.returns-else-res
unfolding normalised_to
returns-else-res c =
    rw (tells c.args.self.radians c.args.max.radians c.contains.ensures.value c.if-contains.false, ← c.rem-res.ensures, c.if-res.false)
