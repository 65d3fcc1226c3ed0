-- `interpolated_position` meets its contract.
use Rattle.std.proofs.Common.{◌≡◌, ◌&&◌, ◌||◌, Bool, true, false, cond, refl, Some, None, Less, Equal, Greater}
use Rattle.std.specs.Float.{Float}
use Rattle.std.specs.Float.Ieee.{lt, eq, le}
use Rattle.std.specs.Ordering.{partial_lt, partial_le, float_partial_cmp, is_le, is_some_and}
use Rattle.vectors.specs.Literal.{zero, one}
use Rattle.jord.proofs.Compare.{as_le}
use Rattle.spherical.specs.Sphere.{is_fraction, interpolated_position}
use Rattle.spherical.proofs.sphere.Sphere.interpolated_position.Goals as goal

-- what a range from 0.0 to 1.0 tells of f
tells : (f : Float) {s e : Float} {x r b : Bool} → s ≡ zero → e ≡ one → x ≡ false
    → r ≡ (partial_le float_partial_cmp s f && cond x (partial_lt float_partial_cmp f e) (partial_le float_partial_cmp f e)) → r ≡ b → is_fraction f ≡ b
tells f from to on h is = rw (← is, h, from, to, on, as_le zero f, as_le f one)

pub returns-then-not-contains : goal.returns-then-not-contains
unfolding interpolated_position
returns-then-not-contains c =
    let r = c.new.ensures in
    rw (tells c.args.f r.start r.end r.exhausted c.contains.ensures.value c.if-not-contains.true)

pub returns-then-f : goal.returns-then-f
unfolding interpolated_position
returns-then-f c =
    let r = c.new.ensures in
    rw (tells c.args.f r.start r.end r.exhausted c.contains.ensures.value c.if-not-contains.false, c.if-f.true)

pub returns-then-f-2 : goal.returns-then-f-2
unfolding interpolated_position
returns-then-f-2 c =
    let r = c.new.ensures in
    rw (tells c.args.f r.start r.end r.exhausted c.contains.ensures.value c.if-not-contains.false, c.if-f.false, c.if-f-2.true)

pub returns : goal.returns
unfolding interpolated_position
returns c =
    let r = c.new.ensures in
    rw (
      tells c.args.f r.start r.end r.exhausted c.contains.ensures.value c.if-not-contains.false,
      c.if-f.false,
      c.if-f-2.false,
      c.position_on_great_circle.ensures,
      c.mul-a.ensures,
      c.angle.ensures,
    )
