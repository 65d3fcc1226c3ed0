-- `triangle_mean_position` meets its contract.
use mathlib.Core.Path.{◌≡◌, ◌∙◌}
use mathlib.Core.Bool.{Bool, ◌||◌}
use Rattle.jord.specs.Positions.{is_antipode_of}
use Rattle.jord.specs.declared.positions.NVector.{NVector}
use Rattle.means.specs.Mean.{antipodal_pair, triangle_mean_position}
use Rattle.means.proofs.triangle_mean_position.Goals as goal

-- the question 17 over the results of the calls
pairs : (p1 p2 p3 : NVector) {r s t : Bool} → r ≡ is_antipode_of p1 p2 → s ≡ is_antipode_of p1 p3 → t ≡ is_antipode_of p2 p3
    → antipodal_pair p1 p2 p3 ≡ (r || s || t)
pairs p1 p2 p3 e f g = rw (e, f, g)

pub returns-then-is_antipode_of : goal.returns-then-is_antipode_of
unfolding triangle_mean_position
returns-then-is_antipode_of c =
    rw (pairs c.args.p1 c.args.p2 c.args.p3 c.is_antipode_of.ensures c.is_antipode_of-2.ensures c.is_antipode_of-3.ensures ∙ c.if-is_antipode_of.true)

pub returns : goal.returns
unfolding triangle_mean_position
returns c =
    rw (
      pairs c.args.p1 c.args.p2 c.args.p3 c.is_antipode_of.ensures c.is_antipode_of-2.ensures c.is_antipode_of-3.ensures ∙ c.if-is_antipode_of.false,
      c.new.ensures,
      c.vec3_mean.ensures,
    )
