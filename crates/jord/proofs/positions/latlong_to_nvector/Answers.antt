-- `latlong_to_nvector` meets its contract.
use mathlib.Core.Path.{sym, ◌∙◌}
use Rattle.jord.specs.Positions.{latlong_to_nvector}
use Rattle.jord.proofs.positions.latlong_to_nvector.Goals as goal

pub returns-then-eq : goal.returns-then-eq
unfolding latlong_to_nvector
returns-then-eq c = rw (sym c.eq.ensures ∙ c.if-eq.true)

pub returns-then-eq-2 : goal.returns-then-eq-2
unfolding latlong_to_nvector
returns-then-eq-2 c = rw (sym c.eq.ensures ∙ c.if-eq.false, sym c.eq-2.ensures ∙ c.if-eq-2.true)

pub returns : goal.returns
unfolding latlong_to_nvector
returns c =
    rw (
      sym c.eq.ensures ∙ c.if-eq.false,
      sym c.eq-2.ensures ∙ c.if-eq-2.false,
      c.new.ensures,
      c.sin_cos-lon.ensures,
      c.sin_cos-lat.ensures,
    )
