-- `glance` meets its contract, call by call.
use mathlib.Core.Logic.{inl, inr}
use mathlib.Core.Path.{◌∙◌}
use Rattle.board.specs.Glance.{glance}
use Rattle.board.proofs.glance.glance.Goals as goal

pub returns-in-Report-clause-value : goal.returns-in-Report-clause-value
unfolding glance
returns-in-Report-clause-value g c = rw c.in-Report.is c.at_report.ensures

pub returns-in-OwnShip-clause-value : goal.returns-in-OwnShip-clause-value
unfolding glance
returns-in-OwnShip-clause-value g c = c.at_setting.ensures ∙ rw (c.in-OwnShip.is, c.fix_asked.ensures)

pub returns-in-Track-clause-value : goal.returns-in-Track-clause-value
unfolding glance
returns-in-Track-clause-value g c = c.at_setting-in-Track.ensures ∙ rw (c.in-Track.is, c.ends_asked.ensures)

pub returns-in-Withdraw-clause-value : goal.returns-in-Withdraw-clause-value
unfolding glance
returns-in-Withdraw-clause-value g c = elim c.in-Withdraw.is [
  | inl z ↦ rw z.1
  | inr z ↦ rw z.1
]
