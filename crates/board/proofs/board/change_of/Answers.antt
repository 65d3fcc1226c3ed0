-- `change_of` meets its contract. Each call has its law.
use Rattle.std.proofs.Common.{rules}
use Rattle.board.proofs.Changes.{report-changes, removed, swept-changes, solved-changes}
use Rattle.board.proofs.board.change_of.Goals as goal

pub returns-in-Report : goal.returns-in-Report
returns-in-Report c = rw (c.placing.ensures, c.vehicle.ensures, c.in-Report.is) (report-changes _ _ _ _ _)

pub returns-in-Withdraw : goal.returns-in-Withdraw
returns-in-Withdraw c = rw c.in-Withdraw.is (removed _ _ c.args.spot _ c.map.result (search rules))

pub returns-in-OwnShip : goal.returns-in-OwnShip
returns-in-OwnShip c = swept-changes c.args.call _ _ _ c.in-OwnShip.is

pub returns-in-Solve : goal.returns-in-Solve
returns-in-Solve c = rw c.in-Solve.is (solved-changes _ c.args.answer c.args.spot c.args.found c.map-in-Solve.result (search rules))
