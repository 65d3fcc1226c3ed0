-- `at_setting` meets its contract. What is refused stays, what is done sweeps.
use Rattle.board.specs.Glance.{at_setting}
use Rattle.board.proofs.glance.at_setting.Goals as goal

pub returns-in-Ok : goal.returns-in-Ok
unfolding at_setting
returns-in-Ok c = rw (c.own_after.ensures, c.track_after.ensures, c.in-Ok.is)

pub returns-in-Err : goal.returns-in-Err
unfolding at_setting
returns-in-Err c = rw c.in-Err.is
