-- `board_of` meets its contract.
use mathlib.Core.Path.{refl}
use Rattle.board.specs.Glance.{board_of}
use Rattle.board.proofs.glance.board_of.Goals as goal

pub returns : goal.returns
unfolding board_of
returns c = refl
