-- `setting_of` meets its contract.
use mathlib.Core.Path.{refl}
use Rattle.board.specs.Glance.{setting_of}
use Rattle.board.proofs.glance.setting_of.Goals as goal

pub returns : goal.returns
unfolding setting_of
returns c = refl
