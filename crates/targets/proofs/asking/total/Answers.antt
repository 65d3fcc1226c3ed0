-- `total` meets its contract.
use mathlib.Core.Path.{refl}
use Rattle.plain.specs.Code.{plain}
use Rattle.targets.proofs.asking.total.Goals as goal

pub returns : goal.returns
unfolding plain
returns c = refl
