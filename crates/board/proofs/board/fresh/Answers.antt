-- `fresh` meets its contract. The board stands for the fresh plain board, and demand 3 holds of every list of calls from it.
use Rattle.std.specs.Prelude.{None}
use mathlib.Core.Path.{◌≡◌, ◌∙◌}
use Rattle.plain.specs.declared.state.Board.{Board}
use Rattle.plain.specs.Code.{plain}
use Rattle.plain.specs.Board.{fresh, begins}
use Rattle.plain.specs.Targets.{listed}
use Rattle.plain.proofs.Played.{whole}
use Rattle.board.proofs.board.fresh.Goals as goal

pub returns : goal.returns
unfolding plain fresh begins listed
returns c =
    let b : Board = record { radius = c.args.radius; own = None; track = None; targets = c.empty.result; total = 0 } in
    let is : plain b ≡ fresh c.args.radius = rw c.empty.ensures in
    (c.and.ensures ∙ rw c.radius_asked.ensures, is, whole c.args.radius b is)
