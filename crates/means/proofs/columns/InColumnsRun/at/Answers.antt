-- `at` meets its contract.
use Rattle.std.proofs.Common.{sym, ◌∙◌}
use Rattle.means.proofs.Laid.{below-from, at_start}
use Rattle.means.proofs.columns.InColumnsRun.at.Goals as goal

pub position-requires : goal.position-requires
position-requires c = below-from _ _ _ c.requires

pub returns : goal.returns
returns c = c.position.ensures ∙ sym (at_start _ _ _ _ c.requires)
