-- `mean_position` meets its contract.
use Rattle.std.proofs.Common.{◌∙◌}
use Rattle.means.specs.Mean.{mean_position}
use Rattle.means.proofs.Laid.{positions-by_three}
use Rattle.means.proofs.mean_position.Goals as goal

pub returns-clause-mean : goal.returns-clause-mean
unfolding mean_position
returns-clause-mean c = c.mean.ensures ∙ rw (c.as_chunks.ensures.front, positions-by_three c.args.cs.now)
