-- `mean_of_columns` meets its contract. No more positions are asked for than there are.
use Rattle.std.proofs.Common.{rules}
use Rattle.means.specs.Laid.{column_mean}
use Rattle.means.proofs.columns.mean_of_columns.Goals as goal

pub returns-clause-mean : goal.returns-clause-mean
unfolding column_mean
returns-clause-mean c = search rules
