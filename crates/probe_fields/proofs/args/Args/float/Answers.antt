-- `Args::float` meets its contract.
use Rattle.probe_fields.specs.Args.{float}
use Rattle.probe_fields.proofs.args.Args.float.Goals as goal

pub returns-clause-value : goal.returns-clause-value
unfolding float
returns-clause-value c = cc
