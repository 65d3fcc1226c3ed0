-- `Args::whole` meets its contract.
use Rattle.probe_fields.specs.Args.{pass, whole}
use Rattle.probe_fields.proofs.args.Args.whole.Goals as goal

pub returns-clause-value : goal.returns-clause-value
unfolding whole
returns-clause-value c = cc

pub returns-clause-place : goal.returns-clause-place
unfolding pass
returns-clause-place c = cc
