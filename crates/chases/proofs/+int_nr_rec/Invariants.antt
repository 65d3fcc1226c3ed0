-- `int_nr_rec` calls itself: the measure is the steps left, fifty less the index.
use Rattle.std.proofs.Common.{◌-◌}
use Rattle.walks.specs.Walk.{most_steps}
use Rattle.chases.proofs.+int_nr_rec.Given as goal

abbrev pub decreases-int_nr_rec : goal.decreases-int_nr_rec
decreases-int_nr_rec g l = most_steps - l.i
