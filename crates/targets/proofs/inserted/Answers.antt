-- `inserted` meets its contract.
use Rattle.std.proofs.Common.{rules, ◌∷◌, drop}
use Rattle.plain.specs.Targets.{most_targets}
use Rattle.targets.proofs.Arrays.{whole, inserted-within}
use Rattle.targets.proofs.inserted.Goals as goal

pub returns-then-p-lt-MOST_TARGETS : goal.returns-then-p-lt-MOST_TARGETS
returns-then-p-lt-MOST_TARGETS c =
    rw c.copy_within.ensures.after (inserted-within c.args.entries c.args.p most_targets c.args.t (search rules) c.if-p-lt-MOST_TARGETS.true)

pub returns-else-p-lt-MOST_TARGETS : goal.returns-else-p-lt-MOST_TARGETS
returns-else-p-lt-MOST_TARGETS c =
    let a = c.args in
    whole a.entries (a.t ∷ drop a.p a.entries) most_targets a.p (search rules) c.if-p-lt-MOST_TARGETS.false
