-- `closed` meets its contract.
use Rattle.std.proofs.Common.{rules, ◌≡◌, length, ◌+◌, ◌-◌, ◌++◌, take, drop, sym, ap, append_assoc}
use mathlib.Core.Path.{◌∙◌}
use Rattle.plain.specs.Targets.{most_targets}
use Rattle.targets.proofs.Arrays.{whole, removed-within}
use Rattle.targets.proofs.closed.Goals as goal

pub returns-then-p-lt-MOST_TARGETS : goal.returns-then-p-lt-MOST_TARGETS
returns-then-p-lt-MOST_TARGETS c =
    let full : length c.args.entries ≡ most_targets = search rules in
    c.copy_within.ensures.after ∙ rw full (removed-within c.args.entries c.args.p most_targets full c.if-p-lt-MOST_TARGETS.true)

pub returns-else-p-lt-MOST_TARGETS : goal.returns-else-p-lt-MOST_TARGETS
returns-else-p-lt-MOST_TARGETS c =
    let a = c.args in
    whole a.entries (drop (a.p + 1) a.entries ++ drop (most_targets - 1) a.entries) most_targets a.p (search rules) c.if-p-lt-MOST_TARGETS.false
    ∙ ap (take most_targets) (sym (append_assoc (take a.p a.entries) (drop (a.p + 1) a.entries) (drop (most_targets - 1) a.entries)))
