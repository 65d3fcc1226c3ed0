-- `bared` meets its contract.
use Rattle.std.proofs.Common.{rules, ◌≡◌, ◌∙◌, arith, sym, ap, length, map, List, get_or}
use lib.ListN.{get_or-map}
use Rattle.plain.specs.declared.targets.Target.{Target}
use Rattle.plain.specs.Targets.{most_targets, bare_target}
use Rattle.targets.proofs.Arrays.{absent, laid, next, length-map}
use Rattle.targets.proofs.bared.Goals as goal

pub loop-t-preserved : goal.loop-t-preserved
loop-t-preserved c =
    let es = c.args.entries in
    let full : length es ≡ most_targets = search rules in
    let long : length (map bare_target es) ≡ most_targets = length-map bare_target es ∙ full in
    let k = c.loop-t.auto.t-index-end in
    laid (map bare_target es) es c.loop-t.t-items c.loop-t.t-index absent _ (omega arith) (omega arith) c.loop-t.invariant
    (get_or-map bare_target es c.loop-t.t-index absent
    ∙ ap bare_target (sym (ap (λ (l : List Target). get_or l c.loop-t.t-index absent) c.loop-t.invariant ∙ next (map bare_target es) es c.loop-t.t-index absent (omega arith))))
