-- `bared` takes every line away. The loop has passed the entries before its place.
use Rattle.std.specs.Prelude.{◌≡◌}
use mathlib.Core.List.{◌++◌, map}
use lib.ListN.{take, drop}
use Rattle.plain.specs.Targets.{bare_target}
use Rattle.targets.proofs.bared.Given as goal

abbrev pub invariant-loop-t : goal.invariant-loop-t
invariant-loop-t l = l.t-items ≡ take l.t-index (map bare_target l.fn.entries) ++ drop l.t-index l.fn.entries
