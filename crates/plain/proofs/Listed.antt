-- At most 64 targets stand in an array, whatever its count says. Assumes nothing.
use mathlib.Core.Bool.{Bool, true, false, cond}
use mathlib.Core.Path.{◌≡◌, refl}
use Prim.Native.Nat.{ℕ, ◌≤◌}
use native.Mathlib.Omega.{arith}
use native.Mathlib.Nat.{min-le_left}
use borrow.Author.Tests.{ltb-true, ltb-false}
use lib.Dec.{ltb}
use lib.ListN.{length, length-take}
use Rattle.plain.specs.declared.targets.Targets.{Targets}
use Rattle.plain.specs.Targets.{most_targets, at_most, listed}

at-most-by : (n : ℕ) (t : Bool) → ltb n most_targets ≡ t → n ≤ most_targets → cond t n most_targets ≡ n
at-most-by n true e h = refl
at-most-by n false e h = omega (arith, ltb-false n most_targets e)

pub at-most-same : (n : ℕ) → n ≤ most_targets → at_most n ≡ n
at-most-same n h = at-most-by n (ltb n most_targets) refl h

at-most-le-by : (n : ℕ) (t : Bool) → ltb n most_targets ≡ t → cond t n most_targets ≤ most_targets
at-most-le-by n true e = omega (arith, ltb-true n most_targets e)
at-most-le-by n false e = omega arith

pub at-most-le : (n : ℕ) → at_most n ≤ most_targets
at-most-le n = at-most-le-by n (ltb n most_targets) refl

pub listed_le : (ts : Targets) → length (listed ts) ≤ most_targets
unfolding listed
listed_le ts = omega (arith, length-take (at_most ts.count) ts.entries, min-le_left (at_most ts.count) (length ts.entries), at-most-le ts.count)
