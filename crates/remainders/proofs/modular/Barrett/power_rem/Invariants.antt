-- `power_rem` meets its contract: the power is that of the bits of k that were taken.
use Rattle.std.proofs.Common.{◌≡◌, ◌/◌, ◌%◌, ◌^◌}
use Rattle.remainders.proofs.modular.Barrett.power_rem.Given as goal

abbrev pub invariant-loop-i : goal.invariant-loop-i
invariant-loop-i l = l.power ≡ 2 ^ (l.k / 2 ^ l.i) % l.self.by.m
