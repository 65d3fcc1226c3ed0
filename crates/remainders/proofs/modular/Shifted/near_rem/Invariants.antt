-- `near_rem` meets its contract: what is left of the shift, applied to the rest, gives the remainder sought.
use Rattle.std.proofs.Common.{◌≡◌, ◌*◌, ◌%◌, ◌^◌, ◌<◌}
use Rattle.remainders.proofs.modular.Shifted.near_rem.Given as goal

abbrev pub invariant-loop-left : goal.invariant-loop-left
invariant-loop-left l = (l.rest < 2 ^ 53) × (l.rest * 2 ^ l.left % l.m ≡ l.fn.self.digits * 2 ^ l.fn.self.shift % l.m)

abbrev pub decreases-loop-left : goal.decreases-loop-left
decreases-loop-left l = l.left
