-- `newton_raphson` meets its contract. The loop's invariant: what is left of the walk, from x, comes to what the whole walk comes to.
use mathlib.Core.Path.{◌≡◌}
use Prim.Native.Nat.{◌-◌}
use Rattle.walks.specs.Walk.{most_steps, walk, cpa_step, newton_raphson}
use Rattle.chases.proofs.newton_raphson.Given as goal

abbrev pub invariant-loop-i : goal.invariant-loop-i
invariant-loop-i l = walk (cpa_step l.k) (most_steps - l.i) l.x ≡ newton_raphson l.k
