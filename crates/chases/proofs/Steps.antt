-- One step of a walk at the index i, of 50. Assumes nothing.
use mathlib.Core.Path.{◌≡◌}
use Prim.Native.Nat.{ℕ, suc, ◌+◌, ◌-◌, ◌<◌}
use native.Mathlib.Omega.{arith}
use lib.Ieee.{Float}
use Rattle.walks.specs.Walk.{most_steps, settle, walk}
use Rattle.walks.specs.declared.Step.{Step}
use Rattle.walks.specs.declared.Walk.TheVariants.{NotConverged}

pub stepped : (f : Float → Step) (i : ℕ) (t : Float) (s : Step) → i < most_steps → s ≡ f t
    → walk f (most_steps - i) t ≡ settle (i + 1) s (walk f (most_steps - (i + 1)))
unfolding walk
stepped f i t s h e =
    let n = most_steps - (i + 1) in
    let a : most_steps - i ≡ suc n = omega arith in
    let b : most_steps - n ≡ i + 1 = omega arith in
    rw (a, b, e)

pub ended : (f : Float → Step) (n : ℕ) (t : Float) → n ≡ 0 → NotConverged ≡ walk f n t
unfolding walk
ended f n t e = rw e
