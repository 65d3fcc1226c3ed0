-- The position, then bearing and speed.
use mathlib.Core.Path.{refl, ◌∙◌}
use native.Mathlib.Omega.{arith}
use Rattle.wire.proofs.Rests.{float-on}
use Rattle.wire.proofs.frame.fix.Goals as goal

pub returns : goal.returns
returns c =
    let s = c.args.s.now in
    rw (c.coordinates-position.ensures, c.float.ensures ∙ float-on s 48 (omega arith) 0 48 refl, c.float-2.ensures ∙ float-on s 64 (omega arith) 0 64 refl) refl
