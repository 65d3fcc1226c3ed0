-- Each part from where the one before ends.
use mathlib.Core.Path.{refl, ◌∙◌}
use native.Mathlib.Omega.{arith}
use Rattle.wire.proofs.Rests.{float-on}
use Rattle.wire.proofs.frame.coordinates.Goals as goal

pub returns : goal.returns
returns c =
    let s = c.args.s.now in
    rw (c.float.ensures, c.float-2.ensures ∙ float-on s 16 (omega arith) 0 16 refl, c.float-3.ensures ∙ float-on s 32 (omega arith) 0 32 refl) refl
