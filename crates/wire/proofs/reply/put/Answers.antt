-- The digits where there is room, and nothing where not.
use native.Mathlib.Omega.{arith}
use Rattle.hex_digits.proofs.Write.{put-stays, put-fits}
use Rattle.wire.proofs.reply.put.Goals as goal
use Rattle.wire.proofs.reply.put.Goals.{then-at-out-via-then-at-out, then-at-out-via-else-at-out+then-size-out}

pub returns-then-at-out : goal.returns-then-at-out
returns-then-at-out g c =
    elim c.then-at-out.branch [
      | then-at-out-via-then-at-out w ↦ put-stays (omega arith)
      | then-at-out-via-else-at-out+then-size-out w ↦ put-stays (omega (arith, w.size.ensures))
    ]

pub returns : goal.returns
returns g c =
    let w = c.write.ensures in
    put-fits (omega (arith, c.if-size-out.false, c.size.ensures, c.if-at-out.false)) w.text w.past
