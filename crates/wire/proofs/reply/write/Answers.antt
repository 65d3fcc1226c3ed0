-- Kind and number, then the answer, each where the one before ended.
use native.Mathlib.Omega.{arith}
use mathlib.Core.Path.{sym, ap}
use Rattle.hex_digits.proofs.Write.{number-wrote, then, as-length}
use Rattle.hex_digits.specs.Hex.{digits}
use Rattle.wire.specs.Reply.{digits_by}
use Rattle.wire.proofs.Sizes.{sized, more}
use Rattle.wire.proofs.reply.write.Goals as goal

pub put_head-requires : goal.put_head-requires
put_head-requires g c =
    omega (arith, c.requires, sized g.K.Byte.byte g.R.Byte.byte _ _ c.in-Done.is)

pub put_head-requires-in-Refused : goal.put_head-requires-in-Refused
put_head-requires-in-Refused g c =
    omega (arith, c.requires, sized g.K.Byte.byte g.R.Byte.byte _ _ c.in-Refused.is)

pub put_head-next-requires : goal.put_head-next-requires
put_head-next-requires g c =
    omega (arith, c.requires, sized g.K.Byte.byte g.R.Byte.byte _ _ c.in-Solved.is)

pub put_line-requires : goal.put_line-requires
put_line-requires g c =
    let w = c.put_head-next.ensures in
    omega (arith, w.past, w.length_is, c.requires, sized g.K.Byte.byte g.R.Byte.byte _ _ c.in-Solved.is)

pub put_head-next-requires-in-Mean : goal.put_head-next-requires-in-Mean
put_head-next-requires-in-Mean g c =
    omega (arith, c.requires, sized g.K.Byte.byte g.R.Byte.byte _ _ c.in-Mean.is)

pub put_position-requires : goal.put_position-requires
put_position-requires g c =
    let w = c.put_head-next-in-Mean.ensures in
    omega (arith, w.past, w.length_is, c.requires, sized g.K.Byte.byte g.R.Byte.byte _ _ c.in-Mean.is)

pub put_head-next-requires-in-Pick : goal.put_head-next-requires-in-Pick
put_head-next-requires-in-Pick g c =
    omega (arith, c.requires, sized g.K.Byte.byte g.R.Byte.byte _ _ c.in-Pick.is)

pub put_head-next-requires-in-Total : goal.put_head-next-requires-in-Total
put_head-next-requires-in-Total g c =
    omega (arith, c.requires, sized g.K.Byte.byte g.R.Byte.byte _ _ c.in-Total.is)

pub returns-in-Done : goal.returns-in-Done
unfolding digits_by
returns-in-Done g c =
    as-length c.put_head.ensures (sym (ap (digits_by _ _) c.in-Done.is))

pub returns-in-Refused : goal.returns-in-Refused
unfolding digits_by
returns-in-Refused g c =
    as-length c.put_head-in-Refused.ensures (sym (ap (digits_by _ _) c.in-Refused.is))

pub returns-in-Solved : goal.returns-in-Solved
unfolding digits_by
returns-in-Solved g c =
    as-length (then c.put_head-next.ensures c.put_line.ensures) (sym (ap (digits_by _ _) c.in-Solved.is))

pub returns-in-Mean : goal.returns-in-Mean
unfolding digits_by
returns-in-Mean g c =
    as-length (then c.put_head-next-in-Mean.ensures c.put_position.ensures) (sym (ap (digits_by _ _) c.in-Mean.is))

pub returns-in-Pick : goal.returns-in-Pick
unfolding digits_by
returns-in-Pick g c =
    let e = c.in-Pick.is in
    let w = more 4 _ c.put_head-next-in-Pick.ensures c.put_number.ensures (omega (arith, c.requires, sized g.K.Byte.byte g.R.Byte.byte _ _ e)) in
    as-length (rw c.from.ensures at w) (sym (ap (digits_by _ _) e))

pub returns-in-Total : goal.returns-in-Total
unfolding digits_by
returns-in-Total g c =
    let e = c.in-Total.is in
    let w = more 8 _ c.put_head-next-in-Total.ensures c.put_number-in-Total.ensures (omega (arith, c.requires, sized g.K.Byte.byte g.R.Byte.byte _ _ e)) in
    as-length (rw c.from-in-Total.ensures at w) (sym (ap (digits_by _ _) e))

pub returns-in-NotAFrame : goal.returns-in-NotAFrame
unfolding digits_by digits
returns-in-NotAFrame g c =
    let e = c.in-NotAFrame.is in
    let w = number-wrote 4 0xff01 c.put_number-in-NotAFrame.ensures (omega (arith, c.requires, sized g.K.Byte.byte g.R.Byte.byte _ _ e)) in
    as-length w (sym (ap (digits_by _ _) e))
