-- The line that has begun ends in the piece and is answered, or what came of it is kept.
use borrow.Author.Rules.{rules}
use mathlib.Core.Path.{◌≡◌, refl, sym, ap, ◌∙◌}
use lib.ListN.{length}
use lib.Seq.{take-nil}
use Rattle.wire.specs.Frame.{frame_of}
use Rattle.frames.specs.Line.{kept}
use Rattle.frames.proofs.Feeds.{begun-line, going_on, waits-room, waits-not}
use Rattle.frames.proofs.Pieces.{frame-cut}
use Rattle.frames.proofs.Turns.{passed-step}
use Rattle.frames.proofs.stream.go_on.Goals as goal

pub returns-then-waits : goal.returns-then-waits
returns-then-waits c =
    let e = c.end_of_line-end.ensures in
    let l : length c.args.s.line ≡ kept = search rules in
    let b = begun-line c.args.s _ _ l c.min-n.ensures e c.joined-line.ensures c.kept_of-m.ensures in
    going_on c.args.s _ _ b.0 b.1 (λ z h. (e.ends h, waits-room _ _ _ (sym c.waits.ensures ∙ c.if-waits.true) h))

pub put_reply_line-next-requires : goal.put_reply_line-next-requires
put_reply_line-next-requires c = (waits-not _ _ _ (sym c.waits.ensures ∙ c.if-waits.false)).1

pub returns : goal.returns
returns c =
    let e = c.end_of_line-end.ensures in
    let l : length c.args.s.line ≡ kept = search rules in
    let b = begun-line c.args.s _ _ l c.min-n.ensures e c.joined-line.ensures c.kept_of-m.ensures in
    let w = waits-not _ _ _ (sym c.waits.ensures ∙ c.if-waits.false) in
    let f = c.read.ensures.value ∙ ap frame_of b.1 ∙ frame-cut _ in
    going_on c.args.s _ 0 (passed-step b.0 w.0 (e.ends w.0) w.1 f c.step-stepped.ensures refl c.put_reply_line-next.ensures) (sym (take-nil kept))
    (λ z h. absurd (z refl))
