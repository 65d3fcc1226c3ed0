-- A line that has begun is a line.
use mathlib.Core.Path.{◌≡◌}
use lib.ListN.{length}
use Rattle.frames.specs.Line.{kept}
use Rattle.frames.proofs.Turns.{finished-none, finished-line, nothing-done}
use borrow.Author.Rules.{rules}
use Rattle.frames.proofs.stream.finish.Goals as goal
use Rattle.frames.proofs.stream.finish.Goals.{then-n-eq0-via-then-n-eq0, then-n-eq0-via-else-n-eq0+then-page-lt-ROOM}

pub returns-then-n-eq0 : goal.returns-then-n-eq0
returns-then-n-eq0 c =
    let a = c.args in
    let l : length a.s.line ≡ kept = search rules in
    elim c.then-n-eq0.branch [
      | then-n-eq0-via-then-n-eq0 w ↦ finished-none a.s _ l c.min-n.ensures w.if-n-eq0.true
      | then-n-eq0-via-else-n-eq0+then-page-lt-ROOM w ↦ nothing-done a.s w.if-page-lt-ROOM.true
    ]

pub returns : goal.returns
returns c =
    let a = c.args in
    let l : length a.s.line ≡ kept = search rules in
    finished-line a.s l c.min-n.ensures c.if-n-eq0.false c.if-page-lt-ROOM.false c.read.ensures.value c.step-stepped.ensures c.put_reply_line.ensures
