-- The reply, then a newline.
use borrow.Author.Rules.{rules}
use Rattle.frames.proofs.Turns.{put-below, put-reply-line}
use Rattle.frames.proofs.stream.put_reply_line.Goals as goal

pub bounds-out-n : goal.bounds-out-n
bounds-out-n c =
    put-below _ c.put-n.ensures c.requires

pub overflow_add-result : goal.overflow_add-result
overflow_add-result c =
    let l = put-below _ c.put-n.ensures c.requires in
    search rules

pub returns : goal.returns
returns c =
    put-reply-line _ c.put-n.ensures c.requires
