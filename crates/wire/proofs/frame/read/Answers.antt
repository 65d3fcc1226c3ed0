-- A line longer than any frame is none, and is not looked through.
use mathlib.Core.Path.{sym, ◌∙◌}
use Rattle.wire.proofs.Lines.{long-is-no-frame, known-frame}
use Rattle.wire.proofs.frame.read.Goals as goal

pub returns-then-s-gt-MOST_FRAME_DIGITS-clause-value : goal.returns-then-s-gt-MOST_FRAME_DIGITS-clause-value
returns-then-s-gt-MOST_FRAME_DIGITS-clause-value c = sym (long-is-no-frame _ c.if-s-gt-MOST_FRAME_DIGITS.true)

pub returns-clause-value : goal.returns-clause-value
returns-clause-value c = c.read_known.ensures.value ∙ known-frame _ c.all_digits.ensures.value
