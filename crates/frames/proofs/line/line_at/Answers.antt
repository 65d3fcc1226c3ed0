-- Digits alone as far as a newline are the line, and any other line is found by the search.
-- That a newline stands there is left to `omega`, so that no step is named by the test.
use Rattle.std.proofs.Common.{◌≡◌, get_or, sym, ◌∙◌, arith}
use Rattle.frames.specs.Whole.{newline}
use Rattle.frames.proofs.Spans.{line-of-digits}
use Rattle.frames.proofs.line.line_at.Goals as goal

pub returns-then-all_digits : goal.returns-then-all_digits
returns-then-all_digits c =
    let n = c.likely_length-n.result in
    let a = c.args in
    let here : get_or a.s.now n 0 ≡ newline = omega arith in
    let digits = sym c.all_digits.ensures.value ∙ c.if-all_digits.true in
    record {
      ends_at = line-of-digits a.s.now n (omega arith) here digits;
      digits_are = sym digits;
    }
