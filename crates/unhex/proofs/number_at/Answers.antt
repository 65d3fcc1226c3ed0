-- Digits alone are read by their low bits from the part that they fill, and anything else byte by byte.
use Rattle.std.proofs.Common.{◌≡◌, arith, rules, length, take, drop, ◌∙◌, ap, sym}
use Rattle.std.proofs.lemmas.Grind.{common_steps}
use Rattle.unhex.specs.Digits.{hex_at, lows_at, low_of, digit_of}
use Rattle.unhex.proofs.Read.{hex-reads, lows-reads, part, dropped, lows-digits}
use Rattle.unhex.proofs.number_at.Goals as goal

pub returns-clause-value : goal.returns-clause-value
returns-clause-value c =
    let a = c.args in
    let w = c.min-width in
    let p : c.in-Some-get.part.now ≡ take w.result (drop a.at a.s.now) = grind (arith, common_steps) in
    let n : length c.in-Some-get.part.now ≡ w.result = omega (arith, c.in-Some-get.ensures.lookup.0) in
    c.number_by.ensures low_of lows_at lows-reads (λ b d h. search rules)
    ∙ lows-digits _ 0 _ (sym c.all_digits.ensures.value ∙ c.if-all_digits.true)
    ∙ rw (n, p) (part hex-reads a.s.now a.at w.result w.result (omega arith))
    ∙ ap (hex_at a.s.now a.at) w.ensures

pub returns-2-clause-value : goal.returns-2-clause-value
returns-2-clause-value c =
    let a = c.args in
    c.number_by-2.ensures digit_of hex_at hex-reads (λ b d h. search rules) ∙ rw (c.tail.ensures, c.min-width.ensures) (dropped hex-reads a.s.now a.at _)
