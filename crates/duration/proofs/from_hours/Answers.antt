-- `from_hours` meets its contract: the product of what passes both questions is finite, and its digits round as its value does.
use Rattle.std.proofs.Common.{ap, not}
use mathlib.Core.Path.{◌∙◌}
use native.Mathlib.Omega.{arith}
use lib.Ieee.{of_bits, of_int}
use Rattle.duration.specs.Duration.{product, zero_or_more, product_below, product_nanoseconds, from_hours}
use Rattle.duration.proofs.Questions.{first-no, second-no, both}
use Rattle.duration.proofs.Range.{product-digits, whole_same}
use Rattle.duration.proofs.from_hours.Goals as goal

pub returns-then-not-h : goal.returns-then-not-h
unfolding from_hours of_bits of_int
returns-then-not-h c = let h = c.args.h in first-no (zero_or_more h) (product_below h) (product_nanoseconds h) (ap not c.if-not-h.true)

pub returns-then-not-product : goal.returns-then-not-product
unfolding from_hours of_bits of_int
returns-then-not-product c = let h = c.args.h in second-no (zero_or_more h) (product_below h) (product_nanoseconds h) (ap not c.if-not-h.false) (ap not c.if-not-product.true)

pub half_away-requires : goal.half_away-requires
unfolding of_bits of_int
half_away-requires c =
    let d = product-digits c.args.h c.to_bits.result c.unpack.result (ap not c.if-not-h.false)
    (ap not c.if-not-product.false) c.to_bits.ensures (record { its_digits = c.unpack.ensures.digits; its_place = c.unpack.ensures.place }) in
    let l = d.low in
    omega arith

pub returns : goal.returns
unfolding from_hours of_bits of_int
returns c =
    let h = c.args.h in
    let p = c.unpack.result in
    let x = (ap not c.if-not-h.false) in
    let y = (ap not c.if-not-product.false) in
    let d = product-digits h c.to_bits.result p x y c.to_bits.ensures (record { its_digits = c.unpack.ensures.digits; its_place = c.unpack.ensures.place }) in
    both (zero_or_more h) (product_below h) c.half_away.result (product_nanoseconds h) x y (c.half_away.ensures ∙ whole_same (product h) p.digits p.place d.parts)
