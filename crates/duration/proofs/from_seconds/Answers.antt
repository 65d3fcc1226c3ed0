-- `from_seconds` meets its contract: what passes both questions is finite, and its digits round as its value does.
use Rattle.std.proofs.Common.{ap, not}
use mathlib.Core.Path.{sym, ◌∙◌, subst}
use native.Mathlib.Omega.{arith}
use lib.Dec.{T}
use lib.Ieee.{of_bits, of_int}
use Rattle.duration.specs.Duration.{zero_or_more, below_limit, exact_nanoseconds, from_seconds}
use Rattle.duration.proofs.Questions.{first-no, second-no, both}
use Rattle.duration.proofs.Range.{seconds-digits, seconds-same}
use Rattle.duration.proofs.from_seconds.Goals as goal

pub returns-then-not-t : goal.returns-then-not-t
unfolding from_seconds of_bits of_int
returns-then-not-t c = let t = c.args.t in first-no (zero_or_more t) (below_limit t) (exact_nanoseconds t) (ap not c.if-not-t.true)

pub returns-then-not-t-2 : goal.returns-then-not-t-2
unfolding from_seconds of_bits of_int
returns-then-not-t-2 c = let t = c.args.t in second-no (zero_or_more t) (below_limit t) (exact_nanoseconds t) (ap not c.if-not-t.false) (ap not c.if-not-t-2.true)

pub nearest_even-requires : goal.nearest_even-requires
unfolding of_bits of_int
nearest_even-requires c =
    let d = seconds-digits c.args.t c.to_bits.result c.unpack.result (subst T (sym c.well_formed.0.1) tt)
    (ap not c.if-not-t.false) (ap not c.if-not-t-2.false) c.to_bits.ensures (record { its_digits = c.unpack.ensures.digits; its_place = c.unpack.ensures.place }) in
    let l = d.low in
    omega arith

pub returns : goal.returns
unfolding from_seconds of_bits of_int
returns c =
    let t = c.args.t in
    let p = c.unpack.result in
    let x = (ap not c.if-not-t.false) in
    let y = (ap not c.if-not-t-2.false) in
    let d = seconds-digits t c.to_bits.result p (subst T (sym c.well_formed.0.1) tt) x y c.to_bits.ensures
    (record { its_digits = c.unpack.ensures.digits; its_place = c.unpack.ensures.place }) in
    both (zero_or_more t) (below_limit t) c.nearest_even.result (exact_nanoseconds t) x y (c.nearest_even.ensures ∙ seconds-same t p.digits p.place d.parts)
