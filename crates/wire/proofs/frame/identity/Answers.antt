-- Four digits are two and two, and fit 16 bits.
use Prim.Native.Nat.{◌+◌, ◌*◌}
use mathlib.Core.Path.{◌≡◌, sym, ◌∙◌}
use native.Mathlib.Omega.{arith}
use Rattle.unhex.specs.Digits.{lows_at}
use Rattle.unhex.proofs.Read.{lows-reads, below, halves, lows-there}
use Rattle.wire.proofs.frame.identity.Goals as goal

four : (c : goal.After-two_at-2) → c.two_at.result * 256 + c.two_at-2.result ≡ lows_at c.args.s.now 0 4
four c =
    let s = c.args.s.now in
    rw (c.two_at.ensures.value, c.two_at-2.ensures.value, ← lows-there s 0 2 (omega arith), ← lows-there s 2 2 (omega arith)) (sym (halves lows-reads s 0 2 2))

pub overflow_mul-result : goal.overflow_mul-result
overflow_mul-result c =
    let s = c.args.s.now in
    omega (arith, c.two_at.ensures.value, lows-there s 0 2 (omega arith), below lows-reads s 0 2)

pub overflow_add-result : goal.overflow_add-result
overflow_add-result c = omega (arith, four c, below lows-reads c.args.s.now 0 4)

pub overflow_cast-result : goal.overflow_cast-result
overflow_cast-result c = omega (arith, four c, below lows-reads c.args.s.now 0 4)

pub returns : goal.returns
returns c = four c ∙ lows-there c.args.s.now 0 4 (omega arith)
