-- `gone_at` meets its contract: two angular speeds of one pattern are one float.
use Rattle.std.proofs.Common.{T, rules}
use lib.Ieee.{binary64, fits}
use lib.Ieee.Fits.{div-fits}
use Rattle.patterns.specs.Operators.{◌⊘◌}
use Rattle.patterns.proofs.Value.{same_bits}
use Rattle.chases.proofs.gone_at.Goals as goal

pub returns-then-to_bits : goal.returns-then-to_bits
returns-then-to_bits c =
    let k = c.args.k in
    let held : T (fits binary64 k.w2) = search rules in
    let same = same_bits (k.s2 ⊘ k.radius) k.w2 (div-fits binary64 k.s2 k.radius) held (cc) in
    rw (c.sin_cos-w2t.ensures, same)
