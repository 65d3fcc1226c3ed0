-- `to_bits` meets its contract: a NaN's pattern is the one that `to_bits` writes.
use Rattle.std.proofs.Common.{sym, ap}
use lib.Ieee.{binary64, to_bits}
use Rattle.patterns.proofs.Pattern.{told-nan}
use Rattle.patterns.proofs.to_bits.Goals as goal

pub returns-then-is_nan : goal.returns-then-is_nan
unfolding to_bits
returns-then-is_nan c = sym (ap (to_bits binary64) (told-nan c.args.x c.is_nan.ensures.value c.if-is_nan.true))
