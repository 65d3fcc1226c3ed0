-- `from_bits` meets its contract: the patterns above the infinity's are the NaNs.
use Rattle.std.proofs.Common.{sym, ◌∙◌}
use Rattle.patterns.proofs.Pattern.{nan_constant, nan-read, no_nan}
use Rattle.patterns.proofs.from_bits.Goals as goal

pub returns-then-bits-gt-INFINITY : goal.returns-then-bits-gt-INFINITY
returns-then-bits-gt-INFINITY c = nan_constant ∙ sym (nan-read c.args.bits c.if-bits-gt-INFINITY.true)

pub float_from_bits-result : goal.float_from_bits-result
float_from_bits-result c = no_nan c.args.bits c.if-bits-gt-INFINITY.false
