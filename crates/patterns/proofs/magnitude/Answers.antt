-- `magnitude` meets its contract.
use Rattle.std.proofs.Common.{T, sym, ap, ◌∙◌, subst}
use Rattle.patterns.specs.Bits as spec
use Rattle.patterns.proofs.Pattern.{told-nan, told-not-nan}
use Rattle.patterns.proofs.Sign.{magnitude-of, magnitude-pattern}
use Rattle.patterns.proofs.magnitude.Goals as goal

pub returns-then-is_nan : goal.returns-then-is_nan
returns-then-is_nan c = let e = told-nan c.args.x c.is_nan.ensures.value c.if-is_nan.true in e ∙ sym (ap spec.magnitude e)

pub float_from_bits-result : goal.float_from_bits-result
float_from_bits-result c = magnitude-pattern c.args.x (subst T (sym c.well_formed.0.1) tt) (told-not-nan c.args.x c.is_nan.ensures.value c.if-is_nan.false)

pub returns : goal.returns
returns c = magnitude-of c.args.x (subst T (sym c.well_formed.0.1) tt)
