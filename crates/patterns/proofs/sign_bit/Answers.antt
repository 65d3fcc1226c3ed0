-- `sign_bit` meets its contract.
use Rattle.std.proofs.Common.{◌≡◌, refl, sym, ap, ◌∙◌}
use lib.Ieee.{Float, nan, inf, fin}
use Rattle.std.specs.Float.{is_sign_negative}
use Rattle.patterns.specs.Bits as spec
use Rattle.patterns.proofs.Pattern.{told-nan}
use Rattle.patterns.proofs.sign_bit.Goals as goal

same : (x : Float) → is_sign_negative x ≡ spec.sign_bit x
unfolding is_sign_negative
same nan = refl
same (inf s) = refl
same (fin s m e) = refl

pub returns-then-is_nan : goal.returns-then-is_nan
returns-then-is_nan c = sym (ap spec.sign_bit (told-nan c.args.x c.is_nan.ensures.value c.if-is_nan.true))

pub returns : goal.returns
returns c = c.is_sign_negative.ensures ∙ same c.args.x
