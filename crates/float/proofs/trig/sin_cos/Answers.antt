-- `sin_cos` meets its contract.
use mathlib.Core.Path.{refl}
use Rattle.float.specs.Trig as spec
use Rattle.patterns.proofs.Pattern.{told-nan}
use Rattle.float.specs.Table.{sine-of-nan, cosine-of-nan}
use Rattle.float.proofs.trig.sin_cos.Goals as goal

pub returns-then-is_nan : goal.returns-then-is_nan
returns-then-is_nan c = rw (told-nan c.args.x c.is_nan.ensures.value c.if-is_nan.true, sine-of-nan, cosine-of-nan) refl

pub returns : goal.returns
unfolding spec.sin spec.cos
returns c =
    rw (
      c.negated_if.ensures,
      c.sign_bit.ensures,
      c.both_at-both.ensures,
      c.reduce-a.ensures,
    )
    refl
