-- `both_at` meets its contract.
use mathlib.Core.Path.{◌∙◌}
use Rattle.std.proofs.Common.{rules}
use lib.Ieee.{neg}
use Rattle.float.specs.Trig.{sine_series, cosine_series}
use Rattle.float.proofs.Turns.{sine-turned, cosine-turned}
use Rattle.float.proofs.trig.both_at.Goals as goal

pub returns : goal.returns
returns c =
    let y = c.args.a.y in
    rw (
      c.turned-sin.ensures (sine_series y) (cosine_series y) (λ r p. search rules) (λ r p. search rules) ∙ sine-turned c.args.a.j y,
      c.turned-cos.ensures (cosine_series y) (neg (sine_series y)) (λ r p. search rules) (λ r p. search rules) ∙ cosine-turned c.args.a.j y,
    )
