-- `sine_at` meets its contract.
use mathlib.Core.Path.{◌∙◌}
use Rattle.std.proofs.Common.{rules}
use Rattle.float.specs.Trig.{sine_series, cosine_series}
use Rattle.float.proofs.Turns.{sine-turned}
use Rattle.float.proofs.trig.sine_at.Goals as goal

pub returns : goal.returns
returns c =
    let y = c.args.a.y in
    c.turned.ensures (sine_series y) (cosine_series y) (λ r p. search rules) (λ r p. search rules) ∙ sine-turned c.args.a.j y
