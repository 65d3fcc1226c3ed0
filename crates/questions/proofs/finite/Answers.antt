-- `finite` meets its contract. The library's word for a finite float is the definition's.
use Rattle.std.proofs.Common.{◌≡◌, ◌∙◌, refl}
use Rattle.std.specs.Float.{Float, nan, inf, fin, float_is_finite}
use Rattle.plain.specs.Questions.{finite}
use Rattle.questions.proofs.finite.Goals as goal

finite-is : (x : Float) → float_is_finite x ≡ finite x
unfolding float_is_finite
finite-is nan = refl
finite-is (inf s) = refl
finite-is (fin s m e) = refl

pub returns : goal.returns
returns c = c.is_finite.ensures.value ∙ finite-is c.args.x
