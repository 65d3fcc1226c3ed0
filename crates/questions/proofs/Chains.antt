-- Questions that are put together, and then others, are all put one after the other.
use Rattle.std.specs.Prelude.{◌≡◌, refl, Result, Ok, Err}
use mathlib.Core.Path.{◌∙◌, ap}
use Rattle.plain.specs.declared.call.Coordinates.{Coordinates}
use Rattle.plain.specs.declared.call.Fix.{Fix}
use Rattle.plain.specs.declared.call.Refusal.{Refusal}
use Rattle.plain.specs.Questions.{Said, ask, fix_finite_asked, fix_unit_asked, speed_asked, ask_fix, fix_asked, ends_finite_asked, ends_unit_asked}
use Rattle.plain.specs.Questions.{circle_asked, ask_ends, ends_asked}

module _ {A : Type 0} where
  pub ask-ask : (s t : Said) (a : Result A Refusal) → ask (ask s t) a ≡ ask s (ask t a)
  ask-ask (Ok u) t a = refl
  ask-ask (Err r) t a = refl

  -- three questions
  three : (s t u : Said) (a : Result A Refusal) → ask (ask s (ask t (ask u (Ok tt)))) a ≡ ask s (ask t (ask u a))
  three s t u a = ask-ask s (ask t (ask u (Ok tt))) a ∙ ap (ask s) (ask-ask t (ask u (Ok tt)) a ∙ ap (ask t) (ask-ask u (Ok tt) a))

  pub ask-fix : (f : Fix) (a : Result A Refusal) → ask (fix_asked f) a ≡ ask_fix f a
  ask-fix f a = three (fix_finite_asked f) (fix_unit_asked f) (speed_asked f) a

  pub ask-ends : (s e : Coordinates) (a : Result A Refusal) → ask (ends_asked s e) a ≡ ask_ends s e a
  ask-ends s e a = three (ends_finite_asked s e) (ends_unit_asked s e) (circle_asked s e) a
