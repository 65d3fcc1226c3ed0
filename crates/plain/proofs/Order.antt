-- The order of the questions: the first no stands, whatever the questions after it would say. Assumes nothing.
use Rattle.std.specs.Prelude.{Ok, Err}
use mathlib.Core.Path.{◌≡◌}
use Prim.Native.Nat.{ℕ}
use Rattle.plain.specs.declared.call.Call.TheVariants.{Report}
use Rattle.plain.specs.declared.call.Fix.{Fix}
use Rattle.plain.specs.declared.call.Refusal.{Refusal}
use Rattle.plain.specs.Call.{Answer}
use Rattle.plain.specs.Board.{Plain, answer}
use Rattle.plain.specs.Questions.{identity_asked, fix_finite_asked, fix_unit_asked, ask_fix}

-- a position that is not of length one is refused so, whatever the speed
pub unit-before-speed : (f : Fix) (q : Refusal) (a : Answer) → fix_finite_asked f ≡ Ok tt → fix_unit_asked f ≡ Err q → ask_fix f a ≡ Err q
unit-before-speed f q a h e = rw (h, e)

-- a fix that is refused is refused so by every board, a full one too
pub fix-before-room : (b : Plain) (i : ℕ) (f : Fix) (q : Refusal) → identity_asked i ≡ Ok tt → fix_finite_asked f ≡ Err q
    → answer b (Report i f) ≡ Err q
unfolding answer
fix-before-room b i f q h e = rw (h, e)
