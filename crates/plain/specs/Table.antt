-- The numbers and values of whole answers, row by row: 0 is done, and a refusal gives its own number.
use Rattle.std.specs.Prelude.{ℕ, Option, Some, None, Ok, Err}
use mathlib.Core.Path.{◌≡◌, refl}
use Rattle.plain.specs.declared.line.Line.{Line}
use Rattle.plain.specs.declared.call.Refusal.{Refusal}
use Rattle.plain.specs.declared.call.Refusal.TheVariants.{NoMeeting}
use Rattle.plain.specs.Call.{number_of, answer_number, answer_line}
use Rattle.plain.specs.Asking.{choice_number, choice_identity}

-- ---- an answer to a call

-- done, with a line or with none: 0
pub done-number : (l : Option Line) → answer_number (Ok l) ≡ 0
done-number l = refl

-- refused: the number of the question that was answered by no
pub refused-number : (r : Refusal) → answer_number (Err r) ≡ number_of r
refused-number r = refl

-- "Solve: makes, stores and returns that target's line"
pub solved-line : (l : Line) → answer_line (Ok (Some l)) ≡ Some l
solved-line l = refl

-- done without a line: none
pub done-line : answer_line (Ok None) ≡ None
done-line = refl

-- refused: no line
pub refused-line : (r : Refusal) → answer_line (Err r) ≡ None
refused-line r = refl

-- ---- an answer to a pick

-- a target is picked: 0
pub picked-number : (i : ℕ) → choice_number (Ok i) ≡ 0
picked-number i = refl

-- refused: the refusal's number
pub unpicked-number : (r : Refusal) → choice_number (Err r) ≡ number_of r
unpicked-number r = refl

-- "does some target's line have a found meeting time? 19"
pub no-meeting-number : choice_number (Err NoMeeting) ≡ 19
no-meeting-number = refl

-- the target that is picked
pub picked-identity : (i : ℕ) → choice_identity (Ok i) ≡ i
picked-identity i = refl

-- refused: 0, which no target has
pub unpicked-identity : (r : Refusal) → choice_identity (Err r) ≡ 0
unpicked-identity r = refl
