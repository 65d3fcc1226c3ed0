-- What is printed of each answer: "kind, number (2 hexadecimal digits, 00 done), then the answer". Definitions only.
use Rattle.std.specs.Prelude.{ℕ, List, [], ◌++◌, ◌≡◌, drop, Float, Option, Some, None, Result, Ok, Err}
use Rattle.jord.specs.Positions.{as_vec3}
use Rattle.hex_digits.specs.Hex.{digits}
use Rattle.means.specs.Mean as means
use Rattle.means.specs.Mean.{Mean}
use Rattle.plain.specs.Asking.{mean, pick, choice_number, choice_identity}
use Rattle.plain.specs.Board.{Plain, begins, answer}
use Rattle.plain.specs.Call.{Answer, answer_number, answer_line}
use Rattle.plain.specs.declared.call.Call.{Call}
use Rattle.plain.specs.declared.call.Refusal.{Refusal}
use Rattle.plain.specs.declared.line.Line.{Line}
use Rattle.wire.specs.declared.frame.Frame.TheVariants as frame
use Rattle.wire.specs.declared.kind.Kind.{Kind}
use Rattle.wire.specs.declared.kind.Kind.TheVariants as kind
use Rattle.wire.specs.declared.reply.Reason.{Reason}
use Rattle.wire.specs.declared.reply.Reply.{Reply}
use Rattle.wire.specs.Kind.{number_of}
use Rattle.wire.specs.Reply.{two, line_digits, position_digits, digits_by, reason_number, reply_digits}
use Rattle.sessions.specs.Session.{reply_of}

-- ---- what follows the number: "Refused: kind and number alone"

-- "05 the line", where the answer has one
abbrev pub line_part : Option Line → List ℕ
line_part None = []
line_part (Some l) = line_digits l

-- "07 identity", where a target is picked
abbrev pub identity_part : Result ℕ Refusal → List ℕ
identity_part (Ok i) = digits 4 (choice_identity (Ok i))
identity_part (Err r) = []

-- "06 three floats", where there is a mean
abbrev pub position_part : Mean → List ℕ
position_part (Ok p) = position_digits (as_vec3 p)
position_part (Err e) = []

-- ---- the digits of a reply, by the number of the whole answer

-- to a call, past the two digits of the kind, whatever byte a kind stands for
abbrev pub CallPrinted : {K : Type 0} → Answer → Reply K Reason → Type 0
CallPrinted {K} a y = (byte : K → ℕ) → drop 2 (digits_by byte reason_number y) ≡ digits 2 (answer_number a) ++ line_part (answer_line a)

-- to a mean
abbrev pub MeanPrinted : Mean → Reply Kind Reason → Type 0
MeanPrinted m y = reply_digits y ≡ two (number_of kind.Mean) (means.number_of m) ++ position_part m

-- to a pick
abbrev pub PickPrinted : Result ℕ Refusal → Reply Kind Reason → Type 0
PickPrinted c y = reply_digits y ≡ two (number_of kind.Pick) (choice_number c) ++ identity_part c

-- what is printed of the answers of a board: to a 00, to each call, to a mean and to a pick
pub record Printed (b : Plain) : Type 0 where
  pub of_fresh : (r : Float) → CallPrinted (begins r) (reply_of (Some b) (Some (frame.Fresh r)))
  pub of_call : (c : Call) → CallPrinted (answer b c) (reply_of (Some b) (Some (frame.Told c)))
  pub of_mean : MeanPrinted (mean b) (reply_of (Some b) (Some frame.Mean))
  pub of_pick : PickPrinted (pick b) (reply_of (Some b) (Some frame.Pick))
