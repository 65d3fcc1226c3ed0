-- The digits of a reply: "kind, number (2 hexadecimal digits, 00 done), then the answer". Definitions only.
use Rattle.std.specs.Prelude.{ℕ, List, ◌++◌, Float, Err}
use Rattle.std.specs.Float.{binary64}
use Rattle.std.specs.Float.Ieee.{to_bits}
use Rattle.means.specs.Mean as means
use Rattle.plain.specs.Call as call
use Rattle.plain.specs.declared.line.Line.{Line}
use Rattle.hex_digits.specs.Hex.{digits}
use Rattle.vectors.specs.declared.vec3.Vec3.{Vec3}
use Rattle.walks.specs.Outcome as outcome
use Rattle.arcs.specs.Side.{side_number}
use Rattle.walks.specs.declared.Outcome.{Outcome}
use Rattle.wire.specs.declared.kind.Kind.{Kind}
use Rattle.wire.specs.Kind.{number_of}
use Rattle.wire.specs.declared.reply.Reason.{Reason}
use Rattle.wire.specs.declared.reply.Reason.TheVariants as reason
use Rattle.wire.specs.declared.reply.Reply.{Reply}
use Rattle.wire.specs.declared.reply.Reply.TheVariants.{Done, Refused, Solved, Mean, Pick, Total, NotAFrame}

-- kind and number
abbrev pub two : ℕ → ℕ → List ℕ
two kind number = digits 2 kind ++ digits 2 number

-- document 01's number of a refusal
abbrev pub reason_number : Reason → ℕ
reason_number (reason.Refusal q) = call.answer_number (Err q)
reason_number (reason.NoMean e) = means.number_of (Err e)

-- "Floats are 16 digits of their bits, high digit first"; "NaN is 7ff8000000000000"
abbrev pub float_digits : Float → List ℕ
float_digits x = digits 16 (to_bits binary64 x)

-- "number, 16 digits nanoseconds, 0 when refused, 2 digits count": 20 digits
unfoldable pub outcome_digits : Outcome → List ℕ
outcome_digits o = digits 2 (outcome.number_of o) ++ digits 16 (outcome.nanoseconds_of o) ++ digits 2 (outcome.count_of o)

-- "the line (distance, bearing, side, offset, thrice number, nanoseconds, count)": 110 digits
unfoldable pub line_digits : Line → List ℕ
line_digits l =
    float_digits l.distance ++ float_digits l.bearing ++ digits 2 (side_number l.side) ++ float_digits l.offset
    ++ outcome_digits l.closest ++ outcome_digits l.meeting ++ outcome_digits l.longest

-- "06 three floats": 48 digits
unfoldable pub position_digits : Vec3 → List ℕ
position_digits p = float_digits p.x ++ float_digits p.y ++ float_digits p.z

-- "05 the line, 06 three floats, 07 identity, 08 eight digits. Refused: kind and number alone; number 1, from either cause: ff01",
-- of any kinds and reasons by the byte that each stands for
unfoldable pub digits_by : {K R : Type 0} → (K → ℕ) → (R → ℕ) → Reply K R → List ℕ
digits_by k r (Done kind) = two (k kind) 0
digits_by k r (Refused kind why) = two (k kind) (r why)
digits_by k r (Solved l) = two 5 0 ++ line_digits l
digits_by k r (Mean p) = two 6 0 ++ position_digits p
digits_by k r (Pick i) = two 7 0 ++ digits 4 i
digits_by k r (Total t) = two 8 0 ++ digits 8 t
digits_by k r NotAFrame = two 255 1

-- of document 01's kinds and reasons
abbrev pub reply_digits : Reply Kind Reason → List ℕ
reply_digits = digits_by number_of reason_number

-- the digits of the longest reply, a line
abbrev pub most_reply_digits : ℕ
most_reply_digits = 114
