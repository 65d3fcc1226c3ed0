-- How many digits a reply has, and one number written after another.
use Prim.Native.Nat.{ℕ, ◌+◌, ◌≤◌}
use mathlib.Core.List.{List, ◌++◌}
use mathlib.Core.Path.{◌≡◌, ap, ◌∙◌}
use native.Mathlib.Omega.{arith}
use lib.ListN.{length, length-append}
use Rattle.hex_digits.specs.Hex.{digits}
use Rattle.hex_digits.specs.Write.{Put, Wrote}
use Rattle.hex_digits.proofs.Write.{length_digits, number-wrote, then}
use Rattle.wire.specs.declared.kind.Kind.{Kind}
use Rattle.wire.specs.declared.reply.Reason.{Reason}
use Rattle.wire.specs.declared.reply.Reply.{Reply}
use Rattle.wire.specs.declared.reply.Reply.TheVariants.{Done, Refused, Solved, Mean, Pick, Total, NotAFrame}
use Rattle.wire.specs.Reply.{outcome_digits, line_digits, position_digits, digits_by, reason_number, reply_digits, most_reply_digits}
use Rattle.wire.specs.Kind.{number_of}

abbrev pub size_of : {K R : Type 0} → Reply K R → ℕ
size_of (Done k) = 4
size_of (Refused k q) = 4
size_of (Solved l) = most_reply_digits
size_of (Mean p) = 52
size_of (Pick i) = 8
size_of (Total t) = 12
size_of NotAFrame = 4

pub size_is : {K R : Type 0} (k : K → ℕ) (r : R → ℕ) (y : Reply K R) → length (digits_by k r y) ≡ size_of y
unfolding digits_by line_digits outcome_digits position_digits
size_is i j (Done k) = simp (length-append, length_digits)
size_is i j (Refused k q) = simp (length-append, length_digits)
size_is i j (Solved l) = simp (length-append, length_digits)
size_is i j (Mean p) = simp (length-append, length_digits)
size_is i j (Pick k) = simp (length-append, length_digits)
size_is i j (Total t) = simp (length-append, length_digits)
size_is i j NotAFrame = simp (length-append, length_digits)

size-short : {K R : Type 0} (y : Reply K R) → size_of y ≤ most_reply_digits
size-short (Done k) = omega arith
size-short (Refused k q) = omega arith
size-short (Solved l) = omega arith
size-short (Mean p) = omega arith
size-short (Pick i) = omega arith
size-short (Total t) = omega arith
size-short NotAFrame = omega arith

-- no reply is longer than a line's
pub reply-short : (y : Reply Kind Reason) → length (reply_digits y) ≤ most_reply_digits
reply-short y = omega (arith, size_is number_of reason_number y, size-short y)

-- the digits of a reply that is told apart
pub sized : {K R : Type 0} (k : K → ℕ) (r : R → ℕ) (y z : Reply K R) → y ≡ z → length (digits_by k r y) ≡ size_of z
sized k r y z e = size_is k r y ∙ ap size_of e

-- a number written from where a write ended
pub more : {xs mid out ys : List ℕ} {at n r q : ℕ} (m v : ℕ) → Wrote xs at n ys mid r → Put mid r (digits m v) out q → at + (n + m) ≤ length xs
    → Wrote xs at (n + m) (ys ++ digits m v) out q
more m v w p h = then w (number-wrote m v p (omega (arith, w.past, w.length_is)))
