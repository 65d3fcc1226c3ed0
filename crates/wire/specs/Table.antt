-- Worked frames and replies.
use Rattle.std.specs.Prelude.{[], ◌∷◌, ◌≡◌, refl, Some, None}
use Rattle.std.specs.Float.{nan, binary64}
use Rattle.std.specs.Float.Ieee.{of_bits, to_bits}
use Rattle.plain.specs.declared.call.Call.TheVariants.{Withdraw}
use Rattle.unhex.specs.Digits.{all_digits, hex_at}
use Rattle.hex_digits.specs.Hex.{digits}
use Rattle.wire.specs.declared.frame.Frame.TheVariants.{Fresh, Told, Mean}
use Rattle.wire.specs.declared.kind.Kind.TheVariants.{Pick}
use Rattle.plain.specs.declared.call.Refusal.TheVariants.{NoMeeting}
use Rattle.wire.specs.declared.reply.Reason.TheVariants.{Refusal}
use Rattle.wire.specs.declared.reply.Reply.TheVariants as reply
use Rattle.wire.specs.Frame.{said, of_kind, frame_of}
use Rattle.wire.specs.Reply.{float_digits, digits_by, reply_digits}

-- 020008
withdraw : frame_of (48 ∷ 50 ∷ 48 ∷ 48 ∷ 48 ∷ 56 ∷ []) ≡ Some (Told (Withdraw 8))
unfolding frame_of of_kind said all_digits hex_at
withdraw = refl

-- 06
mean : frame_of (48 ∷ 54 ∷ []) ≡ Some Mean
unfolding frame_of of_kind said all_digits hex_at
mean = refl

-- 003ff0000000000000
radius : frame_of (48 ∷ 48 ∷ 51 ∷ 102 ∷ 102 ∷ 48 ∷ 48 ∷ 48 ∷ 48 ∷ 48 ∷ 48 ∷ 48 ∷ 48 ∷ 48 ∷ 48 ∷ 48 ∷ 48 ∷ 48 ∷ [])
    ≡ Some (Fresh (of_bits binary64 0x3ff0_0000_0000_0000))
unfolding frame_of of_kind said all_digits hex_at
radius = refl

-- 0 is no frame
digit-alone : frame_of (48 ∷ []) ≡ None
unfolding frame_of of_kind said all_digits hex_at
digit-alone = refl

-- the empty line is no frame
nothing : frame_of [] ≡ None
unfolding frame_of of_kind said all_digits hex_at
nothing = refl

-- 02000A is no frame
capital : frame_of (48 ∷ 50 ∷ 48 ∷ 48 ∷ 48 ∷ 65 ∷ []) ≡ None
unfolding frame_of of_kind said all_digits hex_at
capital = refl

-- 06 and a carriage return are no frame
carriage : frame_of (48 ∷ 54 ∷ 13 ∷ []) ≡ None
unfolding frame_of of_kind said all_digits hex_at
carriage = refl

-- 0713: number 19
refused : reply_digits (reply.Refused Pick (Refusal NoMeeting)) ≡ 48 ∷ 55 ∷ 49 ∷ 51 ∷ []
unfolding digits_by digits
refused = refl

-- 0800fffffffe
total : reply_digits (reply.Total 0xffff_fffe) ≡ 48 ∷ 56 ∷ 48 ∷ 48 ∷ 102 ∷ 102 ∷ 102 ∷ 102 ∷ 102 ∷ 102 ∷ 102 ∷ 101 ∷ []
unfolding digits_by digits
total = refl

-- ff01
no-frame : reply_digits reply.NotAFrame ≡ 102 ∷ 102 ∷ 48 ∷ 49 ∷ []
unfolding digits_by digits
no-frame = refl

-- c84d: a kind and a number that are none of document 01's
any-bytes : digits_by (λ b. b) (λ b. b) (reply.Refused 200 77) ≡ 99 ∷ 56 ∷ 52 ∷ 100 ∷ []
unfolding digits_by digits
any-bytes = refl

-- 7ff8000000000000
not-a-number : float_digits nan ≡ 55 ∷ 102 ∷ 102 ∷ 56 ∷ 48 ∷ 48 ∷ 48 ∷ 48 ∷ 48 ∷ 48 ∷ 48 ∷ 48 ∷ 48 ∷ 48 ∷ 48 ∷ 48 ∷ []
unfolding digits to_bits
not-a-number = refl
