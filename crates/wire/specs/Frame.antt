-- The frame that a line is, a line being its bytes without the newline. Definitions only.
use Rattle.std.specs.Prelude.{ℕ, ◌+◌, cond, List, eqb, Float, length, Option, Some, None}
use Rattle.std.specs.Float.{binary64}
use Rattle.std.specs.Float.Ieee.{of_bits}
use Rattle.plain.specs.declared.call.Coordinates.{Coordinates}
use Rattle.plain.specs.declared.call.Fix.{Fix}
use Rattle.plain.specs.declared.call.Call.TheVariants.{Report, Withdraw, OwnShip, Track, Solve}
use Rattle.unhex.specs.Digits.{all_digits, hex_at}
use Rattle.wire.specs.declared.frame.Frame.{Frame}
use Rattle.wire.specs.declared.frame.Frame.TheVariants.{Fresh, Told, Mean, Pick, Total}
use Rattle.wire.specs.declared.kind.Kind.{Kind}
use Rattle.wire.specs.declared.kind.Kind.TheVariants as kind
use Rattle.wire.specs.Kind.{digits_of, kind_at}

-- f where the line has n digits
abbrev pub sized : ℕ → List ℕ → Frame → Option Frame
sized n s f = cond (eqb (length s) n) (Some f) None

-- `number s at n` is the number of the n digits of s from `at` on
module _ (number : List ℕ → ℕ → ℕ → ℕ) where
  -- "Floats are 16 digits of their bits, high digit first"; every NaN pattern is a NaN
  abbrev pub float_at : List ℕ → ℕ → Float
  float_at s at = of_bits binary64 (number s at 16)

  -- a position: three floats, 48 digits
  abbrev pub coordinates_at : List ℕ → ℕ → Coordinates
  coordinates_at s at = record { x = float_at s at; y = float_at s (at + 16); z = float_at s (at + 32) }

  -- "position, bearing, speed": 80 digits
  abbrev pub fix_at : List ℕ → ℕ → Fix
  fix_at s at = record { position = coordinates_at s at; bearing = float_at s (at + 48); speed = float_at s (at + 64) }

  -- "identity (4)", past the kind
  abbrev pub identity_in : List ℕ → ℕ
  identity_in s = number s 2 4

  -- what a line of a kind says: "00 radius; 01 identity (4), position, bearing, speed; 02 identity; 03 as 01 without identity;
  -- 04 two positions; 05 identity; 06 mean; 07 pick; 08 total"
  unfoldable pub said : Kind → List ℕ → Frame
  said kind.Fresh s = Fresh (float_at s 2)
  said kind.Report s = Told (Report (identity_in s) (fix_at s 6))
  said kind.Withdraw s = Told (Withdraw (identity_in s))
  said kind.OwnShip s = Told (OwnShip (fix_at s 2))
  said kind.Track s = Told (Track (coordinates_at s 2) (coordinates_at s 50))
  said kind.Solve s = Told (Solve (identity_in s))
  said kind.Mean s = Mean
  said kind.Pick s = Pick
  said kind.Total s = Total

  -- a line of digits alone, by its kind: it has as many as the kind
  unfoldable pub of_kind : Option Kind → List ℕ → Option Frame
  of_kind None s = None
  of_kind (Some k) s = sized (digits_of k) s (said k s)

  abbrev pub framed : ℕ → List ℕ → Option Frame
  framed number s = of_kind (kind_at number) s

-- "lowercase hexadecimal", "Kind (2 digits), then": any line that is none of these is no frame
unfoldable pub frame_of : List ℕ → Option Frame
frame_of s = cond (all_digits s) (framed hex_at (hex_at s 0 2) s) None
