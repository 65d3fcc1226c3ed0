-- The kinds of frames. Definitions only.
use Rattle.std.specs.Prelude.{ℕ, cond, eqb, Option, Some, None}
use Rattle.wire.specs.declared.kind.Kind.{Kind}
use Rattle.wire.specs.declared.kind.Kind.TheVariants.{Fresh, Report, Withdraw, OwnShip, Track, Solve, Mean, Pick, Total}

-- "at most 98 digits"
abbrev pub most_frame_digits : ℕ
most_frame_digits = 98

-- "00 radius; 01 identity (4), position, bearing, speed; 02 identity; 03 as 01 without identity; 04 two positions; 05 identity; 06 mean; 07 pick; 08 total"
abbrev pub number_of : Kind → ℕ
number_of Fresh = 0
number_of Report = 1
number_of Withdraw = 2
number_of OwnShip = 3
number_of Track = 4
number_of Solve = 5
number_of Mean = 6
number_of Pick = 7
number_of Total = 8

-- the kind of a number, where there is one
abbrev pub kind_at : ℕ → Option Kind
kind_at n =
    cond (eqb n 0) (Some Fresh)
    (cond (eqb n 1) (Some Report)
    (cond (eqb n 2) (Some Withdraw)
    (cond (eqb n 3) (Some OwnShip)
    (cond (eqb n 4) (Some Track)
    (cond (eqb n 5) (Some Solve)
    (cond (eqb n 6) (Some Mean)
    (cond (eqb n 7) (Some Pick)
    (cond (eqb n 8) (Some Total) None))))))))

-- its digits: two for the kind, 4 for an identity, 16 for each float
abbrev pub digits_of : Kind → ℕ
digits_of Fresh = 18
digits_of Report = 86
digits_of Withdraw = 6
digits_of OwnShip = 82
digits_of Track = most_frame_digits
digits_of Solve = 6
digits_of Mean = 2
digits_of Pick = 2
digits_of Total = 2
