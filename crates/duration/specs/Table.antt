-- Worked examples: the ends of the questions 14 and 15, ties and halves. `fin s m e` is m * 2 ^ e, negative where s is true.
use Rattle.std.specs.Prelude.{◌≡◌, refl, true, false, pos, negsuc, Ok, Err}
use Rattle.std.specs.Float.{nan, inf, fin}
use Rattle.std.specs.Float.Ieee.{of_int, add, mul, div, le, lt}
use Rattle.duration.specs.declared.OutOfRange.TheVariants.{Negative, TooLong}
use Rattle.duration.specs.Duration.{from_seconds, from_hours, to_seconds, number_of}

pub one-second : from_seconds (fin false 1 (pos 0)) ≡ Ok 1000000000
unfolding from_seconds of_int le lt
one-second = refl

pub minus-zero : from_seconds (fin true 0 (pos 0)) ≡ Ok 0
unfolding from_seconds of_int le lt
minus-zero = refl

pub not-a-number : number_of (from_seconds nan) ≡ 14
unfolding from_seconds of_int le lt
not-a-number = refl

-- -2 ^ -1074, the value next to zero
pub next-below-zero : number_of (from_seconds (fin true 1 (negsuc 1073))) ≡ 14
unfolding from_seconds of_int le lt
next-below-zero = refl

pub minus-infinity : from_seconds (inf true) ≡ Err Negative
unfolding from_seconds of_int le lt
minus-infinity = refl

-- exactly 2 ^ 34 seconds, and the value next below: 2 ^ 34 - 2 ^ -19 seconds are 17179869183999998092.65 nanoseconds
pub at-the-limit : number_of (from_seconds (fin false 1 (pos 34))) ≡ 15
unfolding from_seconds of_int le lt
at-the-limit = refl

pub next-below-the-limit : from_seconds (fin false 9007199254740991 (negsuc 18)) ≡ Ok 17179869183999998093
unfolding from_seconds of_int le lt
next-below-the-limit = refl

pub infinity : from_seconds (inf false) ≡ Err TooLong
unfolding from_seconds of_int le lt
infinity = refl

-- 2 ^ -10 seconds are 976562.5 nanoseconds, and 3 * 2 ^ -10 are 2929687.5
pub tie-down-to-even : from_seconds (fin false 1 (negsuc 9)) ≡ Ok 976562
unfolding from_seconds of_int le lt
tie-down-to-even = refl

pub tie-up-to-even : from_seconds (fin false 3 (negsuc 9)) ≡ Ok 2929688
unfolding from_seconds of_int le lt
tie-up-to-even = refl

-- 2 ^ -14 hours are 219726562.5 nanoseconds, and a tie to even would be 219726562
pub half-away-from-zero : from_hours (fin false 1 (negsuc 13)) ≡ Ok 219726563
unfolding from_hours of_int mul le lt
half-away-from-zero = refl

pub hours-not-a-number : from_hours nan ≡ Err Negative
unfolding from_hours of_int mul le lt
hours-not-a-number = refl

pub hours-infinite : from_hours (inf false) ≡ Err TooLong
unfolding from_hours of_int mul le lt
hours-infinite = refl

-- -2 ^ -1074 hours are 14 for their sign, however small their product
pub hours-next-below-zero : from_hours (fin true 1 (negsuc 1073)) ≡ Err Negative
unfolding from_hours of_int mul le lt
hours-next-below-zero = refl

-- 1.5 is 3 * 2 ^ -1
pub one_and_a_half : to_seconds 1500000000 ≡ fin false 3 (negsuc 0)
unfolding of_int add div
one_and_a_half = refl
