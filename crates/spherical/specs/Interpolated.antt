-- What `interpolated_position` of sphere.rs comes to in the answer: document 01's number 18. Definitions only.
use Rattle.std.specs.Prelude.{ℕ, Result, Ok, Err}
use Rattle.jord.specs.declared.positions.NVector.{NVector}
use Rattle.spherical.specs.declared.interpolated.Outside.{Outside}

-- a position, or that the fraction is not within 0.0 to 1.0
abbrev pub Interpolated : Type 0
Interpolated = Result NVector Outside

-- the number of an answer; 0 is done
abbrev pub number_of : Interpolated → ℕ
number_of (Ok p) = 0
number_of (Err e) = 18
