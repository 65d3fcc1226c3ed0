-- The angle of a point mirrored at the x axis is negated. Assumes nothing.
use mathlib.Core.Path.{◌≡◌, refl}
use mathlib.Core.Bool.{Bool, true, false, not}
use lib.Ieee.{Float, nan, inf, fin, neg}
use Rattle.float.specs.Trig.{atan2, negated_if}

neg-neg : (v : Float) → neg (neg v) ≡ v
unfolding neg
neg-neg nan = refl
neg-neg (inf true) = refl
neg-neg (inf false) = refl
neg-neg (fin true m e) = refl
neg-neg (fin false m e) = refl

turned : (s : Bool) (v : Float) → neg (negated_if s v) ≡ negated_if (not s) v
turned true v = neg-neg v
turned false v = refl

pub neg-atan2 : (y x : Float) → neg (atan2 y x) ≡ atan2 (neg y) x
unfolding atan2 neg
neg-atan2 nan x = refl
neg-atan2 (inf s) nan = refl
neg-atan2 (inf s) (inf t) = turned s _
neg-atan2 (inf s) (fin t n d) = turned s _
neg-atan2 (fin s m e) nan = refl
neg-atan2 (fin s m e) (inf t) = turned s _
neg-atan2 (fin s m e) (fin t n d) = turned s _
