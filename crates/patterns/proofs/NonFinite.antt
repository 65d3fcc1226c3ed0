-- Infinite or NaN: so are a product with such a value, a sum or difference that it begins, and the quotient of two is a NaN. Assumes nothing.
use Rattle.std.proofs.Common.{◌≡◌, Bool, true, false, cond, eqb, refl}
use mathlib.Core.Bool.{false≢true}
use lib.Ieee.{Float, nan, inf, fin, add, sub, mul, div, neg}
use Rattle.patterns.specs.Operators.{◌⊕◌, ◌⊖◌, ◌⊗◌, ◌⊘◌}

abbrev pub non_finite : Float → Bool
non_finite nan = true
non_finite (inf s) = true
non_finite (fin s m e) = false

either : (b : Bool) (s : Bool) → non_finite (cond b nan (inf s)) ≡ true
either true s = refl
either false s = refl

pub mul-non-finite : (x y : Float) → non_finite x ≡ true → non_finite (x ⊗ y) ≡ true
unfolding mul
mul-non-finite nan y h = refl
mul-non-finite (inf s) nan h = refl
mul-non-finite (inf s) (inf t) h = refl
mul-non-finite (inf s) (fin t n d) h = either (eqb n 0) _
mul-non-finite (fin s m e) y h = absurd (false≢true h)

pub non-finite-mul : (x y : Float) → non_finite y ≡ true → non_finite (x ⊗ y) ≡ true
unfolding mul
non-finite-mul nan y h = refl
non-finite-mul (inf s) y h = mul-non-finite (inf s) y refl
non-finite-mul (fin s m e) nan h = refl
non-finite-mul (fin s m e) (inf t) h = either (eqb m 0) _
non-finite-mul (fin s m e) (fin t n d) h = absurd (false≢true h)

pub add-non-finite : (x y : Float) → non_finite x ≡ true → non_finite (x ⊕ y) ≡ true
unfolding add
add-non-finite nan y h = refl
add-non-finite (inf s) nan h = refl
add-non-finite (inf true) (inf true) h = refl
add-non-finite (inf true) (inf false) h = refl
add-non-finite (inf false) (inf true) h = refl
add-non-finite (inf false) (inf false) h = refl
add-non-finite (inf s) (fin t n d) h = refl
add-non-finite (fin s m e) y h = absurd (false≢true h)

pub sub-non-finite : (x y : Float) → non_finite x ≡ true → non_finite (x ⊖ y) ≡ true
unfolding sub
sub-non-finite x y h = add-non-finite x (neg y) h

pub div-non-finite : (x y : Float) → non_finite x ≡ true → non_finite y ≡ true → x ⊘ y ≡ nan
unfolding div
div-non-finite nan y h k = refl
div-non-finite (inf s) nan h k = refl
div-non-finite (inf s) (inf t) h k = refl
div-non-finite (inf s) (fin t n d) h k = absurd (false≢true k)
div-non-finite (fin s m e) y h k = absurd (false≢true h)
