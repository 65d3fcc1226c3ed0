-- A finite value is no NaN; a finite sum has finite terms, and a finite square a finite root. Assumes nothing.
use Rattle.std.proofs.Common.{true, false, not, T}
use lib.Ieee.{Float, nan, inf, fin, add, sub, neg, mul, is_nan}
use lib.Ieee.Scale.{finite}
use Rattle.patterns.specs.Operators.{◌⊕◌, ◌⊖◌, ◌⊗◌}

pub finite-no-nan : (x : Float) → T (finite x) → T (not (is_nan x))
unfolding is_nan
finite-no-nan nan t = t
finite-no-nan (inf s) t = tt
finite-no-nan (fin s m e) t = tt

pub finite-terms : (x y : Float) → T (finite (x ⊕ y)) → T (finite x) × T (finite y)
unfolding add
finite-terms nan y t = absurd t
finite-terms (inf s) nan t = absurd t
finite-terms (inf true) (inf true) t = absurd t
finite-terms (inf true) (inf false) t = absurd t
finite-terms (inf false) (inf true) t = absurd t
finite-terms (inf false) (inf false) t = absurd t
finite-terms (inf s) (fin u n d) t = absurd t
finite-terms (fin s m e) nan t = absurd t
finite-terms (fin s m e) (inf u) t = absurd t
finite-terms (fin s m e) (fin u n d) t = (tt, tt)

pub finite-less : (x y : Float) → T (finite (x ⊖ y)) → T (finite x)
unfolding sub
finite-less x y t = (finite-terms x (neg y) t).0

pub finite-of-square : (x : Float) → T (finite (x ⊗ x)) → T (finite x)
unfolding mul
finite-of-square nan t = t
finite-of-square (inf s) t = t
finite-of-square (fin s m e) t = tt
