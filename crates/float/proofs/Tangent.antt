-- `atan2` of two numbers, and that binary64 holds it. Assumes nothing.
use mathlib.Core.Path.{◌≡◌, refl, sym}
use mathlib.Core.Bool.{Bool, false, not, ◌||◌}
use lib.Dec.{T}
use lib.Ieee.{Float, nan, lt, is_nan, binary64, fits}
use lib.Ieee.Bits.{is_false}
use lib.Ieee.Fits.{cond-fits, nan-fits, neg-fits, add-fits, sub-fits}
use Rattle.patterns.specs.Bits.{sign_bit, magnitude}
use Rattle.patterns.specs.Operators.{◌⊕◌, ◌⊖◌, ◌⊘◌, whole, pi}
use Rattle.float.specs.Trig.{atan2, negated_if, subtracted_if, arc_bound, arc, arc_series, ratio}

-- m and n say whether y and x are NaNs
pub of-numbers : (y x : Float) {m n : Bool} → m ≡ is_nan y → n ≡ is_nan x → (m || n) ≡ false
    → negated_if (sign_bit y) (subtracted_if (sign_bit x) pi (subtracted_if (lt (magnitude x) (magnitude y)) (pi ⊘ whole 2) (arc (ratio (magnitude y) (magnitude x))))) ≡ atan2 y x
unfolding atan2
of-numbers y x e f h = rw (← e, ← f, h)

pub both : (y x : Float) → T (not (is_nan y)) → T (not (is_nan x))
    → atan2 y x ≡ negated_if (sign_bit y) (subtracted_if (sign_bit x) pi (subtracted_if (lt (magnitude x) (magnitude y)) (pi ⊘ whole 2) (arc (ratio (magnitude y) (magnitude x)))))
both y x a b = sym (of-numbers y x refl refl (rw (is_false (is_nan y) a, is_false (is_nan x) b)))

arc-fits : (t : Float) → T (fits binary64 (arc t))
unfolding arc
arc-fits t =
    let u = (t ⊖ whole 1) ⊘ (t ⊕ whole 1) in
    cond-fits binary64 (lt arc_bound t) (pi ⊘ whole 4 ⊕ arc_series u) (whole 0 ⊕ arc_series t)
    (add-fits binary64 (pi ⊘ whole 4) (arc_series u)) (add-fits binary64 (whole 0) (arc_series t))

subtracted-fits : (b : Bool) (c x : Float) → T (fits binary64 x) → T (fits binary64 (subtracted_if b c x))
subtracted-fits b c x h = cond-fits binary64 b _ x (sub-fits binary64 c x) h

negated_fits : (b : Bool) (x : Float) → T (fits binary64 x) → T (fits binary64 (negated_if b x))
negated_fits b x h = cond-fits binary64 b _ x (neg-fits binary64 x h) h

pub atan2-fits : (y x : Float) → T (fits binary64 (atan2 y x))
unfolding atan2
atan2-fits y x =
    let a = arc (ratio (magnitude y) (magnitude x)) in
    let b = subtracted_if (lt (magnitude x) (magnitude y)) (pi ⊘ whole 2) a in
    let c = subtracted_if (sign_bit x) pi b in
    cond-fits binary64 (is_nan y || is_nan x) nan (negated_if (sign_bit y) c) (nan-fits binary64)
    (negated_fits (sign_bit y) c
    (subtracted-fits (sign_bit x) pi b
    (subtracted-fits (lt (magnitude x) (magnitude y)) (pi ⊘ whole 2) a (arc-fits (ratio (magnitude y) (magnitude x))))))
