-- Sine, cosine and atan2 as document 01 words them, over the operators of f64. Definitions only.
use Rattle.std.specs.Prelude.{ℕ, zero, suc, ◌+◌, ◌*◌, Bool, false, ◌||◌, cond, Float}
use Rattle.std.specs.Float.{nan, inf, binary64}
use Rattle.std.specs.Float.Ieee.{rem, neg, lt, eq, is_nan, of_bits, of_int, add, sub, mul, div}
use Rattle.patterns.specs.Bits.{magnitude, sign_bit}
use Rattle.patterns.specs.Operators.{◌⊕◌, ◌⊖◌, ◌⊗◌, ◌⊘◌, whole, pi}
use Rattle.float.specs.declared.trig.SinCos.{SinCos}

-- ---- Horner's rule
abbrev pub factorial : ℕ → ℕ
factorial zero = 1
factorial (suc n) = suc n * factorial n

-- (-1)^k
abbrev pub signed : ℕ → Float
signed zero = whole 1
signed (suc k) = neg (signed k)

-- "Each Horner step is product, then sum": from the value a so far, over the coefficients c k from k = n - 1 down to 0
abbrev pub steps : (ℕ → Float) → Float → ℕ → Float → Float
steps c z zero a = a
steps c z (suc k) a = steps c z k (a ⊗ z ⊕ c k)

-- the Horner value in z of the coefficients c k, "k from n down to 0"
abbrev pub horner : (ℕ → Float) → ℕ → Float → Float
horner c n z = steps c z n (c n)

-- "each coefficient is one quotient by the exact factorial"
abbrev pub sine_coefficient : ℕ → Float
sine_coefficient k = signed k ⊘ whole (factorial (2 * k + 1))

abbrev pub cosine_coefficient : ℕ → Float
cosine_coefficient k = signed k ⊘ whole (factorial (2 * k))

-- "S is y times the Horner value in z of (-1)^k/(2k+1)!, k from 8 down to 0", with "z = y times y"
abbrev pub sine_series : Float → Float
sine_series y = y ⊗ horner sine_coefficient 8 (y ⊗ y)

-- "C is the Horner value of (-1)^k/(2k)!, k from 9 down to 0"
abbrev pub cosine_series : Float → Float
cosine_series y = horner cosine_coefficient 9 (y ⊗ y)

-- ---- sine and cosine
-- "r is the magnitude % (2.0 times `PI`)": a NaN for a NaN or an infinity, and so is all that follows from it
unfoldable pub reduced : Float → Float
unfolding rem mul
reduced x = rem binary64 (magnitude x) (whole 2 ⊗ pi)

-- "j is 0, 1, 2 or 3 when r is below 0.25, 0.75, 1.25 or 1.75 times `PI`, first that fits, else 4"
unfoldable pub quarters : Float → ℕ
unfolding lt mul
quarters r =
    cond (lt r (of_bits binary64 0x3fd0000000000000 ⊗ pi)) 0
    (cond (lt r (of_bits binary64 0x3fe8000000000000 ⊗ pi)) 1
    (cond (lt r (of_bits binary64 0x3ff4000000000000 ⊗ pi)) 2
    (cond (lt r (of_bits binary64 0x3ffc000000000000 ⊗ pi)) 3 4)))

-- "y = r - j times (`PI`/2.0)"
unfoldable pub offset : Float → ℕ → Float
unfolding sub mul div of_int
offset r j = r ⊖ whole j ⊗ (pi ⊘ whole 2)

-- "Sine for j 0 to 4: S, C, -S, -C, S"
abbrev pub sine_at : ℕ → Float → Float
sine_at zero y = sine_series y
sine_at (suc zero) y = cosine_series y
sine_at (suc (suc zero)) y = neg (sine_series y)
sine_at (suc (suc (suc zero))) y = neg (cosine_series y)
sine_at (suc (suc (suc (suc j)))) y = sine_series y

-- "Cosine: C, -S, -C, S, C"
abbrev pub cosine_at : ℕ → Float → Float
cosine_at zero y = cosine_series y
cosine_at (suc zero) y = neg (sine_series y)
cosine_at (suc (suc zero)) y = neg (cosine_series y)
cosine_at (suc (suc (suc zero))) y = sine_series y
cosine_at (suc (suc (suc (suc j)))) y = cosine_series y

-- -x where b says so
abbrev pub negated_if : Bool → Float → Float
negated_if b x = cond b (neg x) x

-- "negated if the input's sign bit is set"
unfoldable pub sin : Float → Float
unfolding reduced quarters offset neg add mul div of_int
sin x = negated_if (sign_bit x) (sine_at (quarters (reduced x)) (offset (reduced x) (quarters (reduced x))))

unfoldable pub cos : Float → Float
unfolding reduced quarters offset neg add mul div of_int
cos x = cosine_at (quarters (reduced x)) (offset (reduced x) (quarters (reduced x)))

-- request 2026-04: both of one angle
abbrev pub sin_cos : Float → SinCos
sin_cos x = record { sin = sin x; cos = cos x }

-- ---- atan2
abbrev pub arc_coefficient : ℕ → Float
arc_coefficient k = signed k ⊘ whole (2 * k + 1)

-- "u times the Horner value in u times u of (-1)^k/(2k+1), k from 20 down to 0"
unfoldable pub arc_series : Float → Float
unfolding neg add mul div of_int
arc_series u = u ⊗ horner arc_coefficient 20 (u ⊗ u)

-- "the lesser magnitude over the greater; both zero 0, both infinite 1"
unfoldable pub quotient : Float → Float → Float
unfolding eq div of_int
quotient lesser greater = cond (eq greater (whole 0)) (whole 0) (cond (eq lesser (inf false)) (whole 1) (lesser ⊘ greater))

unfoldable pub ratio : Float → Float → Float
unfolding lt quotient
ratio a b = cond (lt a b) (quotient a b) (quotient b a)

-- 0.4140625
abbrev pub arc_bound : Float
arc_bound = of_bits binary64 0x3fda800000000000

-- "If t exceeds 0.4140625, u = (t-1)/(t+1) and base `PI`/4, else u = t and base 0. α = base + u times the Horner value"
unfoldable pub arc : Float → Float
unfolding lt sub add div arc_series of_int of_bits
arc t = cond (lt arc_bound t) (pi ⊘ whole 4 ⊕ arc_series ((t ⊖ whole 1) ⊘ (t ⊕ whole 1))) (whole 0 ⊕ arc_series t)

-- c - x where b says so
abbrev pub subtracted_if : Bool → Float → Float → Float
subtracted_if b c x = cond b (c ⊖ x) x

-- "NaN if either is." .. "|y| above |x|: α becomes `PI`/2 - α. Sign bit of x set: `PI` - α. Sign bit of y set: -α."
unfoldable pub atan2 : Float → Float → Float
unfolding lt neg sub div ratio arc of_int is_nan
atan2 y x =
    cond (is_nan y || is_nan x) nan
    (negated_if (sign_bit y)
    (subtracted_if (sign_bit x) pi
    (subtracted_if (lt (magnitude x) (magnitude y)) (pi ⊘ whole 2) (arc (ratio (magnitude y) (magnitude x))))))
