-- One reduction of an angle, from which sine, cosine and both are taken. It serves the code alone: sine and cosine are those of Trig.
use Rattle.std.specs.Prelude.{◌≡◌, ℕ, zero, suc, Float, List, [], ◌∷◌, fold}
use Rattle.std.specs.Float.{binary64}
use Rattle.std.specs.Float.Ieee.{neg, of_bits}
use Rattle.patterns.specs.Operators.{◌⊕◌, ◌⊗◌}
use Rattle.float.specs.Trig.{reduced, quarters, offset, sine_at, cosine_at}
use Rattle.float.specs.declared.trig.Reduction.{Reduction}
use Rattle.float.specs.declared.trig.SinCos.{SinCos}

-- j, and the offset y for that j
abbrev pub reduce : Float → Reduction
reduce x = record { j = quarters (reduced x); y = offset (reduced x) (quarters (reduced x)) }

-- "Sine for j 0 to 4: S, C, -S, -C, S", "Cosine: C, -S, -C, S, C", of one j and one y
abbrev pub both_at : ℕ → Float → SinCos
both_at j y = record { sin = sine_at j y; cos = cosine_at j y }

-- "Each Horner step is product, then sum": from the first of the coefficients over the others
abbrev pub horner : List Float → Float → Float
horner [] z = of_bits binary64 0
horner (a ∷ coefficients) z = fold (λ s c. s ⊗ z ⊕ c) a coefficients

-- what `post` tells of a result: it is a
abbrev pub Gives : (Float → Type 0) → Float → Type 0
Gives post a = (r : Float) → post r → r ≡ a

-- "S, C, -S, -C, S" of s and c, by j
abbrev pub turned : ℕ → Float → Float → Float
turned zero s c = s
turned (suc zero) s c = c
turned (suc (suc zero)) s c = neg s
turned (suc (suc (suc zero))) s c = neg c
turned (suc (suc (suc (suc j)))) s c = s
