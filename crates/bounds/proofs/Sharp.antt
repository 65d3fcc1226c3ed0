-- The inputs at which the bounds of a radius' worth are reached, worked out. Assumes nothing.
use mathlib.Core.Path.{◌≡◌, refl, sym, ◌∙◌}
use mathlib.Core.Bool.{false, true≢false}
use Prim.Native.Nat.{ℕ, ◌*◌, ◌^◌, ◌≤◌}
use lib.Dec.{T, lit<, lit≤}
use lib.Ieee.{Float, binary64, fits, mul, of_bits}
use lib.Ieee.Scale.{finite}
use Rattle.patterns.specs.Bits.{sign_bit}
use Rattle.patterns.specs.Operators.{◌⊗◌}
use Rattle.patterns.specs.Units.{units_of}
use Rattle.bounds.specs.Radius.{Between}
use Rattle.bounds.specs.Sharp.{Sharp, five_quarters, short, long}

number : (lo hi : ℕ) (x : Float) → T (fits binary64 x) → T (finite x) → sign_bit x ≡ false → lo * 2 ^ 1074 ≤ units_of x → units_of x ≤ hi * 2 ^ 1074 → Between lo hi x
number lo hi x f t s l h = record { held = f; is_finite = t; not_below = λ e. absurd (true≢false (sym e ∙ s)); low = l; high = h }

-- both distances of the last claim, each worked out by itself
short-distance : units_of (five_quarters ⊗ short) ≡ 0x11800000000001 * 2 ^ 1023
unfolding mul of_bits units_of
short-distance = refl

long-distance : units_of (five_quarters ⊗ long) ≡ 0x11800000000001 * 2 ^ 1023
unfolding mul of_bits units_of
long-distance = refl

pub sharp : Sharp
unfolding fits mul of_bits units_of
sharp = record {
  angle = number 0 4 _ tt tt refl (lit≤ tt) (lit≤ tt);
  radii = record { first = number 1 (2 ^ 30) _ tt tt refl (lit≤ tt) (lit≤ tt); second = number 1 (2 ^ 30) _ tt tt refl (lit≤ tt) (lit≤ tt); rising = lit≤ tt };
  reached = refl;
  longer = record { first = number 1 (2 ^ 31) _ tt tt refl (lit≤ tt) (lit≤ tt); second = number 1 (2 ^ 31) _ tt tt refl (lit≤ tt) (lit≤ tt); rising = lit≤ tt };
  passed = refl;
  level_angle = number 0 4 _ tt tt refl (lit≤ tt) (lit≤ tt);
  level_radii = record { first = number 1 (2 ^ 30) _ tt tt refl (lit≤ tt) (lit≤ tt); second = number 1 (2 ^ 30) _ tt tt refl (lit≤ tt) (lit≤ tt); rising = lit≤ tt };
  apart = lit< tt;
  level = short-distance ∙ sym long-distance;
}
