-- The invariant: v is the number of the first i digits.
use Rattle.std.proofs.Common.{ℕ, ◌≡◌, ◌<◌, ◌^◌, List}
use Rattle.unhex.specs.Digits.{Reads}
use Rattle.unhex.proofs.number_by.Given as goal

abbrev pub invariant-loop-i : goal.invariant-loop-i
invariant-loop-i g l = record {
  small : l.v < 16 ^ l.i;
  number : (f : ℕ → ℕ) (r : List ℕ → ℕ → ℕ → ℕ) → Reads f r → ((b d : ℕ) → goal.F-post g l.digit b d → d ≡ f b) → l.v ≡ r l.s 0 l.i;
}
