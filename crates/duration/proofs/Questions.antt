-- The questions 14 and 15 as the code asks them, each by its no, and what a found duration says of them. Assumes nothing.
use mathlib.Core.Path.{◌≡◌, refl, ap}
use Prim.Native.Nat.{ℕ}
use native.Mathlib.Omega.{arith}
use mathlib.Core.Bool.{Bool, true, false, not, true≢false}
use lib.Dec.{T}
use Rattle.std.specs.Prelude.{Ok, Err}
use Rattle.duration.specs.declared.OutOfRange.TheVariants.{Negative, TooLong}
use Rattle.duration.specs.Duration.{asked}

pub yes : (a : Bool) → not a ≡ false → T a
yes true e = tt
yes false e = absurd (true≢false e)

pub first-no : (a b : Bool) (n : ℕ) → not a ≡ true → Err Negative ≡ asked a b n
unfolding asked
first-no false b n e = refl
first-no true b n e = absurd (true≢false (ap not e))

pub second-no : (a b : Bool) (n : ℕ) → not a ≡ false → not b ≡ true → Err TooLong ≡ asked a b n
unfolding asked
second-no true false n e f = refl
second-no true true n e f = absurd (true≢false (ap not f))
second-no false b n e f = absurd (true≢false e)

pub both : (a b : Bool) (m n : ℕ) → not a ≡ false → not b ≡ false → m ≡ n → Ok m ≡ asked a b n
unfolding asked
both true true m n e f h = ap Ok h
both true false m n e f h = absurd (true≢false f)
both false b m n e f h = absurd (true≢false e)

pub record Found (a b : Bool) (n m : ℕ) : Type 0 where
  pub first : T a
  pub second : T b
  pub is : n ≡ m

pub found : (a b : Bool) (n m : ℕ) → asked a b n ≡ Ok m → Found a b n m
unfolding asked
found true true n m e = record { first = tt; second = tt; is = cc }
found true false n m e = let z : ◌≡◌ {A = ℕ} 0 1 = cc in let y : ⊥ = omega arith in absurd y
found false b n m e = let z : ◌≡◌ {A = ℕ} 0 1 = cc in let y : ⊥ = omega arith in absurd y
