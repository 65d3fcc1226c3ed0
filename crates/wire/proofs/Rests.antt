-- What a rest of a line says is what the line says further on.
use Prim.Native.Nat.{ℕ, zero, suc, ◌+◌, ◌-◌, ◌≤◌}
use mathlib.Core.List.{List}
use mathlib.Core.Path.{◌≡◌, refl, ap, ◌∙◌}
use native.Mathlib.Omega.{arith}
use borrow.Author.Tests.{leb-true, leb-false, le-leb}
use Rattle.std.proofs.lemmas.Bool.{lt-leb}
use lib.Dec.{leb}
use lib.ListN.{length, drop, take, length-drop}
use lib.Seq.{get_or-drop, take_all}
use Rattle.unhex.specs.Digits.{lows_at, lows_in}
use Rattle.unhex.proofs.Read.{by-test}
use Rattle.std.specs.Float.{binary64}
use Rattle.std.specs.Float.Ieee.{of_bits}
use Rattle.wire.specs.Frame.{float_at, coordinates_at, fix_at, identity_in}

-- the bytes from k on, as a slice takes them
pub to-end : (s : List ℕ) (k : ℕ) → take (length s - k) (drop k s) ≡ drop k s
to-end s k = take_all (length s - k) (drop k s) (omega (arith, length-drop k s))

lows-from : (s : List ℕ) (k at n : ℕ) → lows_at (drop k s) at n ≡ lows_at s (k + at) n
unfolding lows_at
lows-from s k at zero = refl
lows-from s k at (suc n) =
    let e : k + (at + n) ≡ k + at + n = omega arith in
    rw (lows-from s k at n, get_or-drop k s (at + n) 0, e) refl

pub rest-lows : (s : List ℕ) (k at n : ℕ) → k ≤ length s → lows_in (drop k s) at n ≡ lows_in s (k + at) n
rest-lows s k at n h =
    let l = length-drop k s in
    by-test (leb (at + n) (length (drop k s)))
    (λ t. rw (t, le-leb (k + at + n) (length s) (omega (arith, l, leb-true _ _ t))) (lows-from s k at n))
    (λ t. rw (t, lt-leb (k + at + n) (length s) (omega (arith, l, leb-false _ _ t))) refl)

-- what stands from `at` on in a rest of the line stands k later in the line
module _ (s : List ℕ) (k : ℕ) (h : k ≤ length s) where
  pub float-on : (at j : ℕ) → k + at ≡ j → float_at lows_in (take (length s - k) (drop k s)) at ≡ float_at lows_in s j
  float-on at j e = ap (of_bits binary64) (ap (λ (z : List ℕ). lows_in z at 16) (to-end s k) ∙ rest-lows s k at 16 h ∙ ap (λ (i : ℕ). lows_in s i 16) e)

  pub coordinates-on : (at j : ℕ) → k + at ≡ j → coordinates_at lows_in (take (length s - k) (drop k s)) at ≡ coordinates_at lows_in s j
  coordinates-on at j e = rw (float-on at j e, float-on (at + 16) (j + 16) (omega (arith, e)), float-on (at + 32) (j + 32) (omega (arith, e))) refl

  pub fix-on : (j : ℕ) → k + 0 ≡ j → fix_at lows_in (take (length s - k) (drop k s)) 0 ≡ fix_at lows_in s j
  fix-on j e = rw (coordinates-on 0 j e, float-on 48 (j + 48) (omega (arith, e)), float-on 64 (j + 64) (omega (arith, e))) refl

  pub identity-on : k ≡ 2 → lows_in (take (length s - k) (drop k s)) 0 4 ≡ identity_in lows_in s
  identity-on e =
      let there : k + 0 ≡ 2 = omega (arith, e) in
      ap (λ (z : List ℕ). lows_in z 0 4) (to-end s k) ∙ rest-lows s k 0 4 h ∙ ap (λ (i : ℕ). lows_in s i 4) there
