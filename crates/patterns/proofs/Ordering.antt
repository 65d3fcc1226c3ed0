-- What `compare` of two numbers says. Assumes nothing.
use Rattle.std.proofs.Common.{◌≡◌, ℕ, ◌*◌, ◌<◌, ◌≤◌, not, T, eqb, refl, subst, lt_of_mul-lt-mul_right, arith, eqb→eq, leb→le}
use Prim.Native.Nat.{compare, Ordering}
use native.Mathlib.Nat.{eq_of_mul-eq-mul_right}
use lib.Dec.{is_le, compare_is_eq, nleb→lt, eqb_refl}

abbrev pub Cmp : Ordering → ℕ → ℕ → Type 0
Cmp Ordering.lt a b = a < b
Cmp Ordering.eq a b = a ≡ b
Cmp Ordering.gt a b = b < a

pub cmp : (a b : ℕ) → Cmp (compare a b) a b
cmp a b = go (compare a b) (leb→le a b) (nleb→lt a b) (eqb→eq a b) (λ (e : a ≡ b). subst (λ (x : ℕ). T (eqb a x)) e (eqb_refl a))
  where
    ne : a ≤ b → (a ≡ b → ⊥) → a < b
    ne h k = omega arith

    go : (o : Ordering) → (T (is_le o) → a ≤ b) → (T (not (is_le o)) → b < a) → (T (compare_is_eq o) → a ≡ b) → (a ≡ b → T (compare_is_eq o)) → Cmp o a b
    go Ordering.lt h k e n = ne (h tt) n
    go Ordering.eq h k e n = e tt
    go Ordering.gt h k e n = k tt

-- the order of two numbers tells what `compare` says
pub ordered : (a b : ℕ) (o : Ordering) → Cmp o a b → compare a b ≡ o
ordered a b o h = go (compare a b) o (cmp a b) h
  where
    go : (o p : Ordering) → Cmp o a b → Cmp p a b → o ≡ p
    go Ordering.lt Ordering.lt x y = refl
    go Ordering.lt Ordering.eq x y = let z : ⊥ = omega arith in absurd z
    go Ordering.lt Ordering.gt x y = let z : ⊥ = omega arith in absurd z
    go Ordering.eq Ordering.lt x y = let z : ⊥ = omega arith in absurd z
    go Ordering.eq Ordering.eq x y = refl
    go Ordering.eq Ordering.gt x y = let z : ⊥ = omega arith in absurd z
    go Ordering.gt Ordering.lt x y = let z : ⊥ = omega arith in absurd z
    go Ordering.gt Ordering.eq x y = let z : ⊥ = omega arith in absurd z
    go Ordering.gt Ordering.gt x y = refl

-- a common factor does not matter
pub rescale : (o : Ordering) (a b c : ℕ) → 0 < c → Cmp o (a * c) (b * c) → Cmp o a b
rescale Ordering.lt a b c C h = lt_of_mul-lt-mul_right c h
rescale Ordering.eq a b c C h = eq_of_mul-eq-mul_right c C a b h
rescale Ordering.gt a b c C h = lt_of_mul-lt-mul_right c h
