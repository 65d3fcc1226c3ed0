-- A search and a fold by the index of each entry are those over the list. Assumes nothing.
use mathlib.Core.Path.{◌≡◌, refl, ap, ◌∙◌}
use Prim.Native.Nat.{ℕ, suc, ◌+◌, ◌<◌}
use native.Mathlib.Omega.{arith}
use mathlib.Core.Bool.{Bool, ◌||◌}
use mathlib.Core.List.{List, [], ◌∷◌, map}
use lib.ListN.{length, get_or}
use Rattle.std.specs.List.{list_any, fold, range_with_len}

-- the numbers from a on, each made an entry by g, are the list, where g gives its entries from a on
entries_from : {A : Type 0} (g : ℕ → A) (d : A) (l : List A) (a : ℕ) → ((j : ℕ) → j < length l → g (a + j) ≡ get_or l j d) → map g (range_with_len a (length l)) ≡ l
entries_from g d [] a h = refl
entries_from g d (x ∷ l) a h =
    let here : a ≡ a + 0 = omega arith in
    let next : (j : ℕ) → a + 1 + j ≡ a + suc j = λ j. omega arith in
    rw (
      ap g here ∙ h 0 (omega arith),
      entries_from g d l (a + 1) (λ j b. ap g (next j) ∙ h (suc j) (omega (arith, b))),
    )

any-map : {A B : Type 0} (g : A → B) (f : B → Bool) (l : List A) → list_any (λ i. f (g i)) l ≡ list_any f (map g l)
any-map g f [] = refl
any-map g f (x ∷ l) = ap (λ (b : Bool). f (g x) || b) (any-map g f l)

fold-map : {A B C : Type 0} (g : A → B) (f : C → B → C) (c : C) (l : List A) → fold (λ s i. f s (g i)) c l ≡ fold f c (map g l)
fold-map g f c [] = refl
fold-map g f c (x ∷ l) = fold-map g f (f c (g x)) l

module _ {A : Type 0} (l : List A) (d : A) where
  by_index : map (λ i. get_or l i d) (range_with_len 0 (length l)) ≡ l
  by_index = entries_from (λ i. get_or l i d) d l 0 (λ j h. ap (λ (k : ℕ). get_or l k d) (let e : 0 + j ≡ j = omega arith in e))

  pub any-by_index : (f : A → Bool) → list_any (λ i. f (get_or l i d)) (range_with_len 0 (length l)) ≡ list_any f l
  any-by_index f = any-map (λ i. get_or l i d) f (range_with_len 0 (length l)) ∙ ap (list_any f) by_index

  pub fold-by_index : {B : Type 0} (f : B → A → B) (b : B) → fold (λ s i. f s (get_or l i d)) b (range_with_len 0 (length l)) ≡ fold f b l
  fold-by_index f b = fold-map (λ i. get_or l i d) f b (range_with_len 0 (length l)) ∙ ap (fold f b) by_index
