-- Lists that the loops over the array build, and where a search of a list ends.
use Rattle.std.specs.Prelude.{Option, Some, None, Ok, Err, nat_le, position}
use Prim.Native.Nat.{ℕ, suc, ◌+◌, ◌-◌, ◌≤◌, ◌<◌}
use native.Mathlib.Nat.{min-le_left}
use native.Mathlib.Numerals.{add-one}
use native.Mathlib.Omega.{arith}
use mathlib.Core.Path.{◌≡◌, refl, sym, ap, ◌∙◌}
use mathlib.Core.Bool.{Bool, true, false, cond}
use mathlib.Core.List.{List, [], ◌∷◌, ◌++◌, map, append-nil}
use lib.Dec.{ltb, leb, eqb}
use borrow.Author.Tests.{leb-true, leb-false, lt-ltb, le-ltb, eq-eqb, ne_eqb}
use lib.ListN.{length, take, drop, get_or, set, length-take, length-drop, length-append, drop_of_length-le}
use Rattle.std.specs.List.{copy_within, position_from}
use Rattle.std.proofs.lemmas.Iterator.Adapters.{position_from-zero}
use lib.Seq.{take-append-add, get_or-drop, take-suc, drop-cons, set_at, append_snoc, length-take-le, take_all, get_or-append-add, take_at}
use lib.Ieee.{nan}
use Rattle.plain.specs.declared.targets.Target.{Target}
use Rattle.targets.specs.Slots.{spot_in, spot_from}

module _ {A : Type 0} where
  -- t before place p
  abbrev pub insert_at : ℕ → A → List A → List A
  insert_at p t ts = take p ts ++ t ∷ drop p ts

  -- without what stands in place p
  abbrev pub remove_at : ℕ → List A → List A
  remove_at p ts = take p ts ++ drop (p + 1) ts

  -- one store more of a list `s` laid over a list `l` from the front
  pub laid : (s l out : List A) (i : ℕ) (d v : A) → i < length s → i < length l → out ≡ take i s ++ drop i l → get_or s i d ≡ v → set out i v ≡ take (i + 1) s ++ drop (i + 1) l
  laid s l out i d v hs hl e g =
      rw (e, ← g, drop-cons l i d, set_at (take i s) (get_or l i d) (drop (suc i) l) (get_or s i d) i (length-take-le i s (omega arith)), add-one, take-suc s i d, append_snoc)

  -- an element of the second of two lists
  pub get_d_past : (xs ys : List A) (i : ℕ) (d : A) → length xs ≤ i → get_or (xs ++ ys) i d ≡ get_or ys (i - length xs) d
  get_d_past xs ys i d h =
      let e : length xs + (i - length xs) ≡ i = omega arith in
      rw e at (get_or-append-add xs ys (i - length xs) d)

  -- what stands in the place that the next store takes
  pub next : (s l : List A) (i : ℕ) (d : A) → i ≤ length s → get_or (take i s ++ drop i l) i d ≡ get_or l i d
  next s l i d h =
      let k : length (take i s) ≡ i = length-take-le i s h in
      let z : i + (i - i) ≡ i = omega arith in
      get_d_past (take i s) (drop i l) i d (omega arith) ∙ rw (k, get_or-drop, z)

  -- past its end a list is taken whole
  pub whole : (ts rest : List A) (n p : ℕ) → length ts ≡ n → n ≤ p → ts ≡ take n (take p ts ++ rest)
  whole ts rest n p e h = sym (rw (take_all p ts (omega arith)) (take_at ts rest n e))

  -- what a copy within the array leaves: the elements after p one place earlier, the last where it was
  pub removed-within : (ts : List A) (p n : ℕ) → length ts ≡ n → p < n → copy_within ts (p + 1) n p ≡ take n (remove_at p ts ++ drop (n - 1) ts)
  removed-within ts p n full inside =
      let j : p + (n - (p + 1)) ≡ n - 1 = omega arith in
      let l : length (remove_at p ts ++ drop (n - 1) ts) ≤ n = rw (length-append, length-append, length-take-le p ts (omega arith), length-drop, length-drop) (omega arith) in
      rw (j, take_all (n - (p + 1)) (drop (p + 1) ts) (rw length-drop (omega arith))) (sym (take_all n (remove_at p ts ++ drop (n - 1) ts) l))

  -- the elements from p on one place later, and then t in place p
  pub inserted-within : (ts : List A) (p n : ℕ) (t : A) → length ts ≡ n → p < n → set (copy_within ts p (n - 1) (p + 1)) p t ≡ take n (insert_at p t ts)
  inserted-within ts p n t full inside =
      let k : length (take p ts) + suc (n - 1 - p) ≡ n = rw (length-take-le p ts (omega arith)) (omega arith) in
      let inside' : p < length ts = omega arith in
      let e : drop (p + 1 + (n - 1 - p)) ts ≡ [] = drop_of_length-le ts (omega arith) in
      rw (e, append-nil, add-one, take-suc ts p t inside', append_snoc)
      (set_at (take p ts) (get_or ts p t) (take (n - 1 - p) (drop p ts)) t p (length-take-le p ts (omega arith))
      ∙ sym (rw k at (take-append-add (take p ts) (t ∷ drop p ts) (suc (n - 1 - p)))))

pub length-map : {A B : Type 0} (f : A → B) (l : List A) → length (map f l) ≡ length l
length-map f [] = refl
length-map f (x ∷ l) = ap suc (length-map f l)

-- what a read past the end of an array of targets gives, in the logic's account of it
abbrev pub absent : Target
absent =
    record {
      identity = 0;
      held =
          record {
            report =
                record {
                  position = record { 0 = record { x = nan; y = nan; z = nan } };
                  bearing = record { radians = nan };
                  speed = record { mps = nan };
                };
            line = None;
          };
    }

-- a search of names ends at the first that is not below the one sought
module _ {X : Type 0} (name : X → ℕ) (x : ℕ) where
  abbrev first : ℕ → List X → Option ℕ
  first i l = position_from (λ y. nat_le x (name y)) i l

  from-none : (i : ℕ) (l : List X) → first i l ≡ None → Err (i + length l) ≡ spot_in i x (map name l)
  unfolding spot_in
  from-none i [] e = ap Err (let z : i + 0 ≡ i = omega arith in z)
  from-none i (y ∷ l) e = go (leb x (name y)) refl e (from-none (i + 1) l)
    where
      go : (b : Bool) → leb x (name y) ≡ b → cond b (Some i) (first (i + 1) l) ≡ None
          → (first (i + 1) l ≡ None → Err (i + 1 + length l) ≡ spot_in (i + 1) x (map name l)) → Err (i + suc (length l)) ≡ spot_in i x (map name (y ∷ l))
      go true q e ih = let z : ◌≡◌ {A = ℕ} 0 1 = cc in absurd (omega arith)
      go false q e ih =
          let k : i + suc (length l) ≡ i + 1 + length l = omega arith in
          rw (k, lt-ltb (name y) x (leb-false x (name y) q), ← add-one i) (ih e)

  -- the first that is not below stands at j
  record Stops (i j : ℕ) (l : List X) (d : X) : Type 0 where
    from : i ≤ j
    held : x ≡ name (get_or l (j - i) d) → Ok j ≡ spot_in i x (map name l)
    free : (x ≡ name (get_or l (j - i) d) → ⊥) → Err j ≡ spot_in i x (map name l)

  from-some : (i j : ℕ) (l : List X) (d : X) → first i l ≡ Some j → Stops i j l d
  unfolding spot_in
  from-some i j [] d e = let z : ◌≡◌ {A = ℕ} 0 1 = cc in absurd (omega arith)
  from-some i j (y ∷ l) d e = go (leb x (name y)) refl e (from-some (i + 1) j l d)
    where
      go : (b : Bool) → leb x (name y) ≡ b → cond b (Some i) (first (i + 1) l) ≡ Some j
          → (first (i + 1) l ≡ Some j → Stops (i + 1) j l d) → Stops i j (y ∷ l) d
      go true q e ih =
          let same : i ≡ j = cc in
          let none : i - i ≡ 0 = omega arith in
          let above : ltb (name y) x ≡ false = le-ltb (name y) x (leb-true x (name y) q) in
          rw (← same) (record {
            from = omega arith;
            held = λ h. sym (rw (above, eq-eqb x (name y) (h ∙ ap (λ (k : ℕ). name (get_or (y ∷ l) k d)) none)));
            free = λ h. sym (rw (above, ne_eqb x (name y) (λ z. h (z ∙ ap (λ (k : ℕ). name (get_or (y ∷ l) k d)) (sym none)))));
          })
      go false q e ih =
          let s = ih e in
          let past : j - i ≡ suc (j - (i + 1)) = omega (arith, s.from) in
          let below : ltb (name y) x ≡ true = lt-ltb (name y) x (leb-false x (name y) q) in
          record {
            from = omega (arith, s.from);
            held = λ h. rw (below, ← add-one i) (s.held (h ∙ ap (λ (k : ℕ). name (get_or (y ∷ l) k d)) past));
            free = λ h. rw (below, ← add-one i) (s.free (λ z. h (z ∙ ap (λ (k : ℕ). name (get_or (y ∷ l) k d)) (sym past))));
          }

  -- the same of `position`
  abbrev place : List X → Option ℕ
  place l = position (λ y. nat_le x (name y)) l

  pub stops-none : (l : List X) → place l ≡ None → Err (length l) ≡ spot_in 0 x (map name l)
  stops-none l e = ap Err (let z : length l ≡ 0 + length l = omega arith in z) ∙ from-none 0 l (sym (position_from-zero (λ y. nat_le x (name y)) l) ∙ e)

  stops : (l : List X) (j : ℕ) (d : X) → place l ≡ Some j → Stops 0 j l d
  stops l j d e = from-some 0 j l d (sym (position_from-zero (λ y. nat_le x (name y)) l) ∙ e)

  pub stops-held : (l : List X) (j : ℕ) (d : X) → place l ≡ Some j → x ≡ name (get_or l j d) → Ok j ≡ spot_in 0 x (map name l)
  stops-held l j d e h = (stops l j d e).held (h ∙ ap (λ (k : ℕ). name (get_or l k d)) (let z : j ≡ j - 0 = omega arith in z))

  pub stops-free : (l : List X) (j : ℕ) (d : X) → place l ≡ Some j → (x ≡ name (get_or l j d) → ⊥) → Err j ≡ spot_in 0 x (map name l)
  stops-free l j d e h = (stops l j d e).free (λ z. h (z ∙ ap (λ (k : ℕ). name (get_or l k d)) (let w : j - 0 ≡ j = omega arith in w)))

-- what follows from a choice by a test follows from each side
pub cond_cases : {A G : Type 0} (b : Bool) {u v w : A} → (u ≡ w → G) → (v ≡ w → G) → cond b u v ≡ w → G
cond_cases true f g e = f e
cond_cases false f g e = g e

-- a place that a search gives is within the list
pub held-within : (i x : ℕ) (l : List Target) (p : ℕ) → spot_from i x l ≡ Ok p → p < i + length l
unfolding spot_from spot_in
held-within i x [] p e = let z : ◌≡◌ {A = ℕ} 0 1 = cc in omega arith
held-within i x (t ∷ ts) p e =
    cond_cases (ltb t.identity x) (λ q. omega (arith, held-within (suc i) x ts p q))
    (cond_cases (eqb x t.identity) (λ q. let z : i ≡ p = cc in omega arith) (λ q. let z : ◌≡◌ {A = ℕ} 0 1 = cc in omega arith))
    e

pub free-within : (i x : ℕ) (l : List Target) (p : ℕ) → spot_from i x l ≡ Err p → p ≤ i + length l
unfolding spot_from spot_in
free-within i x [] p e = let z : i ≡ p = cc in omega arith
free-within i x (t ∷ ts) p e =
    cond_cases (ltb t.identity x) (λ q. omega (arith, free-within (suc i) x ts p q))
    (cond_cases (eqb x t.identity) (λ q. let z : ◌≡◌ {A = ℕ} 0 1 = cc in omega arith) (λ q. let z : i ≡ p = cc in omega arith))
    e

-- a place that a search of the first n gives is below n
pub held_below : (x n : ℕ) (ts : List Target) (p : ℕ) → spot_from 0 x (take n ts) ≡ Ok p → p < n
held_below x n ts p e = omega (arith, held-within 0 x (take n ts) p e, length-take n ts, min-le_left n (length ts))

pub free-below : (x n : ℕ) (ts : List Target) (p : ℕ) → spot_from 0 x (take n ts) ≡ Err p → p ≤ n
free-below x n ts p e = omega (arith, free-within 0 x (take n ts) p e, length-take n ts, min-le_left n (length ts))
