-- The targets that stand in the array, after a store, an insertion, a removal and a clearing of it.
use Rattle.std.specs.Prelude.{Some, None, Result, Ok, Err}
use Prim.Native.Nat.{ℕ, zero, suc, ◌+◌, ◌-◌, ◌≤◌, ◌<◌}
use native.Mathlib.Nat.{zero-add, suc-add}
use native.Mathlib.Numerals.{add-one}
use native.Mathlib.Omega.{arith}
use mathlib.Core.Path.{◌≡◌, refl, sym, ap, ◌∙◌}
use mathlib.Core.Bool.{Bool, true, false}
use mathlib.Core.List.{List, [], ◌∷◌, ◌++◌, map}
use lib.Dec.{ltb}
use lib.ListN.{length, take, drop, set, get_or, length-append, length-drop, length-set}
use lib.Seq.{take-take, take-append-add, take-append-le, length-take-le, take-nil, take-set-lt, get_or-take, take_all}
use borrow.Author.Tests.{ltb-true, ltb-false}
use Rattle.plain.specs.declared.targets.Held.{Held}
use Rattle.plain.specs.declared.targets.Target.{Target}
use Rattle.plain.specs.declared.targets.Targets.{Targets}
use Rattle.plain.specs.Targets.{most_targets, find, place, bare_target, bared, at_most, listed}
use Rattle.targets.specs.Slots.{spot_from}
use Rattle.plain.proofs.Listed.{at-most-same, at-most-le, listed_le}
use Rattle.targets.proofs.Arrays.{absent, insert_at, remove_at, held_below, free-below}
use Rattle.targets.proofs.Spots.{stands_at, belongs-at}
use Rattle.plain.proofs.Places.{length-place-nothing, length-bared, place-absent}

module _ {A : Type 0} where
  drop-take : (p m : ℕ) (l : List A) → drop p (take (p + m) l) ≡ take m (drop p l)
  drop-take zero m l = rw zero-add
  drop-take (suc p) m [] = rw suc-add (sym (take-nil m))
  drop-take (suc p) m (x ∷ l) = rw suc-add (drop-take p m l)

  drop-take-at : (p n : ℕ) (l : List A) → p ≤ n → drop p (take n l) ≡ take (n - p) (drop p l)
  drop-take-at p n l h =
      let e : p + (n - p) ≡ n = omega arith in
      rw e at (drop-take p (n - p) l)

  module _ (ts : List A) (n p : ℕ) (full : length ts ≡ most_targets) (small : n ≤ most_targets) where
    first-inserted : (t : A) → p ≤ n → n < most_targets → take (n + 1) (take most_targets (insert_at p t ts)) ≡ insert_at p t (take n ts)
    first-inserted t within room =
        let k : length (take p ts) + suc (n - p) ≡ n + 1 = rw (length-take-le p ts (omega arith)) (omega arith) in
        take-take (n + 1) most_targets (insert_at p t ts) (omega arith)
        ∙ (rw k at (take-append-add (take p ts) (t ∷ drop p ts) (suc (n - p))))
        ∙ rw (take-take p n ts within, drop-take-at p n ts within)

    first-removed : p < n → take (n - 1) (take most_targets (remove_at p ts ++ drop (most_targets - 1) ts)) ≡ remove_at p (take n ts)
    first-removed within =
        let k : length (take p ts) + (n - 1 - p) ≡ n - 1 = rw (length-take-le p ts (omega arith)) (omega arith) in
        let j : n - (p + 1) ≡ n - 1 - p = omega arith in
        let r : n - 1 ≤ length (remove_at p ts) = rw (length-append, length-drop, length-take-le p ts (omega arith)) (omega arith) in
        take-take (n - 1) most_targets (remove_at p ts ++ drop (most_targets - 1) ts) (omega arith)
        ∙ take-append-le (n - 1) (remove_at p ts) (drop (most_targets - 1) ts) r
        ∙ (rw k at (take-append-add (take p ts) (drop (p + 1) ts) (n - 1 - p)))
        ∙ rw (take-take p n ts (omega arith), drop-take-at (p + 1) n ts (omega arith), j)

-- the list of an array with n entries in force
module _ (ts : List Target) (n : ℕ) (full : length ts ≡ most_targets) (small : n ≤ most_targets) (x : ℕ) where
  length_taken : length (take n ts) ≡ n
  length_taken = length-take-le n ts (omega arith)

  pub found_at : (p : ℕ) → spot_from 0 x (take n ts) ≡ Ok p → find x (take n ts) ≡ Some (get_or ts p absent).held
  found_at p e = (stands_at x (take n ts) p e).looked ∙ ap (λ (t : Target). Some t.held) (get_or-take n ts p absent (held_below x n ts p e))

  pub stored_at : (p : ℕ) (h : Held) → spot_from 0 x (take n ts) ≡ Ok p
      → take (at_most n) (set ts p (record { identity = x; held = h })) ≡ take most_targets (place x (Some h) (take n ts))
  stored_at p h e =
      let s = (stands_at x (take n ts) p e).stored h in
      rw (at-most-same n small, ← s)
      (take-set-lt n ts p (record { identity = x; held = h }) (held_below x n ts p e)
      ∙ sym (take_all most_targets (set (take n ts) p (record { identity = x; held = h })) (rw length-set (omega (arith, length_taken)))))

  -- where there is room
  inserted_by : (p : ℕ) (h : Held) → spot_from 0 x (take n ts) ≡ Err p → n < most_targets
      → take (at_most (n + 1)) (take most_targets (insert_at p (record { identity = x; held = h }) ts)) ≡ take most_targets (place x (Some h) (take n ts))
  inserted_by p h e room =
      let s = (belongs-at x (take n ts) p e).placed h in
      let low : p ≤ n = free-below x n ts p e in
      let l : length (insert_at p (record { identity = x; held = h }) (take n ts)) ≤ most_targets =
      rw (length-append, length-take-le p (take n ts) (omega (arith, length_taken)), length-drop, length_taken) (omega arith) in
      rw (at-most-same (n + 1) (omega arith), ← s)
      (first-inserted ts n p full small (record { identity = x; held = h }) low room
      ∙ sym (take_all most_targets (insert_at p (record { identity = x; held = h }) (take n ts)) l))

  -- where there is none, the list is the whole array
  inserted-full : (p : ℕ) (h : Held) → spot_from 0 x (take n ts) ≡ Err p → n ≡ most_targets
      → take (at_most (n + 1)) (take most_targets (insert_at p (record { identity = x; held = h }) ts)) ≡ take most_targets (place x (Some h) (take n ts))
  inserted-full p h e f =
      let s = (belongs-at x (take n ts) p e).placed h in
      let a : take n ts ≡ ts = take_all n ts (omega arith) in
      rw (← s, a, f) (take-take most_targets most_targets (insert_at p (record { identity = x; held = h }) ts) (omega arith))

  pub inserted-at : (p : ℕ) (h : Held) → spot_from 0 x (take n ts) ≡ Err p
      → take (at_most (n + 1)) (take most_targets (insert_at p (record { identity = x; held = h }) ts)) ≡ take most_targets (place x (Some h) (take n ts))
  inserted-at p h e = go (ltb n most_targets) refl
    where
      go : (t : Bool) → ltb n most_targets ≡ t
          → take (at_most (n + 1)) (take most_targets (insert_at p (record { identity = x; held = h }) ts)) ≡ take most_targets (place x (Some h) (take n ts))
      go true q = inserted_by p h e (omega (arith, ltb-true n most_targets q))
      go false q = inserted-full p h e (omega (arith, ltb-false n most_targets q))

  pub removed-at : (p : ℕ) → spot_from 0 x (take n ts) ≡ Ok p
      → take (at_most (n - 1)) (take most_targets (remove_at p ts ++ drop (most_targets - 1) ts)) ≡ place x None (take n ts)
  removed-at p e =
      let s = (stands_at x (take n ts) p e).without in
      rw (at-most-same (n - 1) (omega arith), ← s, ← add-one p) (first-removed ts n p full small (held_below x n ts p e))

  pub removed-none : (p : ℕ) → spot_from 0 x (take n ts) ≡ Err p → take n ts ≡ place x None (take n ts)
  removed-none p e = (belongs-at x (take n ts) p e).without

pub listed-is : (ts : Targets) (n : ℕ) → n ≡ at_most ts.count → take n ts.entries ≡ listed ts
unfolding listed
listed-is ts n e = rw e

-- of the targets themselves: n stand, and s is what a search of them gives
module _ (ts : Targets) (x n : ℕ) (full : length ts.entries ≡ most_targets) (e : n ≡ at_most ts.count) (s : Result ℕ ℕ) (q : s ≡ spot_from 0 x (take n ts.entries)) where
  small : n ≤ most_targets
  small = rw e (at-most-le ts.count)

  list : take n ts.entries ≡ listed ts
  list = listed-is ts n e

  pub place-below : (p : ℕ) → s ≡ Ok p → p < n
  place-below p h = held_below x n ts.entries p (sym q ∙ h)

  pub found_is : (p : ℕ) → s ≡ Ok p → Some (get_or ts.entries p absent).held ≡ find x (listed ts)
  found_is p h = sym (found_at ts.entries n full small x p (sym q ∙ h)) ∙ ap (find x) list

  pub stored_is : (p : ℕ) (h : Held) → s ≡ Ok p
      → listed (record { entries = set ts.entries p (record { identity = x; held = h }); count = n }) ≡ take most_targets (place x (Some h) (listed ts))
  unfolding listed
  stored_is p h k =
      stored_at ts.entries n full small x p h (sym q ∙ k) ∙ ap (λ (l : List Target). take most_targets (place x (Some h) l)) list

  pub inserted-is : (p : ℕ) (h : Held) → s ≡ Err p
      → listed (record { entries = take most_targets (insert_at p (record { identity = x; held = h }) ts.entries); count = n + 1 })
      ≡ take most_targets (place x (Some h) (listed ts))
  unfolding listed
  inserted-is p h k =
      inserted-at ts.entries n full small x p h (sym q ∙ k) ∙ ap (λ (l : List Target). take most_targets (place x (Some h) l)) list

  pub removed-is : (p : ℕ) → s ≡ Ok p
      → listed (record { entries = take most_targets (remove_at p ts.entries ++ drop (most_targets - 1) ts.entries); count = n - 1 }) ≡ place x None (listed ts)
  unfolding listed
  removed-is p k = removed-at ts.entries n full small x p (sym q ∙ k) ∙ ap (place x None) list

  pub removed-not : (p : ℕ) → s ≡ Err p → listed ts ≡ place x None (listed ts)
  removed-not p k = sym list ∙ removed-none ts.entries n full small x p (sym q ∙ k) ∙ ap (place x None) list

pub take-bared : (n : ℕ) (l : List Target) → take n (map bare_target l) ≡ bared (take n l)
unfolding bared
take-bared zero l = refl
take-bared (suc n) [] = refl
take-bared (suc n) (t ∷ l) = ap (λ (k : List Target). bare_target t ∷ k) (take-bared n l)

pub counted_is : (ts : List Target) (n : ℕ) → length ts ≡ most_targets → at_most n ≡ length (take (at_most n) ts)
counted_is ts n full = sym (length-take-le (at_most n) ts (omega (arith, at-most-le n)))

-- what is placed without growth fits the array
pub removed-fits : (i : ℕ) (ts : Targets) → place i None (listed ts) ≡ take most_targets (place i None (listed ts))
removed-fits i ts = sym (take_all most_targets (place i None (listed ts)) (omega (arith, length-place-nothing i (listed ts), listed_le ts)))

pub bared-fits : (ts : Targets) → bared (listed ts) ≡ take most_targets (bared (listed ts))
bared-fits ts = sym (take_all most_targets (bared (listed ts)) (omega (arith, length-bared (listed ts), listed_le ts)))

pub absent-fits : (i : ℕ) (ts : Targets) → find i (listed ts) ≡ None → listed ts ≡ take most_targets (place i None (listed ts))
absent-fits i ts e = sym (place-absent i (listed ts) e) ∙ removed-fits i ts
