-- What a search that gives a place says of the list: the identity stands there, or belongs there.
use Rattle.std.specs.Prelude.{Some, None, Result, Ok, Err}
use Prim.Native.Nat.{ℕ, suc, ◌+◌}
use native.Mathlib.Nat.{zero-add}
use native.Mathlib.Omega.{arith}
use mathlib.Core.Path.{◌≡◌, refl, sym, ap, ◌∙◌, subst}
use mathlib.Core.Bool.{Bool, true, false, cond}
use mathlib.Core.List.{List, [], ◌∷◌, ◌++◌}
use lib.Dec.{ltb, eqb}
use lib.ListN.{take, drop, set, get_or}
use borrow.Author.Tests.{eqb-true}
use Rattle.plain.specs.declared.targets.Held.{Held}
use Rattle.plain.specs.declared.targets.Target.{Target}
use Rattle.plain.specs.Targets.{find, ahead, place}
use Rattle.targets.specs.Slots.{spot_in, spot_from}
use Rattle.targets.proofs.Arrays.{absent, insert_at}

-- the identity stands at k of the list
pub record StandsAt (x : ℕ) (l : List Target) (k : ℕ) : Type 0 where
  pub named : (get_or l k absent).identity ≡ x
  pub looked : find x l ≡ Some (get_or l k absent).held
  pub stored : (h : Held) → set l k (record { identity = x; held = h }) ≡ place x (Some h) l
  pub without : take k l ++ drop (suc k) l ≡ place x None l

-- the identity does not stand in the list, and belongs at k
pub record BelongsAt (x : ℕ) (l : List Target) (k : ℕ) : Type 0 where
  pub looked : find x l ≡ None
  pub placed : (h : Held) → insert_at k (record { identity = x; held = h }) l ≡ place x (Some h) l
  pub without : l ≡ place x None l

abbrev pub Says : ℕ → List Target → Result ℕ ℕ → Type 0
Says x l (Ok k) = StandsAt x l k
Says x l (Err k) = BelongsAt x l k

-- the place with no count of what stands before
abbrev next : Result ℕ ℕ → Result ℕ ℕ
next (Ok k) = Ok (suc k)
next (Err k) = Err (suc k)

abbrev spot_of : ℕ → List Target → Result ℕ ℕ
spot_of x [] = Err 0
spot_of x (u ∷ us) = cond (ltb u.identity x) (next (spot_of x us)) (cond (eqb x u.identity) (Ok 0) (Err 0))

abbrev shift : ℕ → Result ℕ ℕ → Result ℕ ℕ
shift i (Ok k) = Ok (i + k)
shift i (Err k) = Err (i + k)

shift-next : (i : ℕ) (f : Result ℕ ℕ) → shift (suc i) f ≡ shift i (next f)
shift-next i (Ok k) = ap Ok (omega arith)
shift-next i (Err k) = ap Err (omega arith)

shift_zero : (f : Result ℕ ℕ) → shift 0 f ≡ f
shift_zero (Ok k) = ap Ok (zero-add k)
shift_zero (Err k) = ap Err (zero-add k)

shift-step : (i : ℕ) (a b : Bool) (f g : Result ℕ ℕ) → f ≡ shift (suc i) g
    → cond a f (cond b (Ok i) (Err i)) ≡ shift i (cond a (next g) (cond b (Ok 0) (Err 0)))
shift-step i true b f g e = e ∙ shift-next i g
shift-step i false true f g e = ap Ok (omega arith)
shift-step i false false f g e = ap Err (omega arith)

shifted : (i x : ℕ) (l : List Target) → spot_from i x l ≡ shift i (spot_of x l)
unfolding spot_from spot_in
shifted i x [] = ap Err (omega arith)
shifted i x (u ∷ us) =
    shift-step i (ltb u.identity x) (eqb x u.identity) (spot_from (suc i) x us) (spot_of x us) (shifted (suc i) x us)

says-step : (x : ℕ) (u : Target) (us : List Target) (a b : Bool) (f : Result ℕ ℕ) → ltb u.identity x ≡ a → eqb x u.identity ≡ b → Says x us f
    → Says x (u ∷ us) (cond a (next f) (cond b (Ok 0) (Err 0)))
unfolding find place ahead
says-step x u us true b (Ok k) ea eb s =
    record {
      named = s.named;
      looked = rw ea s.looked;
      stored = λ h. rw ea (ap (λ (l : List Target). u ∷ l) (s.stored h));
      without = rw ea (ap (λ (l : List Target). u ∷ l) s.without);
    }
says-step x u us true b (Err k) ea eb s =
    record {
      looked = rw ea s.looked;
      placed = λ h. rw ea (ap (λ (l : List Target). u ∷ l) (s.placed h));
      without = rw ea (ap (λ (l : List Target). u ∷ l) s.without);
    }
says-step x u us false true f ea eb s = record { named = sym (eqb-true x u.identity eb); looked = rw (ea, eb); stored = λ h. rw (ea, eb); without = rw (ea, eb) }
says-step x u us false false f ea eb s = record { looked = rw (ea, eb); placed = λ h. rw (ea, eb); without = rw (ea, eb) }

says : (x : ℕ) (l : List Target) → Says x l (spot_of x l)
unfolding find place ahead
says x [] = record { looked = refl; placed = λ h. refl; without = refl }
says x (u ∷ us) = says-step x u us (ltb u.identity x) (eqb x u.identity) (spot_of x us) refl refl (says x us)

-- what a search says of the list
search-says : (x : ℕ) (l : List Target) → Says x l (spot_from 0 x l)
search-says x l = subst (Says x l) (sym (shifted 0 x l ∙ shift_zero (spot_of x l))) (says x l)

pub stands_at : (x : ℕ) (l : List Target) (k : ℕ) → spot_from 0 x l ≡ Ok k → StandsAt x l k
stands_at x l k e = subst (Says x l) e (search-says x l)

pub belongs-at : (x : ℕ) (l : List Target) (k : ℕ) → spot_from 0 x l ≡ Err k → BelongsAt x l k
belongs-at x l k e = subst (Says x l) e (search-says x l)
