-- Lists made by exchanging neighbours that name different targets. Definitions only.
use Rattle.std.specs.Prelude.{ℕ, zero, suc, Bool, true, false, cond, List, [], ◌∷◌, ◌≢◌, ◌≡◌, eqb, Option, Some, None}
use Rattle.plain.specs.declared.call.Call.{Call}
use Rattle.plain.specs.Call.{named}

-- ---- the identities that a list names

unfoldable pub among : ℕ → List ℕ → Bool
among i [] = false
among i (x ∷ l) = cond (eqb i x) true (among i l)

unfoldable pub with_named : Option ℕ → List ℕ → List ℕ
with_named None l = l
with_named (Some i) l = cond (eqb i 0) l (cond (among i l) l (i ∷ l))

-- the identities that the calls name, each once. 0 is no identity (number 3) and is not counted
unfoldable pub identities : List Call → List ℕ
identities [] = []
identities (c ∷ cs) = with_named (named c) (identities cs)

-- ---- exchanges

-- the list with the neighbours at places p and p + 1 exchanged
unfoldable pub swapped {ℓ} : {A : Type ℓ} → ℕ → List A → List A
swapped p [] = []
swapped p (x ∷ []) = x ∷ []
swapped zero (x ∷ y ∷ l) = y ∷ x ∷ l
swapped (suc p) (x ∷ y ∷ l) = x ∷ swapped p (y ∷ l)

-- "however many times": the list after one exchange for each place of ps, one after the other
unfoldable pub exchanged {ℓ} : {A : Type ℓ} → List ℕ → List A → List A
exchanged [] l = l
exchanged (p ∷ ps) l = exchanged ps (swapped p l)

-- two calls that name different targets
pub record Apart (c d : Call) : Type 0 where
  pub one : ℕ
  pub other : ℕ
  pub names_one : named c ≡ Some one
  pub names_other : named d ≡ Some other
  pub different : one ≢ other

-- the neighbours at places p and p + 1 are there, and name different targets
abbrev pub MaySwap : ℕ → List Call → Type 0
MaySwap p [] = ⊥
MaySwap p (c ∷ []) = ⊥
MaySwap zero (c ∷ d ∷ cs) = Apart c d
MaySwap (suc p) (c ∷ d ∷ cs) = MaySwap p (d ∷ cs)

-- each of those exchanges is of neighbours that name different targets
abbrev pub MayExchange : List ℕ → List Call → Type 0
MayExchange [] cs = Unit {0}
MayExchange (p ∷ ps) cs = MaySwap p cs × MayExchange ps (swapped p cs)
