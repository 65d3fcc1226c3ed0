-- The identities of a rising list are among the members of ids: there are no more of them than of ids.
use Rattle.std.specs.Prelude.{Option, Some, None}
use Prim.Native.Nat.{ℕ, suc, ◌≤◌, ◌<◌}
use native.Mathlib.Omega.{arith}
use native.Mathlib.Decide.{ℕ_discrete}
use mathlib.Core.Bool.{true, cond}
use mathlib.Core.List.{List, [], ◌∷◌}
use mathlib.Core.Logic.{◌≢◌}
use mathlib.Core.Path.{◌≡◌, refl, sym, ◌∙◌}
use lib.ListN.{length}
use lib.Dec.{eqb}
use borrow.Author.Tests.{eq-eqb, ne_eqb}
use Rattle.plain.specs.declared.targets.Held.{Held}
use Rattle.plain.specs.declared.targets.Target.{Target}
use Rattle.plain.specs.Targets.{find, RisingFrom}
use Rattle.plain.specs.Exchange.{among}
use Rattle.plain.proofs.Places.{find-same, find-other, find-below}

without : ℕ → List ℕ → List ℕ
without i [] = []
without i (x ∷ l) = cond (eqb i x) l (x ∷ without i l)

among_same : (i x : ℕ) (l : List ℕ) → i ≡ x → among i (x ∷ l) ≡ true
unfolding among
among_same i x l e = simp (eq-eqb i x e)

among-other : (i x : ℕ) (l : List ℕ) → i ≢ x → among i (x ∷ l) ≡ among i l
unfolding among
among-other i x l n = simp (ne_eqb i x n)

without-same : (i x : ℕ) (l : List ℕ) → i ≡ x → without i (x ∷ l) ≡ l
unfolding without
without-same i x l e = simp (eq-eqb i x e)

without_other : (i x : ℕ) (l : List ℕ) → i ≢ x → without i (x ∷ l) ≡ x ∷ without i l
unfolding without
without_other i x l n = simp (ne_eqb i x n)

length_without : (i : ℕ) (l : List ℕ) → among i l ≡ true → suc (length (without i l)) ≤ length l
unfolding among
length_without i [] e = let z : ◌≡◌ {A = ℕ} 0 1 = cc in omega arith
length_without i (x ∷ l) e = go (ℕ_discrete i x) (length_without i l)
  where
    go : Dec (i ≡ x) → (among i l ≡ true → suc (length (without i l)) ≤ length l) → suc (length (without i (x ∷ l))) ≤ suc (length l)
    go (yes p) ih = rw (without-same i x l p) (omega arith)
    go (no p) ih = rw (without_other i x l p) (omega (arith, ih (sym (among-other i x l p) ∙ e)))

among-without : (i j : ℕ) (l : List ℕ) → j ≢ i → among j l ≡ true → among j (without i l) ≡ true
unfolding without among
among-without i j [] n e = e
among-without i j (x ∷ l) n e = go (ℕ_discrete i x) (ℕ_discrete j x) (among-without i j l n)
  where
    go : Dec (i ≡ x) → Dec (j ≡ x) → (among j l ≡ true → among j (without i l) ≡ true) → among j (without i (x ∷ l)) ≡ true
    go (yes p) d ih = rw (without-same i x l p) (sym (among-other j x l (omega arith)) ∙ e)
    go (no p) (yes q) ih = rw (without_other i x l p) (among_same j x (without i l) q)
    go (no p) (no q) ih =
        rw (without_other i x l p) (among-other j x (without i l) q ∙ ih (sym (among-other j x l q) ∙ e))

-- every identity of the list is among ids
unfoldable pub AllIn : List ℕ → List Target → Type 0
AllIn ids l = (i : ℕ) (h : Held) → find i l ≡ Some h → among i ids ≡ true

pub pigeons : (n : ℕ) (l : List Target) (ids : List ℕ) → RisingFrom n l → AllIn ids l → length l ≤ length ids
unfolding AllIn
pigeons n [] ids r a = omega arith
pigeons n (t ∷ l) ids r a =
    omega (
      arith,
      pigeons (suc t.identity) l (without t.identity ids) r.1 rest,
      length_without t.identity ids (a t.identity t.held (find-same t.identity t l refl)),
    )
  where
    rest : AllIn (without t.identity ids) l
    rest i h e = go (ℕ_discrete i t.identity)
      where
        go : Dec (i ≡ t.identity) → among i (without t.identity ids) ≡ true
        go (yes p) =
            let q : find i l ≡ None = find-below i (suc t.identity) l (omega arith) r.1 in
            let z : ◌≡◌ {A = Option Held} (Some h) None = sym e ∙ q in
            cc
        go (no p) = among-without t.identity i ids p (a i h (find-other i t l r.1 p ∙ e))

-- with an identity of ids that the list lacks there is one place more
pub pigeons-room : (n i : ℕ) (l : List Target) (ids : List ℕ) → RisingFrom n l → AllIn ids l → find i l ≡ None → among i ids ≡ true
    → length l < length ids
unfolding AllIn
pigeons-room n i l ids r a f m = omega (arith, pigeons n l (without i ids) r rest, length_without i ids m)
  where
    rest : AllIn (without i ids) l
    rest j h e = among-without i j ids apart (a j h e)
      where
        apart : j ≢ i
        apart p =
            let q : find j l ≡ None = rw p f in
            let z : ◌≡◌ {A = ℕ} 0 1 = cc in
            omega arith
