-- The laws of `find` and `place` on targets in rising identity.
use Rattle.std.specs.Prelude.{Option, Some, None}
use Prim.Native.Nat.{ℕ, suc, ◌≤◌, ◌<◌}
use native.Mathlib.Omega.{arith}
use native.Mathlib.Decide.{dec_lt, ℕ_discrete}
use mathlib.Core.Bool.{Bool, true, false, cond}
use mathlib.Core.List.{List, [], ◌∷◌}
use mathlib.Core.Logic.{◌≢◌}
use mathlib.Core.Path.{◌≡◌, refl, sym, ◌∙◌, ap, ap₂}
use lib.ListN.{length}
use lib.Dec.{ltb, eqb}
use borrow.Author.Tests.{lt-ltb, le-ltb, eq-eqb, ne_eqb}
use Rattle.plain.specs.declared.targets.Held.{Held}
use Rattle.plain.specs.declared.targets.Target.{Target}
use Rattle.plain.specs.Targets.{find, ahead, place, bared, bare_held, RisingFrom}

pub data Order (a b : ℕ) : Type 0 where
  less : a < b → Order a b
  same : a ≡ b → Order a b
  more : b < a → Order a b

pub order : (a b : ℕ) → Order a b
order a b = go (dec_lt a b) (ℕ_discrete a b)
  where
    go : Dec (a < b) → Dec (a ≡ b) → Order a b
    go (yes h) d = less h
    go (no n) (yes e) = same e
    go (no n) (no m) = more (omega arith)

-- the cases of `find` and `place`
module _ (i : ℕ) (t : Target) (l : List Target) where
  pub find-same : i ≡ t.identity → find i (t ∷ l) ≡ Some t.held
  unfolding find
  find-same e = simp (le-ltb t.identity i (omega arith), eq-eqb i t.identity e)

  pub find-more : t.identity < i → find i (t ∷ l) ≡ find i l
  unfolding find
  find-more h = simp (lt-ltb t.identity i h)

  pub find-less : i < t.identity → find i (t ∷ l) ≡ None
  unfolding find
  find-less h = simp (le-ltb t.identity i (omega arith), ne_eqb i t.identity (omega arith))

  pub place-less : (x : Option Held) → i < t.identity → place i x (t ∷ l) ≡ ahead i x (t ∷ l)
  unfolding place
  place-less x h = simp (le-ltb t.identity i (omega arith), ne_eqb i t.identity (omega arith))

  pub place_same : (x : Option Held) → i ≡ t.identity → place i x (t ∷ l) ≡ ahead i x l
  unfolding place
  place_same x e = simp (le-ltb t.identity i (omega arith), eq-eqb i t.identity e)

  pub place-more : (x : Option Held) → t.identity < i → place i x (t ∷ l) ≡ t ∷ place i x l
  unfolding place
  place-more x h = simp (lt-ltb t.identity i h)

pub rising_down : (m n : ℕ) (l : List Target) → m ≤ n → RisingFrom n l → RisingFrom m l
rising_down m n [] h r = tt
rising_down m n (t ∷ l) h r = (omega arith, r.1)

pub find-below : (i n : ℕ) (l : List Target) → i < n → RisingFrom n l → find i l ≡ None
unfolding find
find-below i n [] h r = refl
find-below i n (t ∷ l) h r = find-less i t l (omega arith)

pub find-other : (i : ℕ) (t : Target) (l : List Target) → RisingFrom (suc t.identity) l → i ≢ t.identity → find i (t ∷ l) ≡ find i l
find-other i t l r n = go (order i t.identity)
  where
    go : Order i t.identity → find i (t ∷ l) ≡ find i l
    go (less h) = find-less i t l h ∙ sym (find-below i (suc t.identity) l (omega arith) r)
    go (same e) = absurd (n e)
    go (more h) = find-more i t l h

ahead-same : (i : ℕ) (x : Option Held) (l : List Target) → find i l ≡ None → find i (ahead i x l) ≡ x
unfolding ahead
ahead-same i None l e = e
ahead-same i (Some h) l e = find-same i _ l refl

ahead-other : (i j : ℕ) (x : Option Held) (l : List Target) → RisingFrom (suc i) l → j ≢ i → find j (ahead i x l) ≡ find j l
unfolding ahead
ahead-other i j None l r n = refl
ahead-other i j (Some h) l r n = find-other j _ l r n

rising-ahead : (n i : ℕ) (x : Option Held) (l : List Target) → n ≤ i → RisingFrom (suc i) l → RisingFrom n (ahead i x l)
unfolding ahead
rising-ahead n i None l h r = rising_down n (suc i) l (omega arith) r
rising-ahead n i (Some y) l h r = (h, r)

pub rising-place : (n i : ℕ) (x : Option Held) (l : List Target) → n ≤ i → RisingFrom n l → RisingFrom n (place i x l)
unfolding place
rising-place n i x [] h r = rising-ahead n i x [] h tt
rising-place n i x (t ∷ l) h r = go (order i t.identity) (λ g. rising-place (suc t.identity) i x l g r.1)
  where
    go : Order i t.identity → (suc t.identity ≤ i → RisingFrom (suc t.identity) (place i x l)) → RisingFrom n (place i x (t ∷ l))
    go (less g) ih = rw (place-less i t l x g) (rising-ahead n i x (t ∷ l) h (g, r.1))
    go (same e) ih = rw (place_same i t l x e) (rising-ahead n i x l h (rising_down (suc i) (suc t.identity) l (omega arith) r.1))
    go (more g) ih = rw (place-more i t l x g) (r.0, ih g)

pub find-place-same : (n i : ℕ) (x : Option Held) (l : List Target) → RisingFrom n l → find i (place i x l) ≡ x
unfolding place find
find-place-same n i x [] r = ahead-same i x [] refl
find-place-same n i x (t ∷ l) r = go (order i t.identity) (find-place-same (suc t.identity) i x l r.1)
  where
    go : Order i t.identity → find i (place i x l) ≡ x → find i (place i x (t ∷ l)) ≡ x
    go (less h) ih = rw (place-less i t l x h) (ahead-same i x (t ∷ l) (find-less i t l h))
    go (same e) ih = rw (place_same i t l x e) (ahead-same i x l (find-below i (suc t.identity) l (omega arith) r.1))
    go (more h) ih = rw (place-more i t l x h) (find-more i t (place i x l) h ∙ ih)

pub find-place-other : (n i j : ℕ) (x : Option Held) (l : List Target) → n ≤ i → RisingFrom n l → j ≢ i → find j (place i x l) ≡ find j l
unfolding place find
find-place-other n i j x [] g r d = ahead-other i j x [] tt d
find-place-other n i j x (t ∷ l) g r d =
    go (order i t.identity) (ℕ_discrete j t.identity) (λ h. find-place-other (suc t.identity) i j x l h r.1 d)
  where
    go : Order i t.identity → Dec (j ≡ t.identity) → (suc t.identity ≤ i → find j (place i x l) ≡ find j l)
        → find j (place i x (t ∷ l)) ≡ find j (t ∷ l)
    go (less h) e ih = rw (place-less i t l x h) (ahead-other i j x (t ∷ l) (h, r.1) d)
    go (same e) m ih =
        let low : RisingFrom (suc i) l = rising_down (suc i) (suc t.identity) l (omega arith) r.1 in
        rw (place_same i t l x e) (ahead-other i j x l low d ∙ sym (find-other j t l r.1 (omega arith)))
    go (more h) (yes e) ih = rw (place-more i t l x h) (find-same j t (place i x l) e ∙ sym (find-same j t l e))
    go (more h) (no m) ih =
        rw (place-more i t l x h)
        (find-other j t (place i x l) (rising-place (suc t.identity) i x l h r.1) m ∙ ih h ∙ sym (find-other j t l r.1 m))

-- a rising list is what `find` finds in it
pub rising-ext : (m n : ℕ) (k l : List Target) → RisingFrom m k → RisingFrom n l → ((i : ℕ) → find i k ≡ find i l) → k ≡ l
unfolding find
rising-ext m n [] [] r s e = refl
rising-ext m n [] (t ∷ l) r s e =
    let z : ◌≡◌ {A = Option Held} None (Some t.held) = e t.identity ∙ find-same t.identity t l refl in
    cc
rising-ext m n (t ∷ k) [] r s e =
    let z : ◌≡◌ {A = Option Held} (Some t.held) None = sym (find-same t.identity t k refl) ∙ e t.identity in
    cc
rising-ext m n (t ∷ k) (u ∷ l) r s e =
    go (order t.identity u.identity) (rising-ext (suc t.identity) (suc u.identity) k l r.1 s.1)
  where
    head : t.identity ≡ u.identity → t ≡ u
    head p =
        let q : Some t.held ≡ Some u.held =
        sym (find-same t.identity t k refl) ∙ e t.identity ∙ find-same t.identity u l p in
        let w : t.held ≡ u.held = cc in
        λ j. record { identity = p j; held = w j }

    rest : t.identity ≡ u.identity → (i : ℕ) → Dec (i ≡ t.identity) → find i k ≡ find i l
    rest p i (yes q) =
        find-below i (suc t.identity) k (omega arith) r.1 ∙ sym (find-below i (suc u.identity) l (omega arith) s.1)
    rest p i (no q) = sym (find-other i t k r.1 q) ∙ e i ∙ find-other i u l s.1 (omega arith)

    go : Order t.identity u.identity → (((i : ℕ) → find i k ≡ find i l) → k ≡ l) → t ∷ k ≡ u ∷ l
    go (less h) ih =
        let z : ◌≡◌ {A = Option Held} (Some t.held) None =
        sym (find-same t.identity t k refl) ∙ e t.identity ∙ find-less t.identity u l h in
        cc
    go (same p) ih = ap₂ ◌∷◌ (head p) (ih (λ i. rest p i (ℕ_discrete i t.identity)))
    go (more h) ih =
        let z : ◌≡◌ {A = Option Held} None (Some u.held) =
        sym (find-less u.identity t k h) ∙ e u.identity ∙ find-same u.identity u l refl in
        cc

-- what two placings at different identities leave does not depend on their order
pub place-place : (n i j : ℕ) (x y : Option Held) (l : List Target) → i ≢ j → n ≤ i → n ≤ j → RisingFrom n l
    → place i x (place j y l) ≡ place j y (place i x l)
place-place n i j x y l d hi hj r =
    rising-ext n n _ _ (rising-place n i x _ hi (rising-place n j y l hj r)) (rising-place n j y _ hj (rising-place n i x l hi r))
    (λ k. at k (ℕ_discrete k i) (ℕ_discrete k j))
  where
    at : (k : ℕ) → Dec (k ≡ i) → Dec (k ≡ j) → find k (place i x (place j y l)) ≡ find k (place j y (place i x l))
    at k (yes p) e =
        rw p
        (find-place-same n i x (place j y l) (rising-place n j y l hj r)
        ∙ sym (find-place-other n j i y (place i x l) hj (rising-place n i x l hi r) d ∙ find-place-same n i x l r))
    at k (no p) (yes q) =
        rw q
        (find-place-other n i j x (place j y l) hi (rising-place n j y l hj r) (omega arith) ∙ find-place-same n j y l r
        ∙ sym (find-place-same n j y (place i x l) (rising-place n i x l hi r)))
    at k (no p) (no q) =
        find-place-other n i k x (place j y l) hi (rising-place n j y l hj r) p ∙ find-place-other n j k y l hj r q
        ∙ sym (find-place-other n j k y (place i x l) hj (rising-place n i x l hi r) q ∙ find-place-other n i k x l hi r p)

-- to put back what is there changes nothing
pub place-find : (n i : ℕ) (l : List Target) → n ≤ i → RisingFrom n l → place i (find i l) l ≡ l
place-find n i l h r = rising-ext n n _ _ (rising-place n i _ l h r) r (λ k. at k (ℕ_discrete k i))
  where
    at : (k : ℕ) → Dec (k ≡ i) → find k (place i (find i l) l) ≡ find k l
    at k (yes p) = rw p (find-place-same n i (find i l) l r)
    at k (no p) = find-place-other n i k (find i l) l h r p

-- taking the lines away
unfoldable pub bared_in : Option Held → Option Held
bared_in None = None
bared_in (Some h) = Some (bare_held h)

pub find-bared : (i : ℕ) (l : List Target) → find i (bared l) ≡ bared_in (find i l)
unfolding bared bared_in find
find-bared i [] = refl
find-bared i (t ∷ l) = go (ltb t.identity i) (eqb i t.identity) (find-bared i l)
  where
    go : (b c : Bool) → find i (bared l) ≡ bared_in (find i l)
        → cond b (find i (bared l)) (cond c (Some (bare_held t.held)) None) ≡ bared_in (cond b (find i l) (cond c (Some t.held) None))
    go true c ih = ih
    go false true ih = refl
    go false false ih = refl

pub rising-bared : (n : ℕ) (l : List Target) → RisingFrom n l → RisingFrom n (bared l)
unfolding bared
rising-bared n [] r = tt
rising-bared n (t ∷ l) r = (r.0, rising-bared (suc t.identity) l r.1)

pub length-bared : (l : List Target) → length (bared l) ≡ length l
unfolding bared
length-bared [] = refl
length-bared (t ∷ l) = ap suc (length-bared l)

length-ahead : (i : ℕ) (x : Option Held) (l : List Target) → length (ahead i x l) ≤ suc (length l)
unfolding ahead
length-ahead i None l = omega arith
length-ahead i (Some h) l = omega arith

length-ahead-nothing : (i : ℕ) (l : List Target) → length (ahead i None l) ≡ length l
unfolding ahead
length-ahead-nothing i l = refl

-- how long the list is after a placing
pub length-place : (i : ℕ) (x : Option Held) (l : List Target) → length (place i x l) ≤ suc (length l)
unfolding place
length-place i x [] = length-ahead i x []
length-place i x (t ∷ l) = go (order i t.identity) (length-place i x l)
  where
    go : Order i t.identity → length (place i x l) ≤ suc (length l) → length (place i x (t ∷ l)) ≤ suc (suc (length l))
    go (less h) ih = rw (place-less i t l x h) (length-ahead i x (t ∷ l))
    go (same e) ih = rw (place_same i t l x e) (omega (arith, length-ahead i x l))
    go (more h) ih = rw (place-more i t l x h) (omega arith)

pub length-place-nothing : (i : ℕ) (l : List Target) → length (place i None l) ≤ length l
unfolding place
length-place-nothing i [] = omega (arith, length-ahead-nothing i [])
length-place-nothing i (t ∷ l) = go (order i t.identity) (length-place-nothing i l)
  where
    go : Order i t.identity → length (place i None l) ≤ length l → length (place i None (t ∷ l)) ≤ suc (length l)
    go (less h) ih = rw (place-less i t l None h) (omega (arith, length-ahead-nothing i (t ∷ l)))
    go (same e) ih = rw (place_same i t l None e) (omega (arith, length-ahead-nothing i l))
    go (more h) ih = rw (place-more i t l None h) (omega arith)

pub length-place-held : (i : ℕ) (x : Option Held) (h : Held) (l : List Target) → find i l ≡ Some h
    → length (place i x l) ≤ length l
unfolding place find
length-place-held i x h [] e = let z : ◌≡◌ {A = ℕ} 0 1 = cc in omega arith
length-place-held i x h (t ∷ l) e = go (order i t.identity) (length-place-held i x h l)
  where
    go : Order i t.identity → (find i l ≡ Some h → length (place i x l) ≤ length l) → length (place i x (t ∷ l)) ≤ suc (length l)
    go (less g) ih =
        let p : find i (t ∷ l) ≡ None = find-less i t l g in
        let z : ◌≡◌ {A = ℕ} 0 1 = cc in
        omega arith
    go (same p) ih = rw (place_same i t l x p) (length-ahead i x l)
    go (more g) ih = rw (place-more i t l x g) (omega (arith, ih (sym (find-more i t l g) ∙ e)))

-- to take away what is not there changes nothing
pub place-absent : (i : ℕ) (l : List Target) → find i l ≡ None → place i None l ≡ l
unfolding place ahead find
place-absent i [] e = refl
place-absent i (t ∷ l) e = go (order i t.identity) (place-absent i l)
  where
    go : Order i t.identity → (find i l ≡ None → place i None l ≡ l) → place i None (t ∷ l) ≡ t ∷ l
    go (less h) ih = place-less i t l None h
    go (same p) ih = let z : ◌≡◌ {A = Option Held} (Some t.held) None = sym (find-same i t l p) ∙ e in cc
    go (more h) ih = place-more i t l None h ∙ ap (λ (k : List Target). t ∷ k) (ih (sym (find-more i t l h) ∙ e))
