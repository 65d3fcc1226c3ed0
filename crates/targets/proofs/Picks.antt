-- The least of the meeting times, one target after the other, the earlier kept among equals, is the pick.
use Rattle.std.specs.Prelude.{fold, Option, Some, None, Ok, Err, MatchOption, IsSomeAnd}
use Rattle.std.specs.Option.{ok_or}
use denote.Param.Members.{Mut, Called}
use Rattle.std.specs.Iterator.{Drains, FoldTurn, ReducesItems}
use Rattle.std.specs.Iterator.Runs.{Run, EachRunFrom}
use Rattle.std.specs.List.{FoldsTo, reduce, filter_map}
use Prim.Native.Nat.{ℕ, ◌<◌, min}
use native.Mathlib.Omega.{arith}
use native.Mathlib.Nat.{min-eq_left, min-eq_right}
use mathlib.Core.Bool.{Bool, true, false, cond}
use mathlib.Core.List.{List, [], ◌∷◌}
use mathlib.Core.Path.{◌≡◌, refl, sym, ◌∙◌, ap, subst}
use lib.Dec.{ltb}
use borrow.Author.Tests.{ltb-true, ltb-false, lt-ltb, le-ltb, eq-eqb, ne_eqb}
use Rattle.plain.specs.declared.targets.Target.{Target}
use Rattle.plain.specs.declared.call.Refusal.TheVariants.{NoMeeting}
use Rattle.targets.specs.declared.asking.Best.{Best}
use Rattle.plain.specs.Asking.{meeting_time, least_time, first_at, pick_at, pick_of}
use Rattle.targets.specs.Asking.{sooner, better_by, better, met_at, met, sooner_of}

-- the better of two, the first where their times are equal
join : Option Best → Option Best → Option Best
join None c = c
join (Some a) None = Some a
join (Some a) (Some b) = sooner (Some a) b.identity b.time

-- of a list, from its end
best : List Target → Option Best
best [] = None
best (t ∷ l) = join (met_at t.identity (meeting_time t)) (best l)

-- ---- one after the other from the front is the same as from the end

module _ (a b c : Best) where
  join-both : (p q : Bool) → ltb b.time a.time ≡ p → ltb c.time b.time ≡ q → join (join (Some a) (Some b)) (Some c) ≡ join (Some a) (join (Some b) (Some c))
  unfolding join
  join-both true true e f = simp (e, f, lt-ltb c.time a.time (omega (arith, ltb-true b.time a.time e, ltb-true c.time b.time f)))
  join-both true false e f = simp (e, f)
  join-both false true e f = simp (e, f)
  join-both false false e f = simp (e, f, le-ltb c.time a.time (omega (arith, ltb-false b.time a.time e, ltb-false c.time b.time f)))

join-none : (b : Option Best) → join b None ≡ b
unfolding join
join-none None = refl
join-none (Some a) = refl

join-assoc : (a b c : Option Best) → join (join a b) c ≡ join a (join b c)
unfolding join
join-assoc None b c = refl
join-assoc (Some a) None c = refl
join-assoc (Some a) (Some b) None = join-none (cond (ltb b.time a.time) (Some b) (Some a))
join-assoc (Some a) (Some b) (Some c) = join-both a b c (ltb b.time a.time) (ltb c.time b.time) refl refl

better-join : (b : Option Best) (i : ℕ) (o : Option ℕ) → better_by b i o ≡ join b (met_at i o)
unfolding join
better-join b i None = sym (join-none b)
better-join None i (Some s) = refl
better-join (Some a) i (Some s) = refl

fold-best : (b : Option Best) (l : List Target) → fold better b l ≡ join b (best l)
unfolding best
fold-best b [] = sym (join-none b)
fold-best b (t ∷ l) =
    fold-best (better b t) l ∙ ap (λ (c : Option Best). join c (best l)) (better-join b t.identity (meeting_time t))
    ∙ join-assoc b (met_at t.identity (meeting_time t)) (best l)

-- ---- the best of a list is its pick

-- b has the least time of l, and the first target that has it
abbrev Tells : List Target → Option Best → Type 0
Tells l None = least_time l ≡ None
Tells l (Some b) = (least_time l ≡ Some b.time) × (first_at b.time l ≡ Ok b.identity)

module _ (t : Target) (l : List Target) where
  -- a head without a time
  head-unmet : meeting_time t ≡ None → (b : Option Best) → Tells l b → Tells (t ∷ l) b
  unfolding least_time first_at
  head-unmet e None h = rw e h
  head-unmet e (Some b) h = (rw e h.0, rw e h.1)

  -- a head with the time s
  head-met : (s : ℕ) → meeting_time t ≡ Some s → (b : Option Best) → Tells l b → Tells (t ∷ l) (join (Some (record { identity = t.identity; time = s })) b)
  unfolding least_time first_at join
  head-met s e None h = (rw (e, h), rw (e, eq-eqb s s refl))
  head-met s e (Some b) h = go (ltb b.time s) refl
    where
      least : least_time (t ∷ l) ≡ Some (min s b.time)
      least = rw (e, h.0)

      go : (c : Bool) → ltb b.time s ≡ c → Tells (t ∷ l) (cond c (Some b) (Some (record { identity = t.identity; time = s })))
      go true q =
          let k : b.time < s = ltb-true b.time s q in
          (least ∙ ap Some (min-eq_right (omega arith)), rw (e, ne_eqb b.time s (λ z. let w : b.time ≡ s = z in omega arith)) h.1)
      go false q = (least ∙ ap Some (min-eq_left (omega (arith, ltb-false b.time s q))), rw (e, eq-eqb s s refl))

tells-head : (t : Target) (l : List Target) (o : Option ℕ) → meeting_time t ≡ o → Tells l (best l) → Tells (t ∷ l) (join (met_at t.identity o) (best l))
unfolding join
tells-head t l None e h = head-unmet t l e (best l) h
tells-head t l (Some s) e h = head-met t l s e (best l) h

tells : (l : List Target) → Tells l (best l)
unfolding best least_time
tells [] = refl
tells (t ∷ l) = tells-head t l (meeting_time t) refl (tells l)

-- what the loop leaves tells of the list
loop-tells : (l : List Target) (b : Option Best) → fold better None l ≡ b → Tells l b
unfolding join
loop-tells l b e = subst (Tells l) (sym (fold-best None l) ∙ e) (tells l)

picked_none : (l : List Target) → fold better None l ≡ None → Err NoMeeting ≡ pick_of l
unfolding pick_of
picked_none l e = sym (ap (λ (o : Option ℕ). pick_at o l) (loop-tells l None e))

picked-one : (l : List Target) (b : Best) → fold better None l ≡ Some b → Ok b.identity ≡ pick_of l
unfolding pick_of
picked-one l b e =
    let h = loop-tells l (Some b) e in
    sym (ap (λ (o : Option ℕ). pick_at o l) h.0 ∙ h.1)

-- the identity of the best, or the refusal where there is none, is the pick
pub picked : (l : List Target) (b : Option Best) (o : Option ℕ) → b ≡ fold better None l → MatchOption b (o ≡ None) (λ x. IsSomeAnd o (λ i. i ≡ x.identity))
    → ok_or o NoMeeting ≡ pick_of l
picked l None o e m = rw m (picked_none l (sym e))
picked l (Some b) None e m = elim m [ ]
picked l (Some b) (Some i) e m = rw m (picked-one l b (sym e))

-- ---- the one of those with a time that meets first

held-best : (b : Best) (l : List Target) → Some (fold sooner_of b (filter_map met l)) ≡ fold better (Some b) l
held-best b [] = refl
held-best b (t ∷ l) = go (meeting_time t) refl (λ a. held-best a l)
  where
    lesser : (s : ℕ) (c : Bool) → ((a : Best) → Some (fold sooner_of a (filter_map met l)) ≡ fold better (Some a) l)
        → Some (fold sooner_of (cond c (record { identity = t.identity; time = s }) b) (filter_map met l))
        ≡ fold better (cond c (Some (record { identity = t.identity; time = s })) (Some b)) l
    lesser s true h = h (record { identity = t.identity; time = s })
    lesser s false h = h b

    go : (o : Option ℕ) → meeting_time t ≡ o → ((a : Best) → Some (fold sooner_of a (filter_map met l)) ≡ fold better (Some a) l)
        → Some (fold sooner_of b (filter_map met (t ∷ l))) ≡ fold better (Some b) (t ∷ l)
    go None e h = rw e (h b)
    go (Some s) e h = rw e (lesser s (ltb s b.time) h)

pub first-best : (l : List Target) → reduce sooner_of (filter_map met l) ≡ fold better None l
first-best [] = refl
first-best (t ∷ l) = go (meeting_time t) refl (first-best l)
  where
    go : (o : Option ℕ) → meeting_time t ≡ o → reduce sooner_of (filter_map met l) ≡ fold better None l
        → reduce sooner_of (filter_map met (t ∷ l)) ≡ fold better None (t ∷ l)
    go None e h = rw e h
    go (Some s) e h = rw e (held-best (record { identity = t.identity; time = s }) l)

-- ---- what a call at each turn makes of the items that an iterator gives, by what the call does

-- the steps of an iterator, by what is said of its runs
abbrev pub steps-of : {S A : Type 0} {steps : S → Option A → S → Type 0} {s : S} {P : Run steps → Type 0} → EachRunFrom steps s P → S → Option A → S → Type 0
steps-of {steps = steps} e = steps

module _ {A F : Type 0} (g : Mut F (A × (A × Unit {0})) A) (h : A → A → A) (f : F) (k : (a x r : A) (q : F) → Called g f (a, (x, tt)) r q → (q ≡ f) × (r ≡ h a x)) where
  turns : (xs : List A) (p q : F × A) → p.0 ≡ f → FoldsTo {P = F × A} (FoldTurn g) p xs q → FoldsTo (λ a x c. c ≡ h a x) p.1 xs q.1
  turns [] p q e c = ap (λ w. w.1) c
  turns (x ∷ xs) p q e c = let m = k p.1 x c.0.1 c.0.0 (subst (λ w. Called g w (p.1, (x, tt)) c.0.1 c.0.0) e c.1) in (c.0.1, m.1, turns xs c.0 q m.0 c.2)

  -- from the clause `ran` of `reduce`
  pub by-turns : {S : Type 0} (steps : S → Option A → S → Type 0) (s : S) (r : Option A) → ReducesItems steps g s f r
      → MatchOption r (Drains steps s []) (λ y. (x : A) × (xs : List A) × Drains steps s (x ∷ xs) × FoldsTo (λ a x c. c ≡ h a x) x xs y)
  by-turns steps s None d = d
  by-turns steps s (Some y) (x, xs, q, d, t) = (x, xs, d, turns xs (f, x) (q, y) refl t)
