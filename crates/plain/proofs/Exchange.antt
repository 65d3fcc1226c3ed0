-- Neighbours that name different targets may be exchanged, where the list names at most 64 identities.
use Rattle.std.specs.Prelude.{Option, Some, None, Ok, Err}
use Prim.Native.Nat.{ℕ, zero, suc, ◌≤◌, ◌<◌}
use native.Mathlib.Omega.{arith}
use native.Mathlib.Decide.{ℕ_discrete}
use mathlib.Core.Bool.{Bool, true, false, cond}
use mathlib.Core.List.{List, [], ◌∷◌}
use mathlib.Core.Logic.{◌≢◌}
use mathlib.Core.Path.{◌≡◌, refl, sym, ◌∙◌, ap}
use lib.ListN.{length}
use lib.Dec.{eqb}
use borrow.Author.Tests.{lt-ltb, eq-eqb, ne_eqb}
use Rattle.plain.specs.declared.targets.Held.{Held}
use Rattle.plain.specs.declared.targets.Target.{Target}
use Rattle.plain.specs.declared.call.Call.{Call}
use Rattle.plain.specs.declared.call.Call.TheVariants.{Report, Withdraw, OwnShip, Track, Solve}
use Rattle.plain.specs.Targets.{most_targets, find, place, bared, RisingFrom}
use Rattle.plain.specs.Call.{Answer, named}
use Rattle.plain.specs.Questions.{ask, identity_asked, ask_fix, held_asked, room_asked, see, solved}
use Rattle.plain.specs.Board.{Plain, answer, leaves, swept, raised, outcome, after, run}
use Rattle.plain.specs.History.{Heard, heard}
use Rattle.plain.specs.Exchange.{among, with_named, identities, swapped, exchanged, Apart, MaySwap, MayExchange}
use Rattle.plain.proofs.Places.{find-place-other, rising_down, place-place, place-find, bared_in, find-bared}
use Rattle.plain.proofs.Pigeons.{AllIn, pigeons-room}
use Rattle.plain.proofs.Steps.{Fit, fit-after, after-elim, onto, accepted-onto}

-- ---- what a call that names a target reads and writes: that target's place, own ship, track, radius and total

-- the answer of a call for what is held under the identity that it names, where there is room
reply : Plain → Call → Option Held → Answer
reply b (Report i f) x = ask (identity_asked i) (ask_fix f (Ok None))
reply b (Withdraw i) x = ask (identity_asked i) (ask (held_asked x) (Ok None))
reply b (OwnShip f) x = Ok None
reply b (Track s e) x = Ok None
reply b (Solve i) x = ask (identity_asked i) (solved b.radius (see x b.own b.track))

-- what it leaves there
cell : Call → Answer → Option Held → Option Held
cell c (Ok l) x = leaves c (Ok l) x
cell c (Err r) x = x

raised-comm : (x y : Answer) (n : ℕ) → raised x (raised y n) ≡ raised y (raised x n)
raised-comm (Ok (Some l)) (Ok (Some m)) n = omega arith
raised-comm (Ok (Some l)) (Ok None) n = refl
raised-comm (Ok (Some l)) (Err r) n = refl
raised-comm (Ok None) y n = refl
raised-comm (Err r) y n = refl

reply-onto : (b : Plain) (i : ℕ) (x : Option Held) (n : ℕ) (c : Call) (y : Option Held) → reply (onto b i x n) c y ≡ reply b c y
unfolding reply onto
reply-onto b i x n (Report j f) y = refl
reply-onto b i x n (Withdraw j) y = refl
reply-onto b i x n (OwnShip f) y = refl
reply-onto b i x n (Track s e) y = refl
reply-onto b i x n (Solve j) y = refl

outcome-onto : (b : Plain) (c : Call) (i : ℕ) → named c ≡ Some i → RisingFrom 0 b.targets → (a : Answer)
    → outcome b c a ≡ onto b i (cell c a (find i b.targets)) (raised a b.total)
unfolding outcome cell
outcome-onto b c i e r (Ok l) = accepted-onto b c i e (Ok l)
outcome-onto b c i e r (Err n) = unfold onto in rw (place-find 0 i b.targets (omega arith) r)

-- ---- boards whose targets are all members of ids

pub record Sound (ids : List ℕ) (b : Plain) : Type 0 where
  pub fit : Fit b
  pub all_known : AllIn ids b.targets

-- the call names a member of ids, if any
unfoldable pub NamesIn : List ℕ → Call → Type 0
NamesIn ids c = (i : ℕ) → named c ≡ Some i → i ≢ 0 → among i ids ≡ true

-- question 9 is always answered by yes
room : (ids : List ℕ) (b : Plain) (i : ℕ) → length ids ≤ most_targets → Sound ids b → among i ids ≡ true
    → (x : Option Held) → find i b.targets ≡ x → room_asked x (length b.targets) ≡ Ok tt
room ids b i h s m None e =
    let q : length b.targets < length ids = pigeons-room 1 i b.targets ids s.fit.rising s.all_known e m in
    simp (lt-ltb (length b.targets) most_targets (omega arith))
room ids b i h s m (Some x) e = refl

answer-reply : (ids : List ℕ) (b : Plain) (c : Call) (i : ℕ) → length ids ≤ most_targets → Sound ids b → named c ≡ Some i → NamesIn ids c
    → answer b c ≡ reply b c (find i b.targets)
unfolding answer reply NamesIn named
answer-reply ids b (Report j f) i h s e m = go (ℕ_discrete i 0)
  where
    p : j ≡ i
    p = cc

    go : Dec (i ≡ 0) → answer b (Report j f) ≡ reply b (Report j f) (find i b.targets)
    go (yes z) = simp (eq-eqb j 0 (p ∙ z))
    go (no z) = rw (p, room ids b i h s (m i e z) (find i b.targets) refl)
answer-reply ids b (Withdraw j) i h s e m = let p : j ≡ i = cc in rw p
answer-reply ids b (OwnShip f) i h s e m = cc
answer-reply ids b (Track t u) i h s e m = cc
answer-reply ids b (Solve j) i h s e m = let p : j ≡ i = cc in rw p

bared-known : (ids : List ℕ) (l : List Target) → AllIn ids l → AllIn ids (bared l)
unfolding AllIn bared_in
bared-known ids l k i h e = go (find i l) refl
  where
    go : (x : Option Held) → find i l ≡ x → among i ids ≡ true
    go None q = let z : ◌≡◌ {A = Option Held} None (Some h) = sym (find-bared i l ∙ ap bared_in q) ∙ e in cc
    go (Some y) q = k i y q

place-known : (ids : List ℕ) (n i : ℕ) (x : Option Held) (l : List Target) → n ≤ i → RisingFrom n l → among i ids ≡ true → AllIn ids l
    → AllIn ids (place i x l)
unfolding AllIn
place-known ids n i x l g r m k j h e = go (ℕ_discrete j i)
  where
    go : Dec (j ≡ i) → among j ids ≡ true
    go (yes p) = rw p m
    go (no p) = k j h (sym (find-place-other n i j x l g r p) ∙ e)

swept-known : (ids : List ℕ) (c : Call) (l : List Target) → AllIn ids l → AllIn ids (swept c l)
unfolding swept
swept-known ids (Report j f) l k = k
swept-known ids (Withdraw j) l k = k
swept-known ids (OwnShip f) l k = bared-known ids l k
swept-known ids (Track s e) l k = bared-known ids l k
swept-known ids (Solve j) l k = k

sound-after : (ids : List ℕ) (b : Plain) (c : Call) → NamesIn ids c → Sound ids b → Sound ids (after b c)
unfolding NamesIn
sound-after ids b c m s =
    record {
      fit = fit-after b c s.fit;
      all_known =
          after-elim (AllIn ids) b c s.all_known (λ e. swept-known ids c b.targets s.all_known)
          (λ i x e n. place-known ids 1 i x b.targets (omega arith) s.fit.rising (m i e n) s.all_known);
    }

rising-0 : (ids : List ℕ) (b : Plain) → Sound ids b → RisingFrom 0 b.targets
rising-0 ids b s = rising_down 0 1 b.targets (omega arith) s.fit.rising

-- ---- two neighbours

module _ (ids : List ℕ) (fits : length ids ≤ most_targets) where
  step-at : (b : Plain) (c : Call) (i : ℕ) → Sound ids b → named c ≡ Some i → NamesIn ids c
      → after b c
      ≡ onto b i (cell c (reply b c (find i b.targets)) (find i b.targets)) (raised (reply b c (find i b.targets)) b.total)
  unfolding after
  step-at b c i s e m = outcome-onto b c i e (rising-0 ids b s) (answer b c) ∙ rw (answer-reply ids b c i fits s e m)

  -- what a call reads is not changed by a call of another target
  module _
      (b : Plain)
      (c d : Call)
      (i j : ℕ)
      (s : Sound ids b)
      (ec : named c ≡ Some i)
      (ed : named d ≡ Some j)
      (mc : NamesIn ids c)
      (md : NamesIn ids d)
      (apart : i ≢ j)
    where
      find-apart : find j (after b c).targets ≡ find j b.targets
      unfolding onto
      find-apart =
          rw (step-at b c i s ec mc) (find-place-other 0 i j _ b.targets (omega arith) (rising-0 ids b s) (λ e. apart (sym e)))

      reply-apart : (y : Option Held) → reply (after b c) d y ≡ reply b d y
      reply-apart y = rw (step-at b c i s ec mc) (reply-onto b i _ _ d y)

      answer-apart : answer (after b c) d ≡ answer b d
      answer-apart =
          answer-reply ids (after b c) d j fits (sound-after ids b c mc s) ed md
          ∙ rw find-apart (reply-apart (find j b.targets))
          ∙ sym (answer-reply ids b d j fits s ed md)

      after-apart : after (after b c) d
          ≡ onto (after b c) j (cell d (reply b d (find j b.targets)) (find j b.targets))
          (raised (reply b d (find j b.targets)) (after b c).total)
      after-apart =
          step-at (after b c) d j (sound-after ids b c mc s) ed md ∙ rw (find-apart, reply-apart (find j b.targets))

  after-swap : (b : Plain) (c d : Call) → Sound ids b → NamesIn ids c → NamesIn ids d → Apart c d
      → after (after b c) d ≡ after (after b d) c
  unfolding onto
  after-swap b c d s mc md w =
      let i = w.one in
      let j = w.other in
      let ec = w.names_one in
      let ed = w.names_other in
      let there : i ≢ j = w.different in
      let back : j ≢ i = λ z. there (sym z) in
      after-apart b c d i j s ec ed mc md there
      ∙ rw (step-at b c i s ec mc)
      (sym
      (after-apart b d c j i s ed ec md mc back
      ∙ rw (step-at b d j s ed md)
      (rw (
        place-place 0 i j (cell c (reply b c (find i b.targets)) (find i b.targets))
            (cell d (reply b d (find j b.targets)) (find j b.targets)) b.targets there (omega arith) (omega arith) (rising-0 ids b s),
        raised-comm (reply b c (find i b.targets)) (reply b d (find j b.targets)) b.total,
      ))))

  answer-swap : (b : Plain) (c d : Call) → Sound ids b → NamesIn ids c → NamesIn ids d → Apart c d
      → (answer (after b c) d ≡ answer b d) × (answer (after b d) c ≡ answer b c)
  answer-swap b c d s mc md w = (
    answer-apart b c d w.one w.other s w.names_one w.names_other mc md w.different,
    answer-apart b d c w.other w.one s w.names_other w.names_one md mc (λ e. w.different (sym e)),
  )

-- ---- a list

abbrev pub Within : List ℕ → List Call → Type 0
Within ids [] = Unit {0}
Within ids (c ∷ cs) = NamesIn ids c × Within ids cs

within-swapped : (ids : List ℕ) (p : ℕ) (cs : List Call) → Within ids cs → Within ids (swapped p cs)
unfolding swapped
within-swapped ids p [] w = w
within-swapped ids p (c ∷ []) w = w
within-swapped ids zero (c ∷ d ∷ cs) w = (w.1.0, (w.0, w.1.1))
within-swapped ids (suc p) (c ∷ d ∷ cs) w = (w.0, within-swapped ids p (d ∷ cs) w.1)

module _ (ids : List ℕ) (fits : length ids ≤ most_targets) where
  swap-list : (b : Plain) (p : ℕ) (cs : List Call) → Sound ids b → Within ids cs → MaySwap p cs
      → (run b (swapped p cs) ≡ run b cs) × (heard b (swapped p cs) ≡ swapped p (heard b cs))
  unfolding run heard swapped
  swap-list b p [] s w m = absurd m
  swap-list b p (c ∷ []) s w m = absurd m
  swap-list b zero (c ∷ d ∷ cs) s w m =
      let boards : after (after b c) d ≡ after (after b d) c = after-swap ids fits b c d s w.0 w.1.0 m in
      let same = answer-swap ids fits b c d s w.0 w.1.0 m in
      (rw boards, rw (boards, same.0, same.1))
  swap-list b (suc p) (c ∷ d ∷ cs) s w m =
      let below = swap-list (after b c) p (d ∷ cs) (sound-after ids b c w.0 s) w.1 m in
      (below.0, ap (λ (l : List Heard). record { call = c; reply = answer b c } ∷ l) below.1)

  pub exchange-list : (b : Plain) (ps : List ℕ) (cs : List Call) → Sound ids b → Within ids cs → MayExchange ps cs
      → (run b (exchanged ps cs) ≡ run b cs) × (heard b (exchanged ps cs) ≡ exchanged ps (heard b cs))
  unfolding exchanged
  exchange-list b [] cs s w m = (refl, refl)
  exchange-list b (p ∷ ps) cs s w m =
      let first = swap-list b p cs s w m.0 in
      let rest = exchange-list b ps (swapped p cs) s (within-swapped ids p cs w) m.1 in
      (rest.0 ∙ first.0, rest.1 ∙ ap (exchanged ps) first.1)

-- ---- every call of a list names a member of the list's identities

among-with_named : (o : Option ℕ) (i : ℕ) (l : List ℕ) → among i l ≡ true → among i (with_named o l) ≡ true
unfolding with_named among
among-with_named None i l e = e
among-with_named (Some j) i l e = go (eqb j 0) (among j l)
  where
    inner : (q : Bool) → eqb i j ≡ q → among i (j ∷ l) ≡ true
    inner true h = rw h
    inner false h = rw h e

    go : (p q : Bool) → among i (cond p l (cond q l (j ∷ l))) ≡ true
    go true q = e
    go false true = e
    go false false = inner (eqb i j) refl

named-among : (o : Option ℕ) (i : ℕ) (l : List ℕ) → o ≡ Some i → i ≢ 0 → among i (with_named o l) ≡ true
unfolding with_named
named-among None i l e n = cc
named-among (Some j) i l e n = rw (ne_eqb j 0 (omega (arith, p))) (go (among j l) refl)
  where
    p : j ≡ i
    p = cc

    go : (q : Bool) → among j l ≡ q → among i (cond q l (j ∷ l)) ≡ true
    go true h = rw (← p) h
    go false h = unfold among in rw (eq-eqb i j (sym p))

within-with_named : (ids : List ℕ) (o : Option ℕ) (cs : List Call) → Within ids cs → Within (with_named o ids) cs
unfolding NamesIn
within-with_named ids o [] w = tt
within-with_named ids o (c ∷ cs) w = ((λ i e n. among-with_named o i ids (w.0 i e n)), within-with_named ids o cs w.1)

pub within-identities : (cs : List Call) → Within (identities cs) cs
unfolding NamesIn identities
within-identities [] = tt
within-identities (c ∷ cs) =
    ((λ i e n. named-among (named c) i (identities cs) e n), within-with_named (identities cs) (named c) cs (within-identities cs))
