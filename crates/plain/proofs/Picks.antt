-- A pick is the lowest identity of the least found time, both ways.
use Rattle.std.specs.Prelude.{Option, Some, None, Ok, Err, Result}
use Prim.Native.Nat.{ℕ, suc, ◌≤◌, min}
use native.Mathlib.Omega.{arith}
use native.Mathlib.Nat.{min-le_left, min-le_right, min-eq_left, min-eq_right}
use mathlib.Core.Bool.{Bool, true, false}
use mathlib.Core.List.Memᴰ
use mathlib.Core.List.{List, [], ◌∷◌, Memᴰ}
use mathlib.Core.Logic.{◌≢◌, ◌⊎◌, inl, inr}
use mathlib.Core.Path.{◌≡◌, refl, sym, ◌∙◌, ap}
use lib.Dec.{leb}
use borrow.Author.Tests.{eqb-true, eqb-false, leb-true, leb-false}
use Rattle.walks.specs.declared.Outcome.{Outcome}
use Rattle.walks.specs.declared.Outcome.TheVariants.{Found, ZeroDerivative, NotConverged, Negative, TooLong}
use Rattle.walks.specs.Outcome.{number_of, nanoseconds_of}
use Rattle.plain.specs.declared.targets.Target.{Target}
use Rattle.plain.specs.declared.call.Refusal.{Refusal}
use Rattle.plain.specs.declared.call.Refusal.TheVariants.{NoMeeting}
use Rattle.plain.specs.Targets.{RisingFrom}
use Rattle.plain.specs.Asking.{found_time, meeting_time, lesser, least_time, is_time, first_at, pick_at, pick_of, LowestOfLeast, NoneMeets, PickIs}

either : {A B G : Type 0} → A ⊎ B → (A → G) → (B → G) → G
either (inl a) f g = f a
either (inr b) f g = g b

-- ---- options and choices told apart

none-some : {r : ℕ} → ◌≡◌ {A = Option ℕ} None (Some r) → ⊥
none-some e = let z : ◌≡◌ {A = ℕ} 0 1 = cc in omega arith

same_some : {s r : ℕ} → ◌≡◌ {A = Option ℕ} (Some s) (Some r) → s ≡ r
same_some e = cc

target-refused : {i : ℕ} {r : Refusal} → Ok i ≡ Err r → ⊥
target-refused e = let z : ◌≡◌ {A = ℕ} 0 1 = cc in omega arith

same_target : {i j : ℕ} → ◌≡◌ {A = Result ℕ Refusal} (Ok i) (Ok j) → i ≡ j
same_target e = cc

-- ---- a time counts where its number is 00, and no other does

pub found-its-time : (o : Outcome) → number_of o ≡ 0 → found_time o ≡ Some (nanoseconds_of o)
found-its-time (Found ns count) e = refl
found-its-time (ZeroDerivative count) e = absurd (omega (arith, e))
found-its-time NotConverged e = absurd (omega (arith, e))
found-its-time (Negative count) e = absurd (omega (arith, e))
found-its-time (TooLong count) e = absurd (omega (arith, e))

pub refused-no-time : (o : Outcome) → number_of o ≢ 0 → found_time o ≡ None
refused-no-time (Found ns count) h = absurd (h refl)
refused-no-time (ZeroDerivative count) h = refl
refused-no-time NotConverged h = refl
refused-no-time (Negative count) h = refl
refused-no-time (TooLong count) h = refl

-- ---- the least time is at most each, and one target has it

-- a least time that is at most s
record AtMost (o : Option ℕ) (s : ℕ) : Type 0 where
  time : ℕ
  is : o ≡ Some time
  le : time ≤ s

lesser-left : (o p : Option ℕ) {s : ℕ} → o ≡ Some s → AtMost (lesser o p) s
lesser-left None p e = absurd (none-some e)
lesser-left (Some a) None {s} e = record { time = a; is = refl; le = omega (arith, same_some e) }
lesser-left (Some a) (Some b) {s} e = record { time = min a b; is = refl; le = omega (arith, same_some e, min-le_left a b) }

lesser-right : (o p : Option ℕ) {s : ℕ} → AtMost p s → AtMost (lesser o p) s
lesser-right None p w = w
lesser-right (Some a) None w = absurd (none-some w.is)
lesser-right (Some a) (Some b) w = record { time = min a b; is = refl; le = omega (arith, same_some w.is, w.le, min-le_right a b) }

found-least : (l : List Target) (u : Target) {s : ℕ} → Memᴰ u l → meeting_time u ≡ Some s → AtMost (least_time l) s
unfolding least_time
found-least [] u m e = absurd (Memᴰ.not-nil m)
found-least (t ∷ l) u m e =
    either (Memᴰ.cases_cons m) (λ p. lesser-left (meeting_time t) (least_time l) (ap meeting_time (sym p) ∙ e))
    (λ p. lesser-right (meeting_time t) (least_time l) (found-least l u p e))

-- a target of the list that has this time
record Meets (l : List Target) (s : ℕ) : Type 0 where
  target : Target
  stands : Memᴰ target l
  meets : meeting_time target ≡ Some s

min-one : (a b : ℕ) → (min a b ≡ a) ⊎ (min a b ≡ b)
min-one a b = go (leb a b) refl
  where
    go : (t : Bool) → leb a b ≡ t → (min a b ≡ a) ⊎ (min a b ≡ b)
    go true h = inl (min-eq_left (leb-true a b h))
    go false h = inr (min-eq_right (omega (arith, leb-false a b h)))

abbrev met_later : (t : Target) {l : List Target} {s : ℕ} → Meets l s → Meets (t ∷ l) s
met_later t w = record { target = w.target; stands = Memᴰ.tail w.stands; meets = w.meets }

lesser-one : (o p : Option ℕ) {s : ℕ} → lesser o p ≡ Some s → (o ≡ Some s) ⊎ (p ≡ Some s)
lesser-one None p e = inr e
lesser-one (Some a) None e = inl e
lesser-one (Some a) (Some b) e = either (min-one a b) (λ q. inl (ap Some (sym q) ∙ e)) (λ q. inr (ap Some (sym q) ∙ e))

least-met : (l : List Target) {s : ℕ} → least_time l ≡ Some s → Meets l s
unfolding least_time
least-met [] e = absurd (none-some e)
least-met (t ∷ l) e =
    either (lesser-one (meeting_time t) (least_time l) e) (λ q. record { target = t; stands = Memᴰ.head refl; meets = q })
    (λ q. met_later t (least-met l q))

-- ---- the first of a time has the lowest identity

rising-above : (n : ℕ) (l : List Target) (u : Target) → RisingFrom n l → Memᴰ u l → n ≤ u.identity
rising-above n [] u r m = absurd (Memᴰ.not-nil m)
rising-above n (t ∷ l) u r m =
    either (Memᴰ.cases_cons m) (λ p. rw p r.0) (λ p. omega (arith, r.0, rising-above (suc t.identity) l u r.1 p))

record FirstIs (l : List Target) (s : ℕ) : Type 0 where
  met : Meets l s
  is : first_at s l ≡ Ok met.target.identity
  lowest : (u : Target) → Memᴰ u l → meeting_time u ≡ Some s → met.target.identity ≤ u.identity

is-time : (s : ℕ) (o : Option ℕ) → is_time s o ≡ true → o ≡ Some s
is-time s None e = cc
is-time s (Some r) e = ap Some (sym (eqb-true s r e))

not-time : (s : ℕ) (o : Option ℕ) → is_time s o ≡ false → o ≡ Some s → ⊥
not-time s None e q = none-some q
not-time s (Some r) e q = eqb-false s r e (sym (same_some q))

-- the head has the time
first-here : (n : ℕ) (t : Target) (l : List Target) (s : ℕ) → RisingFrom n (t ∷ l) → is_time s (meeting_time t) ≡ true → FirstIs (t ∷ l) s
unfolding first_at
first-here n t l s r q =
    record {
      met = record { target = t; stands = Memᴰ.head refl; meets = is-time s (meeting_time t) q };
      is = rw q;
      lowest = λ u m e. either (Memᴰ.cases_cons m) (λ p. rw p (omega arith)) (λ p. omega (arith, rising-above (suc t.identity) l u r.1 p));
    }

-- the head has another time, or none
first-later : (t : Target) (l : List Target) (s : ℕ) → is_time s (meeting_time t) ≡ false → FirstIs l s → FirstIs (t ∷ l) s
unfolding first_at
first-later t l s q f =
    record {
      met = met_later t f.met;
      is = rw q f.is;
      lowest = λ u m e.
          either (Memᴰ.cases_cons m) (λ p. absurd (not-time s (meeting_time t) q (ap meeting_time (sym p) ∙ e))) (λ p. f.lowest u p e);
    }

-- by the test of the head
by-test : {G : Type 0} (b : Bool) → (b ≡ true → G) → (b ≡ false → G) → G
by-test true f g = f refl
by-test false f g = g refl

first-is : (n : ℕ) (l : List Target) (s : ℕ) → RisingFrom n l → Meets l s → FirstIs l s
first-is n [] s r w = absurd (Memᴰ.not-nil w.stands)
first-is n (t ∷ l) s r w =
    by-test (is_time s (meeting_time t)) (first-here n t l s r) (λ q. first-later t l s q
    (either (Memᴰ.cases_cons w.stands) (λ p. absurd (not-time s (meeting_time t) q (ap meeting_time (sym p) ∙ w.meets)))
    (λ p. first-is (suc t.identity) l s r.1 (record { target = w.target; stands = p; meets = w.meets }))))

-- ---- a pick

pick-by : (l : List Target) (o : Option ℕ) → least_time l ≡ o → pick_of l ≡ pick_at o l
unfolding pick_of
pick-by l o e = ap (λ (p : Option ℕ). pick_at p l) e

module _ (n : ℕ) (l : List Target) (r : RisingFrom n l) where
  -- where there is a least time its first target is picked
  picked : (s : ℕ) → least_time l ≡ Some s → FirstIs l s
  picked s e = first-is n l s r (least-met l e)

  picked-is : (s : ℕ) (e : least_time l ≡ Some s) → pick_of l ≡ Ok (picked s e).met.target.identity
  picked-is s e = pick-by l (Some s) e ∙ (picked s e).is

  at-most-each : (s : ℕ) → least_time l ≡ Some s → (u : Target) (k : ℕ) → Memᴰ u l → meeting_time u ≡ Some k → s ≤ k
  at-most-each s e u k m q = let w = found-least l u m q in omega (arith, w.le, same_some (sym e ∙ w.is))

  to-lowest : (i : ℕ) → pick_of l ≡ Ok i → LowestOfLeast l i
  to-lowest i p = go (least_time l) refl
    where
      go : (o : Option ℕ) → least_time l ≡ o → LowestOfLeast l i
      go None e = absurd (target-refused (sym p ∙ pick-by l None e))
      go (Some s) e =
          let f = picked s e in
          let same : f.met.target.identity ≡ i = same_target (sym (picked-is s e) ∙ p) in
          record {
            target = f.met.target;
            stands = f.met.stands;
            named = same;
            time = s;
            meets = f.met.meets;
            least = at-most-each s e;
            lowest = λ u m q. omega (arith, same, f.lowest u m q);
          }

  from_lowest : (i : ℕ) → LowestOfLeast l i → pick_of l ≡ Ok i
  from_lowest i w =
      let a = found-least l w.target w.stands w.meets in
      let f = picked a.time a.is in
      let s : a.time ≡ w.time = omega (arith, a.le, w.least f.met.target a.time f.met.stands f.met.meets) in
      let j : f.met.target.identity ≡ i =
      omega (
        arith,
        w.named,
        f.lowest w.target w.stands (w.meets ∙ ap Some (sym s)),
        w.lowest f.met.target f.met.stands (f.met.meets ∙ ap Some s),
      )
      in
      picked-is a.time a.is ∙ ap Ok j

  to_none : pick_of l ≡ Err NoMeeting → NoneMeets l
  to_none p = record { none_meets = λ u m. go u m (meeting_time u) refl }
    where
      go : (u : Target) → Memᴰ u l → (o : Option ℕ) → meeting_time u ≡ o → meeting_time u ≡ None
      go u m None e = e
      go u m (Some s) e =
          let a = found-least l u m e in absurd (target-refused (sym (picked-is a.time a.is) ∙ p))

  from-none : NoneMeets l → pick_of l ≡ Err NoMeeting
  from-none w = go (least_time l) refl
    where
      go : (o : Option ℕ) → least_time l ≡ o → pick_of l ≡ Err NoMeeting
      go None e = pick-by l None e
      go (Some s) e =
          let m = least-met l e in absurd (none-some (sym (w.none_meets m.target m.stands) ∙ m.meets))

  only_none : (q : Refusal) → pick_of l ≡ Err q → q ≡ NoMeeting
  only_none q p = go (least_time l) refl
    where
      go : (o : Option ℕ) → least_time l ≡ o → q ≡ NoMeeting
      go None e = let z : Err q ≡ Err NoMeeting = sym p ∙ pick-by l None e in cc
      go (Some s) e = absurd (target-refused (sym (picked-is s e) ∙ p))

  pub pick_is : PickIs l
  pick_is =
      record {
        lowest_of_least = λ i. (to-lowest i, from_lowest i);
        no_meeting = (to_none, from-none);
        nothing_else = only_none;
      }
