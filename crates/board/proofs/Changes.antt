-- A search of the entries, and the change of the array that each call makes: it stands for the plain board's targets after the call.
use Rattle.std.specs.Prelude.{Option, Some, None, Result, Ok, Err, is_ok, MatchOption, IsSomeAnd}
use Rattle.std.specs.Result.{result_ok}
use mathlib.Core.Logic.{◌⊎◌, inl, inr}
use Prim.Native.Nat.{ℕ}
use mathlib.Core.Bool.{true}
use mathlib.Core.List.{List, map}
use mathlib.Core.Path.{◌≡◌, refl, sym, ap, ◌∙◌}
use lib.ListN.{length, take, get_or}
use Rattle.plain.specs.declared.targets.Held.{Held}
use Rattle.plain.specs.declared.targets.Target.{Target}
use Rattle.plain.specs.declared.targets.Targets.{Targets}
use Rattle.targets.specs.declared.Change.{Change}
use Rattle.targets.specs.declared.Change.TheVariants.{Removes, Sweeps}
use Rattle.plain.specs.declared.state.Board.{Board}
use Rattle.plain.specs.declared.call.Coordinates.{Coordinates}
use Rattle.plain.specs.declared.call.Fix.{Fix}
use Rattle.plain.specs.declared.call.Call.{Call}
use Rattle.plain.specs.declared.call.Call.TheVariants.{Report, Withdraw, OwnShip, Track, Solve}
use Rattle.plain.specs.Targets.{most_targets, find, place, bared, bare_target, at_most, listed}
use Rattle.targets.specs.Slots.{spot_from}
use Rattle.plain.specs.Call.{Answer, vehicle, named}
use Rattle.plain.specs.Questions.{ask, identity_asked}
use Rattle.plain.specs.Board.{Plain, answer, after, accepted, targets_after, put, swept, leaves, lined, with_line, own_after, track_after, raised}
use Rattle.plain.specs.Code.{plain, cut}
use Rattle.plain.specs.History.{accepts}
use Rattle.board.specs.declared.glance.Setting.{Setting}
use Rattle.board.specs.Glance.{setting_of}
use Rattle.board.specs.Change.{name_of, Seeks, answer_by, entries_after, count_after, changed, Within, placing, RightChange}
use Rattle.targets.proofs.Arrays.{absent, held_below}
use Rattle.targets.proofs.Spots.{belongs-at}
use Rattle.targets.proofs.Slots.{listed-is, found_is, stored_is, inserted-is, removed-is, removed-not, take-bared, counted_is, removed-fits, bared-fits, absent-fits}
use Rattle.questions.proofs.Chains.{ask-fix, ask-ends}
use Rattle.plain.proofs.Listed.{at-most-le, at-most-same}
use Rattle.plain.proofs.Played.{heard-accepted}

-- ---- the changes

-- a count that is at most 64 already
stays-is : (ts : Targets) → listed (changed None ts) ≡ listed ts
unfolding listed entries_after
stays-is ts = ap (λ (k : ℕ). take k ts.entries) (at-most-same (at_most ts.count) (at-most-le ts.count))

sweeps-is : (ts : Targets) → listed (changed (Some Sweeps) ts) ≡ bared (listed ts)
unfolding listed entries_after
sweeps-is ts =
    ap (λ (k : ℕ). take k (map bare_target ts.entries)) (at-most-same (at_most ts.count) (at-most-le ts.count))
    ∙ take-bared (at_most ts.count) ts.entries

placed : (i : ℕ) (h : Held) (s : Result ℕ ℕ) (ts : Targets) → length ts.entries ≡ most_targets → s ≡ spot_from 0 i (listed ts)
    → Within (Some (placing s (record { identity = i; held = h }))) (at_most ts.count)
    × (listed (changed (Some (placing s (record { identity = i; held = h }))) ts) ≡ take most_targets (place i (Some h) (listed ts)))
unfolding listed entries_after Within
placed i h (Ok p) ts full q =
    (held_below i (at_most ts.count) ts.entries p (sym q), stored_is ts i (at_most ts.count) full refl (Ok p) q p h refl)
placed i h (Err p) ts full q = (tt, inserted-is ts i (at_most ts.count) full refl (Err p) q p h refl)

pub report-changes : (i : ℕ) (f : Fix) (a : Answer) (s : Result ℕ ℕ) (x : Option Held)
    → RightChange (Report i f) a s x (Some (placing s (record { identity = i; held = record { report = vehicle f; line = None } })))
unfolding RightChange targets_after put named swept leaves
report-changes i f a s x ts full q e = placed i (record { report = vehicle f; line = None }) s ts full q

pub withdraw-removes : (i : ℕ) (a : Answer) (p : ℕ) (x : Option Held) → RightChange (Withdraw i) a (Ok p) x (Some (Removes p))
unfolding RightChange targets_after put named swept leaves listed entries_after Within
withdraw-removes i a p x ts full q e =
    (tt, removed-is ts i (at_most ts.count) full refl (Ok p) q p refl ∙ removed-fits i ts)

not_there : (i p : ℕ) (ts : Targets) → length ts.entries ≡ most_targets → Err p ≡ spot_from 0 i (listed ts) → listed ts ≡ place i None (listed ts)
unfolding listed
not_there i p ts full q = removed-not ts i (at_most ts.count) full refl (Err p) q p refl

pub withdraw-stays : (i : ℕ) (a : Answer) (p : ℕ) (x : Option Held) → RightChange (Withdraw i) a (Err p) x None
unfolding RightChange targets_after put named swept leaves Within
withdraw-stays i a p x ts full q e = (tt, stays-is ts ∙ not_there i p ts full q ∙ removed-fits i ts)

pub own-sweeps : (f : Fix) (a : Answer) (s : Result ℕ ℕ) (x : Option Held) → RightChange (OwnShip f) a s x (Some Sweeps)
unfolding RightChange targets_after put named swept leaves Within
own-sweeps f a s x ts full q e = (tt, sweeps-is ts ∙ bared-fits ts)

pub track-sweeps : (b d : Coordinates) (a : Answer) (s : Result ℕ ℕ) (x : Option Held) → RightChange (Track b d) a s x (Some Sweeps)
unfolding RightChange targets_after put named swept leaves Within
track-sweeps b d a s x ts full q e = (tt, sweeps-is ts ∙ bared-fits ts)

pub solve-stays : (i : ℕ) (a : Answer) (s : Result ℕ ℕ) → RightChange (Solve i) a s None None
unfolding RightChange targets_after put named swept leaves Within
solve-stays i a s ts full q e =
    (tt, stays-is ts ∙ absent-fits i ts (sym e) ∙ ap (λ (y : Option Held). take most_targets (place i (lined a y) (listed ts))) e)

pub solve-changes : (i : ℕ) (a : Answer) (s : Result ℕ ℕ) (h : Held) → RightChange (Solve i) a s (Some h) (Some (placing s (record { identity = i; held = with_line a h })))
unfolding RightChange targets_after put named swept leaves
solve-changes i a s h ts full q e =
    let p = placed i (with_line a h) s ts full q in
    (p.0, p.1 ∙ ap (λ (y : Option Held). take most_targets (place i (lined a y) (listed ts))) e)

-- an own ship or a track takes every line away
pub swept-changes : (c : Call) (a : Answer) (s : Result ℕ ℕ) (x : Option Held)
    → ((f : Fix) × (c ≡ OwnShip f)) ⊎ ((b : Coordinates) × (d : Coordinates) × (c ≡ Track b d)) → RightChange c a s x (Some Sweeps)
swept-changes c a s x (inl (f, e)) = rw e (own-sweeps f a s x)
swept-changes c a s x (inr (b, d, e)) = rw e (track-sweeps b d a s x)

-- a withdrawal takes out what stands at its spot
pub removed : (i : ℕ) (a : Answer) (s : Result ℕ ℕ) (x : Option Held) (r : Option Change)
    → MatchOption (result_ok s) (r ≡ None) (λ p. IsSomeAnd r (λ c. c ≡ Removes p)) → RightChange (Withdraw i) a s x r
removed i a (Ok p) x (Some c) e = rw e (withdraw-removes i a p x)
removed i a (Ok p) x None e = elim e [ ]
removed i a (Err p) x r e = rw e (withdraw-stays i a p x)

-- a solve stores the target that is held, with its line
pub solved-changes : (i : ℕ) (a : Answer) (s : Result ℕ ℕ) (x : Option Held) (r : Option Change)
    → MatchOption x (r ≡ None) (λ h. IsSomeAnd r (λ c. c ≡ placing s (record { identity = i; held = with_line a h }))) → RightChange (Solve i) a s x r
solved-changes i a s None r e = rw e (solve-stays i a s)
solved-changes i a s (Some h) (Some c) e = rw e (solve-changes i a s h)
solved-changes i a s (Some h) None e = elim e [ ]

-- ---- a call of the code

-- the search of the first n entries is one of the plain board's targets, and what is held at its place is what is held under the identity
pub sought-is : (ts : Targets) (n x y : ℕ) (s : Result ℕ ℕ) (f : Option Held) → s ≡ spot_from 0 x (take n ts.entries)
    → MatchOption (result_ok s) (f ≡ None) (λ p. IsSomeAnd f (λ h. h ≡ (get_or ts.entries p absent).held))
    → n ≡ at_most ts.count → x ≡ y → length ts.entries ≡ most_targets
    → Seeks (listed ts) y s f × (n ≡ length (listed ts))
sought-is ts n x y s f q m e g full =
    let list : take n ts.entries ≡ listed ts = listed-is ts n e in
    let at : s ≡ spot_from 0 y (listed ts) = q ∙ rw (list, g) in
    (record { spot_is = at; found_is = rw (← g) (held s f q m) }, unfold listed in (e ∙ counted_is ts.entries ts.count full))
  where
    held : (t : Result ℕ ℕ) (h : Option Held) → t ≡ spot_from 0 x (take n ts.entries)
        → MatchOption (result_ok t) (h ≡ None) (λ p. IsSomeAnd h (λ k. k ≡ (get_or ts.entries p absent).held)) → h ≡ find x (listed ts)
    held (Ok p) (Some k) i j = rw j (found_is ts x n full e (Ok p) i p refl)
    held (Ok p) None i j = elim j [ ]
    held (Err p) h i j = j ∙ sym (belongs-at x (take n ts.entries) p (sym i)).looked ∙ ap (find x) (listed-is ts n e)

-- the questions put to the parts are those put to the plain board
parts-answer : (p : Plain) (c : Call) → answer_by p.radius p.own p.track (find (name_of c) p.targets) (length p.targets) c ≡ answer p c
unfolding answer
parts-answer p (Report i f) = ap (ask (identity_asked i)) (ask-fix f _)
parts-answer p (Withdraw i) = refl
parts-answer p (OwnShip f) = ask-fix f (Ok None)
parts-answer p (Track s e) = ask-ends s e (Ok None)
parts-answer p (Solve i) = refl

pub answered-is : (b : Board) (c : Call) (a : Answer) (x : Option Held) (n : ℕ) → a ≡ answer_by b.radius b.own b.track x n c
    → x ≡ find (name_of c) (listed b.targets) → n ≡ length (listed b.targets) → a ≡ answer (plain b) c
answered-is b c a x n k e f = k ∙ rw (e, f) (unfold plain in parts-answer (plain b) c)

-- put to the parts of a setting, where it is the board's
pub answered-of : (b : Board) (c : Call) (q : Setting) (a : Answer) (x : Option Held) (n : ℕ) → q ≡ setting_of b
    → a ≡ answer_by q.radius q.own q.track x (at_most q.count) c → n ≡ at_most b.targets.count
    → x ≡ find (name_of c) (listed b.targets) → n ≡ length (listed b.targets) → a ≡ answer (plain b) c
unfolding setting_of
answered-of b c q a x n s k m e f = answered-is b c a x (at_most b.targets.count) (rw s at k) e (sym m ∙ f)

-- an answer is accepted where it is no error
pub ok-accepted : (a : Answer) → accepts a ≡ is_ok a
ok-accepted (Ok l) = refl
ok-accepted (Err r) = refl

-- one that is accepted

module _ (b : Board) (c : Call) (a : Answer) (r : Option Change) (s : Result ℕ ℕ) (x : Option Held) (full : length b.targets.entries ≡ most_targets)
    (q : s ≡ spot_from 0 (name_of c) (listed b.targets)) (e : x ≡ find (name_of c) (listed b.targets)) (k : RightChange c a s x r) where
  pub within-is : Within r (at_most b.targets.count)
  unfolding RightChange
  within-is = (k b.targets full q e).0

  pub changed-is : (es : List Target) (n : ℕ) → a ≡ answer (plain b) c → accepts a ≡ true
      → es ≡ entries_after r b.targets.entries → n ≡ count_after r (at_most b.targets.count)
      → plain (record {
        radius = b.radius;
        own = own_after c b.own;
        track = track_after c
            b.track;
        targets = record { entries = es; count = n };
        total = raised a b.total;
      })
      ≡ after (plain b) c
  unfolding RightChange plain cut accepted
  changed-is es n answers good ee en = heard-accepted b c a _ answers good (rw (ee, en, (k b.targets full q e).1))
