-- A board of at most 64 targets keeps at most 64.
use Rattle.std.specs.Prelude.{Option, Some, None, Ok, Err}
use Prim.Native.Nat.{ℕ, ◌≤◌}
use native.Mathlib.Omega.{arith}
use mathlib.Core.Bool.{Bool, true, false}
use mathlib.Core.List.{List, [], ◌∷◌}
use mathlib.Core.Path.{◌≡◌, refl}
use lib.Dec.{ltb}
use lib.ListN.{length}
use borrow.Author.Tests.{ltb-true}
use Rattle.plain.specs.declared.targets.Held.{Held}
use Rattle.plain.specs.declared.call.Fix.{Fix}
use Rattle.plain.specs.declared.call.Call.{Call}
use Rattle.plain.specs.declared.call.Call.TheVariants.{Report, Withdraw, OwnShip, Track, Solve}
use Rattle.plain.specs.declared.call.Refusal.{Refusal}
use Rattle.plain.specs.declared.call.Refusal.TheVariants.{BoardFull}
use Rattle.plain.specs.Targets.{most_targets, find, place}
use Rattle.plain.specs.Call.{Answer, named}
use Rattle.plain.specs.Questions.{Said, ask, unless, identity_asked, fix_finite_asked, fix_unit_asked, speed_asked, room_asked}
use Rattle.plain.specs.Board.{Plain, answer, lined, leaves, put, swept, targets_after, accepted, outcome, after, run}
use Rattle.plain.proofs.Places.{length-place, length-place-nothing, length-place-held, length-bared}
use Rattle.plain.proofs.Steps.{ask-elim, outcome-elim}

abbrev Small : Plain → Type 0
Small b = length b.targets ≤ most_targets

module _ (b : Plain) (h : length b.targets ≤ most_targets) where
  -- a target that is held, or for which there is room, may be placed
  placed : (j : ℕ) (y : Option Held) (x : Option Held) → find j b.targets ≡ x → room_asked x (length b.targets) ≡ Ok tt
      → length (place j y b.targets) ≤ most_targets
  placed j y (Some k) e q = omega (arith, length-place-held j y k b.targets e)
  placed j y None e q = go (ltb (length b.targets) most_targets) refl q
    where
      go : (t : Bool) → ltb (length b.targets) most_targets ≡ t → unless t BoardFull ≡ Ok tt → length (place j y b.targets) ≤ most_targets
      go true lt q = omega (arith, ltb-true (length b.targets) most_targets lt, length-place j y b.targets)
      go false lt q = let z : ◌≡◌ {A = ℕ} 0 1 = cc in absurd (omega arith)

  report-last : (j : ℕ) (f : Fix) (s : Said) → room_asked (find j b.targets) (length b.targets) ≡ s → Small (outcome b (Report j f) (ask s (Ok None)))
  unfolding outcome accepted targets_after put named swept
  report-last j f (Ok tt) e = placed j _ (find j b.targets) refl e
  report-last j f (Err r) e = h

  refused-room : (j : ℕ) (f : Fix) (r : Refusal) → Small (outcome b (Report j f) (Err r))
  unfolding outcome
  refused-room j f r = h

  report-room : (j : ℕ) (f : Fix) → Small (outcome b (Report j f) (answer b (Report j f)))
  unfolding answer
  report-room j f =
      let P : Answer → Type 0 = λ (a : Answer). Small (outcome b (Report j f) a) in
      let refuses : (r : Refusal) → P (Err r) = λ r. refused-room j f r in
      ask-elim P (identity_asked j) _ refuses
      (ask-elim P (fix_finite_asked f) _ refuses
      (ask-elim P (fix_unit_asked f) _ refuses
      (ask-elim P (speed_asked f) _ refuses (report-last j f (room_asked (find j b.targets) (length b.targets)) refl))))

  -- a solve places only what was there, with a line
  solve-room : (j : ℕ) (a : Answer) (x : Option Held) → find j b.targets ≡ x → length (place j (lined a x) b.targets) ≤ most_targets
  solve-room j a None e = omega (arith, length-place-nothing j b.targets)
  solve-room j a (Some k) e = omega (arith, length-place-held j (lined a (Some k)) k b.targets e)

  pub room_after : (c : Call) → length (after b c).targets ≤ most_targets
  unfolding after
  room_after (Report j f) = report-room j f
  room_after (Withdraw j) =
      outcome-elim Small b (Withdraw j) (answer b (Withdraw j)) h
      (unfold accepted targets_after put named swept leaves in omega (arith, length-place-nothing j b.targets))
  room_after (OwnShip f) =
      outcome-elim Small b (OwnShip f) (answer b (OwnShip f)) h
      (unfold accepted targets_after put named swept in omega (arith, length-bared b.targets))
  room_after (Track s t) =
      outcome-elim Small b (Track s t) (answer b (Track s t)) h
      (unfold accepted targets_after put named swept in omega (arith, length-bared b.targets))
  room_after (Solve j) =
      outcome-elim Small b (Solve j) (answer b (Solve j)) h
      (unfold accepted targets_after put named swept leaves in solve-room j (answer b (Solve j)) (find j b.targets) refl)

pub room-run : (b : Plain) (cs : List Call) → length b.targets ≤ most_targets → length (run b cs).targets ≤ most_targets
unfolding run
room-run b [] h = h
room-run b (c ∷ cs) h = room-run (after b c) cs (room_after b h c)
