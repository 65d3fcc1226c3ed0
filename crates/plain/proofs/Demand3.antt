-- Demand 3, of every radius and every list of calls.
use Rattle.std.specs.Prelude.{Option, Some, None}
use Prim.Native.Nat.{ℕ, ◌≤◌}
use native.Mathlib.Omega.{arith}
use mathlib.Core.List.{List}
use mathlib.Core.Logic.{◌↔◌}
use mathlib.Core.Path.{◌≡◌, refl, sym, ◌∙◌, ap}
use lib.Ieee.{Float}
use lib.ListN.{length}
use Rattle.jord.specs.declared.vehicle.Vehicle.{Vehicle}
use Rattle.plain.specs.declared.targets.Held.{Held}
use Rattle.plain.specs.declared.call.Call.{Call}
use Rattle.plain.specs.Targets.{most_targets, find}
use Rattle.plain.specs.Board.{fresh, run}
use Rattle.plain.specs.Asking.{mean, pick}
use Rattle.plain.specs.History.{heard, LastReported, last_line}
use Rattle.plain.specs.Exchange.{identities, MayExchange}
use Rattle.plain.specs.Demand3.{Demand3, Alike, Stands, Holds}
use Rattle.plain.proofs.Pigeons.{AllIn}
use Rattle.plain.proofs.Steps.{Fit, fit-run}
use Rattle.plain.proofs.Room.{room-run}
use Rattle.plain.proofs.History.{report_of, line_of, last_report, run-report, run-line, run-total}
use Rattle.plain.proofs.Counts.{answers-fit, last_fits}
use Rattle.plain.proofs.Words.{last-reported}
use Rattle.plain.proofs.Picks.{pick_is}
use Rattle.plain.proofs.Exchange.{Sound, exchange-list, within-identities}

fresh-fit : (r : Float) → Fit (fresh r)
unfolding fresh
fresh-fit r = record { rising = tt }

no-report : (v : Vehicle) → report_of None ≡ Some v → ⊥
unfolding report_of
no-report v e = let z : ◌≡◌ {A = ℕ} 0 1 = cc in omega arith

report-of : (h : Held) (v : Vehicle) → report_of (Some h) ≡ Some v → h.report ≡ v
unfolding report_of
report-of h v e = cc

module _ (r : Float) (cs : List Call) where
  report-is : (i : ℕ) → report_of (find i (run (fresh r) cs).targets) ≡ last_report i None (heard (fresh r) cs)
  report-is i = run-report i (fresh r) cs (fresh-fit r) ∙ unfold fresh find report_of in refl

  held-line : (i : ℕ) (h : Held) → Holds (run (fresh r) cs) i h → h.line ≡ last_line i None (heard (fresh r) cs)
  unfolding line_of
  held-line i h e = sym (ap line_of e) ∙ run-line i (fresh r) cs (fresh-fit r) ∙ unfold fresh find in refl

  stands-is : (i : ℕ) (v : Vehicle) → Stands (run (fresh r) cs) i v ↔ LastReported i v (heard (fresh r) cs)
  stands-is i v = (
    λ s. (last-reported i v (heard (fresh r) cs)).0 (sym (report-is i) ∙ ap report_of s.there ∙ unfold report_of in refl),
    λ l. from (find i (run (fresh r) cs).targets) refl (report-is i ∙ (last-reported i v (heard (fresh r) cs)).1 l),
  )
    where
      from : (x : Option Held) → find i (run (fresh r) cs).targets ≡ x → report_of (find i (run (fresh r) cs).targets) ≡ Some v
          → Stands (run (fresh r) cs) i v
      from None e p = absurd (no-report v (sym (ap report_of e) ∙ p))
      from (Some h) e p =
          let w : h.report ≡ v = report-of h v (sym (ap report_of e) ∙ p) in
          record { line = h.line; there = e ∙ ap (λ (u : Vehicle). Some (record { report = u; line = h.line })) w }

  empty-known : (ids : List ℕ) → AllIn ids (fresh r).targets
  unfolding AllIn fresh find
  empty-known ids i h e = cc

  alike : length (identities cs) ≤ most_targets → (ps : List ℕ) → MayExchange ps cs → Alike r cs ps
  alike fits ps m =
      let sound : Sound (identities cs) (fresh r) = record { fit = fresh-fit r; all_known = empty-known (identities cs) } in
      let both = exchange-list (identities cs) fits (fresh r) ps cs sound (within-identities cs) m in
      record { same_board = both.0; same_mean = ap mean both.0; same_pick = ap pick both.0; same_answers = both.1 }

pub demand-3 : (r : Float) (cs : List Call) → Demand3 r cs
demand-3 r cs =
    record {
      rising = (fit-run (fresh r) cs (fresh-fit r)).rising;
      at_most_64 = room-run (fresh r) cs (unfold fresh in omega arith);
      stands = stands-is r cs;
      line = held-line r cs;
      counts_handed_out = answers-fit (fresh r) cs;
      counts_standing = λ i h e. rw (held-line r cs i h e) (last_fits i (fresh r) cs None tt);
      total = unfold fresh in omega (arith, run-total (fresh r) cs (unfold fresh in omega arith));
      picks = pick_is 1 (run (fresh r) cs).targets (fit-run (fresh r) cs (fresh-fit r)).rising;
      exchange = alike r cs;
    }
