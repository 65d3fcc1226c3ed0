-- What stands on the board after a list of calls, told from the calls and their answers: reports, lines, total and counts.
use Rattle.std.specs.Prelude.{Option, Some, None, Ok, Err}
use Prim.Native.Nat.{ℕ, ◌<◌, ◌+◌, ◌%◌, ◌^◌}
use native.Mathlib.Omega.{arith}
use native.Mathlib.Decide.{ℕ_discrete}
use mathlib.Core.Bool.{Bool, true, false, cond}
use mathlib.Core.List.{List, [], ◌∷◌}
use mathlib.Core.Logic.{◌≢◌}
use mathlib.Core.Path.{◌≡◌, refl, sym, ◌∙◌, ap}
use lib.Dec.{eqb}
use lib.Ieee.{Float}
use borrow.Author.Tests.{eq-eqb, ne_eqb}
use Rattle.jord.specs.declared.vehicle.Vehicle.{Vehicle}
use Rattle.plain.specs.declared.line.Ends.{Ends}
use Rattle.plain.specs.declared.targets.Held.{Held}
use Rattle.plain.specs.declared.line.Line.{Line}
use Rattle.plain.specs.declared.call.Call.{Call}
use Rattle.plain.specs.declared.call.Call.TheVariants.{Report, Withdraw, OwnShip, Track, Solve}
use Rattle.plain.specs.Targets.{find, place, bared}
use Rattle.plain.specs.Call.{Answer, vehicle, named}
use Rattle.plain.specs.Questions.{Said, ask, identity_asked, see, solved}
use Rattle.plain.specs.Board.{Plain, answer, lined, leaves, put, swept, targets_after, raised, accepted, outcome, after, run, answers}
use Rattle.plain.specs.History.{Heard, heard, accepts, given, handed_out, line_given, new_line, hear_line, last_line}
use Rattle.plain.proofs.Places.{find-place-same, find-place-other, rising_down, bared_in, find-bared}
use Rattle.plain.proofs.Steps.{Fit, fit-after, onto, accepted-onto}

-- ---- what is held, by its parts

unfoldable pub report_of : Option Held → Option Vehicle
report_of None = None
report_of (Some h) = Some h.report

unfoldable pub line_of : Option Held → Option Line
line_of None = None
line_of (Some h) = h.line

-- ---- the last accepted report of target i, call by call

unfoldable pub new_report : ℕ → Call → Option Vehicle → Option Vehicle
new_report i (Report j f) x = cond (eqb i j) (Some (vehicle f)) x
new_report i (Withdraw j) x = cond (eqb i j) None x
new_report i (OwnShip f) x = x
new_report i (Track s e) x = x
new_report i (Solve j) x = x

unfoldable pub hear_report : ℕ → Call → Answer → Option Vehicle → Option Vehicle
hear_report i c a x = cond (accepts a) (new_report i c x) x

unfoldable pub last_report : ℕ → Option Vehicle → List Heard → Option Vehicle
last_report i x [] = x
last_report i x (h ∷ later) = last_report i (hear_report i h.call h.reply x) later

-- ---- cases

cond-ap : {A B : Type 0} (f : A → B) (t : Bool) (x y : A) → f (cond t x y) ≡ cond t (f x) (f y)
cond-ap f true x y = refl
cond-ap f false x y = refl

cond_same : {A : Type 0} (t : Bool) (x : A) → cond t x x ≡ x
cond_same true x = refl
cond_same false x = refl

cond-at : {A : Type 0} (f : ℕ → A) (i j : ℕ) (y : A) → cond (eqb i j) (f j) y ≡ cond (eqb i j) (f i) y
cond-at f i j y = go (ℕ_discrete i j)
  where
    go : Dec (i ≡ j) → cond (eqb i j) (f j) y ≡ cond (eqb i j) (f i) y
    go (yes e) = ap (λ (k : ℕ). cond (eqb i j) (f k) y) (sym e)
    go (no n) = rw (ne_eqb i j n)

find-place : (i j : ℕ) (b : Plain) (x : Option Held) → Fit b → find i (place j x b.targets) ≡ cond (eqb i j) x (find i b.targets)
find-place i j b x f = go (ℕ_discrete i j)
  where
    go : Dec (i ≡ j) → find i (place j x b.targets) ≡ cond (eqb i j) x (find i b.targets)
    go (yes e) = rw (eq-eqb i j e, e) (find-place-same 1 j x b.targets f.rising)
    go (no n) =
        rw (ne_eqb i j n)
        (find-place-other 0 j i x b.targets (omega arith) (rising_down 0 1 b.targets (omega arith) f.rising) n)

report-lined : (a : Answer) (x : Option Held) → report_of (lined a x) ≡ report_of x
unfolding report_of
report-lined a None = refl
report-lined (Ok None) (Some h) = refl
report-lined (Ok (Some l)) (Some h) = refl
report-lined (Err r) (Some h) = refl

report-bared : (x : Option Held) → report_of (bared_in x) ≡ report_of x
unfolding report_of bared_in
report-bared None = refl
report-bared (Some h) = refl

line-bared : (x : Option Held) → line_of (bared_in x) ≡ None
unfolding line_of bared_in
line-bared None = refl
line-bared (Some h) = refl

line-lined : (a : Answer) (x : Option Held) → ((l : Line) → a ≡ Ok (Some l) → x ≢ None) → line_of (lined a x) ≡ line_given a (line_of x)
unfolding line_of line_given
line-lined (Ok None) None n = refl
line-lined (Ok (Some l)) None n = absurd (n l refl refl)
line-lined (Err r) None n = refl
line-lined (Ok None) (Some h) n = refl
line-lined (Ok (Some l)) (Some h) n = refl
line-lined (Err r) (Some h) n = refl

-- a solve that gives a line found its target
solved-held : (r : Float) (s : Said) (own : Option Vehicle) (t : Option Ends) (x : Option Held) (l : Line) → ask s (solved r (see x own t)) ≡ Ok (Some l) → x ≢ None
solved-held r (Err n) own t x l e p = let z : ◌≡◌ {A = ℕ} 0 1 = cc in omega arith
solved-held r (Ok tt) own t None l e p = let z : ◌≡◌ {A = ℕ} 0 1 = cc in omega arith
solved-held r (Ok tt) own t (Some h) l e p = let z : ◌≡◌ {A = ℕ} 0 1 = cc in omega arith

-- ---- one call

module _ (b : Plain) (i : ℕ) (fit : Fit b) where
  module _ {A : Type 0} (f : Option Held → A) where
    -- of the place of i, after a call that names j and makes g of it
    placed-as : (g : A → A) (c : Call) (a : Answer) (j : ℕ) → named c ≡ Some j
        → f (leaves c a (find j b.targets)) ≡ g (f (find j b.targets))
        → f (find i (accepted b c a).targets) ≡ cond (eqb i j) (g (f (find i b.targets))) (f (find i b.targets))
    placed-as g c a j e q =
        ap (λ (k : Plain). f (find i k.targets)) (accepted-onto b c j e a)
        ∙ unfold onto in
        (ap f (find-place i j b (leaves c a (find j b.targets)) fit)
        ∙ cond-ap f (eqb i j) (leaves c a (find j b.targets)) (find i b.targets)
        ∙ ap (λ (y : A). cond (eqb i j) y (f (find i b.targets))) q
        ∙ cond-at (λ (k : ℕ). g (f (find k b.targets))) i j (f (find i b.targets)))

    -- after one that takes every line away
    swept_as : (c : Call) (a : Answer) (y : A) → f (bared_in (find i b.targets)) ≡ y → (accepted b c a).targets ≡ bared b.targets
        → f (find i (accepted b c a).targets) ≡ y
    swept_as c a y e q = rw q (ap f (find-bared i b.targets) ∙ e)

  accepted-report : (c : Call) (a : Answer) → report_of (find i (accepted b c a).targets) ≡ new_report i c (report_of (find i b.targets))
  unfolding new_report
  accepted-report (Report j f) a =
      placed-as report_of (λ x. Some (vehicle f)) (Report j f) a j (unfold named in refl) (unfold leaves report_of in refl)
  accepted-report (Withdraw j) a = placed-as report_of (λ x. None) (Withdraw j) a j (unfold named in refl) (unfold leaves report_of in refl)
  accepted-report (OwnShip f) a =
      swept_as report_of (OwnShip f) a _ (report-bared (find i b.targets)) (unfold accepted targets_after put named swept in refl)
  accepted-report (Track s e) a =
      swept_as report_of (Track s e) a _ (report-bared (find i b.targets)) (unfold accepted targets_after put named swept in refl)
  accepted-report (Solve j) a =
      placed-as report_of (λ x. x) (Solve j) a j (unfold named in refl) (unfold leaves in report-lined a (find j b.targets))
      ∙ cond_same (eqb i j) (report_of (find i b.targets))

  outcome-report : (c : Call) (a : Answer) → report_of (find i (outcome b c a).targets) ≡ hear_report i c a (report_of (find i b.targets))
  unfolding outcome hear_report
  outcome-report c (Ok l) = accepted-report c (Ok l)
  outcome-report c (Err r) = refl

  accepted-line : (c : Call) (a : Answer) → answer b c ≡ a
      → line_of (find i (accepted b c a).targets) ≡ new_line i c a (line_of (find i b.targets))
  unfolding new_line answer
  accepted-line (Report j f) a e = placed-as line_of (λ x. None) (Report j f) a j (unfold named in refl) (unfold leaves line_of in refl)
  accepted-line (Withdraw j) a e = placed-as line_of (λ x. None) (Withdraw j) a j (unfold named in refl) (unfold leaves line_of in refl)
  accepted-line (OwnShip f) a e =
      swept_as line_of (OwnShip f) a None (line-bared (find i b.targets)) (unfold accepted targets_after put named swept in refl)
  accepted-line (Track s t) a e =
      swept_as line_of (Track s t) a None (line-bared (find i b.targets)) (unfold accepted targets_after put named swept in refl)
  accepted-line (Solve j) a e =
      placed-as line_of (line_given a) (Solve j) a j (unfold named in refl)
      (unfold leaves in
      line-lined a (find j b.targets) (λ l q. solved-held b.radius (identity_asked j) b.own b.track (find j b.targets) l (e ∙ q)))

  outcome-line : (c : Call) (a : Answer) → answer b c ≡ a → line_of (find i (outcome b c a).targets) ≡ hear_line i c a (line_of (find i b.targets))
  unfolding outcome hear_line
  outcome-line c (Ok l) e = accepted-line c (Ok l) e
  outcome-line c (Err r) e = refl

-- ---- after the list

pub run-report : (i : ℕ) (b : Plain) (cs : List Call) → Fit b
    → report_of (find i (run b cs).targets) ≡ last_report i (report_of (find i b.targets)) (heard b cs)
unfolding run heard last_report
run-report i b [] f = refl
run-report i b (c ∷ cs) f =
    run-report i (after b c) cs (fit-after b c f)
    ∙ unfold after in ap (λ (x : Option Vehicle). last_report i x (heard (after b c) cs)) (outcome-report b i f c (answer b c))

pub run-line : (i : ℕ) (b : Plain) (cs : List Call) → Fit b
    → line_of (find i (run b cs).targets) ≡ last_line i (line_of (find i b.targets)) (heard b cs)
unfolding run heard last_line
run-line i b [] f = refl
run-line i b (c ∷ cs) f =
    run-line i (after b c) cs (fit-after b c f)
    ∙ unfold after in ap (λ (x : Option Line). last_line i x (heard (after b c) cs)) (outcome-line b i f c (answer b c) refl)

-- ---- the total

outcome-total : (b : Plain) (c : Call) (a : Answer) → (outcome b c a).total ≡ raised a b.total
unfolding outcome accepted
outcome-total b c (Ok l) = refl
outcome-total b c (Err r) = refl

raised-given : (a : Answer) (n : ℕ) → n < 2 ^ 32 → raised a n ≡ (n + given a) % 2 ^ 32
unfolding given
raised-given (Ok None) n h = omega arith
raised-given (Ok (Some l)) n h = refl
raised-given (Err r) n h = omega arith

pub run-total : (b : Plain) (cs : List Call) → b.total < 2 ^ 32 → (run b cs).total ≡ (b.total + handed_out (answers b cs)) % 2 ^ 32
unfolding run answers handed_out
run-total b [] h = omega arith
run-total b (c ∷ cs) h =
    let one : (after b c).total ≡ (b.total + given (answer b c)) % 2 ^ 32 =
    unfold after in (outcome-total b c (answer b c) ∙ raised-given (answer b c) b.total h) in
    let low : (after b c).total < 2 ^ 32 = omega arith in
    let rest = run-total (after b c) cs low in
    omega arith
