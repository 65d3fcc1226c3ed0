-- One call of the plain board: what is refused leaves the board, what is accepted moves the named target's place alone, or all lines.
use Rattle.std.specs.Prelude.{Option, Some, None, Ok, Err}
use Prim.Native.Nat.{ℕ, zero, suc}
use native.Mathlib.Omega.{arith}
use mathlib.Core.Bool.{true, false}
use mathlib.Core.List.{List, [], ◌∷◌}
use mathlib.Core.Logic.{◌≢◌}
use mathlib.Core.Path.{◌≡◌, refl}
use borrow.Author.Tests.{eq-eqb}
use Rattle.plain.specs.declared.targets.Held.{Held}
use Rattle.plain.specs.declared.targets.Target.{Target}
use Rattle.plain.specs.declared.call.Call.{Call}
use Rattle.plain.specs.declared.call.Call.TheVariants.{Report, Withdraw, OwnShip, Track, Solve}
use Rattle.plain.specs.declared.call.Refusal.{Refusal}
use Rattle.plain.specs.declared.call.Refusal.TheVariants.{IdentityZero}
use Rattle.plain.specs.Targets.{find, place, RisingFrom}
use Rattle.plain.specs.Call.{Answer, named}
use Rattle.plain.specs.History.{accepts}
use Rattle.plain.specs.Questions.{Said, ask}
use Rattle.plain.specs.Board.{Plain, answer, swept, leaves, put, targets_after, raised, accepted, outcome, after, run}
use Rattle.plain.proofs.Places.{rising-place, rising-bared}

-- a question is answered by no, or the others are put
pub ask-elim : (P : Answer → Type 0) (s : Said) (a : Answer) → ((r : Refusal) → P (Err r)) → P a → P (ask s a)
ask-elim P (Ok tt) a refuses puts = puts
ask-elim P (Err r) a refuses puts = refuses r

-- a call is refused and leaves the board, or is accepted
pub outcome-elim : (P : Plain → Type 0) (b : Plain) (c : Call) (a : Answer) → P b → P (accepted b c a) → P (outcome b c a)
unfolding outcome
outcome-elim P b c (Ok l) p q = q
outcome-elim P b c (Err r) p q = p

pub refused-after : (b : Plain) (c : Call) (r : Refusal) → answer b c ≡ Err r → after b c ≡ b
unfolding after outcome
refused-after b c r e = rw e

pub not-accepted : (b : Plain) (c : Call) (a : Answer) → accepts a ≡ false → outcome b c a ≡ b
unfolding outcome
not-accepted b c (Ok l) e = let z : ◌≡◌ {A = ℕ} 0 1 = cc in absurd (omega arith)
not-accepted b c (Err r) e = refl

pub is-accepted : (b : Plain) (c : Call) (a : Answer) → accepts a ≡ true → outcome b c a ≡ accepted b c a
unfolding outcome
is-accepted b c (Ok l) e = refl
is-accepted b c (Err r) e = let z : ◌≡◌ {A = ℕ} 0 1 = cc in absurd (omega arith)

-- a call that names i moves the place of i and the total
unfoldable pub onto : Plain → ℕ → Option Held → ℕ → Plain
onto b i x n = record { radius = b.radius; own = b.own; track = b.track; targets = place i x b.targets; total = n }

pub accepted-onto : (b : Plain) (c : Call) (i : ℕ) → named c ≡ Some i → (a : Answer)
    → accepted b c a ≡ onto b i (leaves c a (find i b.targets)) (raised a b.total)
unfolding accepted onto named targets_after put swept
accepted-onto b (Report j f) i e a = let p : j ≡ i = cc in rw p
accepted-onto b (Withdraw j) i e a = let p : j ≡ i = cc in rw p
accepted-onto b (OwnShip f) i e a = cc
accepted-onto b (Track s t) i e a = cc
accepted-onto b (Solve j) i e a = let p : j ≡ i = cc in rw p

-- one that names none moves the lines
pub targets-nobody : (b : Plain) (c : Call) (a : Answer) → named c ≡ None → (accepted b c a).targets ≡ swept c b.targets
unfolding accepted targets_after put
targets-nobody b c a e = rw e

-- whom a call names
pub data Names (b : Plain) (c : Call) : Type 0 where
  nobody : named c ≡ None → Names b c
  zeroth : answer b c ≡ Err IdentityZero → Names b c
  target : (i : ℕ) → named c ≡ Some i → i ≢ 0 → Names b c

zero-answer : (b : Plain) (c : Call) → named c ≡ Some 0 → answer b c ≡ Err IdentityZero
unfolding named answer
zero-answer b (Report j f) e = let p : j ≡ 0 = cc in simp (eq-eqb j 0 p)
zero-answer b (Withdraw j) e = let p : j ≡ 0 = cc in simp (eq-eqb j 0 p)
zero-answer b (OwnShip f) e = cc
zero-answer b (Track s t) e = cc
zero-answer b (Solve j) e = let p : j ≡ 0 = cc in simp (eq-eqb j 0 p)

pub names : (b : Plain) (c : Call) → Names b c
names b c = go (named c) refl
  where
    go : (o : Option ℕ) → named c ≡ o → Names b c
    go None e = nobody e
    go (Some zero) e = zeroth (zero-answer b c e)
    go (Some (suc i)) e = target (suc i) e (omega arith)

-- what a call makes of the targets, where P is kept by sweeping them and by a placing of the named one
pub after-elim : (P : List Target → Type 0) (b : Plain) (c : Call) → P b.targets → (named c ≡ None → P (swept c b.targets))
    → ((i : ℕ) (x : Option Held) → named c ≡ Some i → i ≢ 0 → P (place i x b.targets)) → P (after b c).targets
unfolding after
after-elim P b c p q r = go (names b c)
  where
    go : Names b c → P (after b c).targets
    go (nobody e) = outcome-elim (λ (k : Plain). P k.targets) b c (answer b c) p (rw (targets-nobody b c (answer b c) e) (q e))
    go (zeroth e) = rw (refused-after b c IdentityZero e) p
    go (target i e n) =
        outcome-elim (λ (k : Plain). P k.targets) b c (answer b c) p
        (rw (accepted-onto b c i e (answer b c)) (unfold onto in r i _ e n))

rising-swept : (c : Call) (n : ℕ) (l : List Target) → RisingFrom n l → RisingFrom n (swept c l)
unfolding swept
rising-swept (Report j f) n l r = r
rising-swept (Withdraw j) n l r = r
rising-swept (OwnShip f) n l r = rising-bared n l r
rising-swept (Track s t) n l r = rising-bared n l r
rising-swept (Solve j) n l r = r

-- WHAT IS KNOWN OF A BOARD BETWEEN CALLS
pub record Fit (b : Plain) : Type 0 where
  pub rising : RisingFrom 1 b.targets

pub fit-after : (b : Plain) (c : Call) → Fit b → Fit (after b c)
fit-after b c f =
    record {
      rising =
          after-elim (RisingFrom 1) b c f.rising (λ e. rising-swept c 1 b.targets f.rising)
          (λ i x e n. rising-place 1 i x b.targets (omega arith) f.rising);
    }

pub fit-run : (b : Plain) (cs : List Call) → Fit b → Fit (run b cs)
unfolding run
fit-run b [] f = f
fit-run b (c ∷ cs) f = fit-run (after b c) cs (fit-after b c f)
