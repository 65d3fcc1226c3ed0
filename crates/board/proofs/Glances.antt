-- What a glance tells holds of every board of the setting (`glanced`): the questions of a report, a store where its identity stands, and a sweep.
use Rattle.std.specs.Prelude.{Option, Some, None, Result, Ok, Err}
use Prim.Native.Nat.{ℕ, zero, suc, ◌<◌}
use native.Mathlib.Omega.{arith}
use mathlib.Core.List.{List, [], ◌∷◌, map}
use mathlib.Core.Path.{◌≡◌, refl, sym, ap, ◌∙◌}
use lib.ListN.{take, set, length-set}
use lib.Seq.{take-set-lt, map-set_same}
use Rattle.plain.specs.declared.call.Refusal.{Refusal}
use Rattle.plain.specs.declared.targets.Target.{Target}
use Rattle.board.specs.declared.glance.Setting.{Setting}
use Rattle.board.specs.declared.glance.Hint.{Hint}
use Rattle.board.specs.declared.glance.Hint.TheVariants.{Sweeps}
use Rattle.plain.specs.declared.call.Coordinates.{Coordinates}
use Rattle.plain.specs.declared.call.Fix.{Fix}
use Rattle.plain.specs.declared.call.Call.{Call}
use Rattle.plain.specs.declared.call.Call.TheVariants.{Report, Withdraw, OwnShip, Track, Solve}
use Rattle.plain.specs.Targets.{most_targets, at_most, listed, bare_target, bared}
use Rattle.targets.specs.Slots.{identity_of, spot_in, spot_from}
use Rattle.plain.specs.Call.{Answer, vehicle, named}
use Rattle.plain.specs.Questions.{Said, ask, identity_asked, ask_fix, fix_asked, ends_asked}
use Rattle.plain.specs.Board.{Plain, answer, after, outcome, accepted, targets_after, put, swept, leaves}
use Rattle.plain.specs.Code.{plain}
use Rattle.board.specs.Glance.{board_of, Under, Turns, Glanced, unless_refused, report_asked, put_at, at_report, set_by, at_setting, glance}
use Rattle.questions.proofs.Chains.{ask-ask, ask-fix, ask-ends}
use Rattle.targets.proofs.Arrays.{absent, length-map, held_below}
use Rattle.targets.proofs.Slots.{found_at, take-bared}
use Rattle.plain.proofs.Listed.{at-most-le}
use Rattle.targets.proofs.Spots.{stands_at}
use Rattle.plain.proofs.Played.{heard-refused}

-- ---- identities

-- a search of the identities is one of the entries
pub sought : (es : List Target) (ids : List ℕ) (n x : ℕ) → take n ids ≡ map identity_of (take n es) → spot_in 0 x (take n ids) ≡ spot_from 0 x (take n es)
unfolding spot_from
sought es ids n x e = ap (spot_in 0 x) e

-- ---- questions

-- the questions of a report, and then others
report-asks : (i : ℕ) (f : Fix) (a : Answer) → ask (report_asked i f) a ≡ ask (identity_asked i) (ask_fix f a)
report-asks i f a = ask-ask (identity_asked i) (fix_asked f) a ∙ ap (ask (identity_asked i)) (ask-fix f a)

-- ---- a refused call, a report of a held identity, an own ship or a track

module _ (s : Setting) (ids : List ℕ) where
  stays : (c : Call) (r : Refusal) → ((es : List Target) → answer (plain (board_of s es)) c ≡ Err r)
      → (es : List Target) → Turns (board_of s es) c (Err r) (board_of s es)
  stays c r h es = record { answers = h es; leaves = sym (heard-refused (board_of s es) c (Err r) (sym (h es)) refl) }

  -- the identity stands at p
  module _ (i p : ℕ) (f : Fix) (h : spot_in 0 i (take (at_most s.count) ids) ≡ Ok p) (es : List Target) (u : Under s ids es) where
    abbrev reported : Target
    reported = record { identity = i; held = record { report = vehicle f; line = None } }

    at : spot_from 0 i (take (at_most s.count) es) ≡ Ok p
    at = sym (sought es ids (at_most s.count) i u.same) ∙ h

    puts-below : p < most_targets
    puts-below = omega (arith, held_below i (at_most s.count) es p at, at-most-le s.count)

    puts-under : Under s ids (set es p reported)
    puts-under =
        let n = at_most s.count in
        let below = held_below i n es p at in
        record {
          length_is = length-set es p reported ∙ u.length_is;
          same =
              u.same
              ∙ sym (ap (map identity_of) (take-set-lt n es p reported below)
              ∙ map-set_same identity_of (take n es) p reported absent (sym (stands_at i (take n es) p at).named));
        }

    puts-turns : report_asked i f ≡ Ok tt → Turns (board_of s es) (Report i f) (Ok None) (board_of s (set es p reported))
    unfolding answer after outcome accepted targets_after put swept named leaves plain board_of listed
    puts-turns d =
        let n = at_most s.count in
        let found = found_at es n u.length_is (at-most-le s.count) i p at in
        let done : answer (plain (board_of s es)) (Report i f) ≡ Ok None = sym (report-asks i f _) ∙ rw (d, found) in
        let stored = sym ((stands_at i (take n es) p at).stored reported.held) ∙ sym (take-set-lt n es p reported (held_below i n es p at)) in
        record { answers = done; leaves = rw (done, stored) }

bared-names : (n : ℕ) (es : List Target) → map identity_of (take n (map bare_target es)) ≡ map identity_of (take n es)
bared-names zero es = refl
bared-names (suc n) [] = refl
bared-names (suc n) (e ∷ es) = ap (λ (l : List ℕ). e.identity ∷ l) (bared-names n es)

-- the call sets an own ship or a track, and this is what every board says to its questions
record Sets (c : Call) (q : Said) : Type 0 where
  names_none : named c ≡ None
  sweeps : (l : List Target) → swept c l ≡ bared l
  answer_is : (b : Plain) → answer b c ≡ ask q (Ok None)

-- an own ship or a track that is accepted
module _ (s : Setting) (ids : List ℕ) (c : Call) (q : Said) (k : Sets c q) (yes : q ≡ Ok tt) (es : List Target) (u : Under s ids es) where
  sweeps-under : Under (set_by c s) ids (map bare_target es)
  sweeps-under = record { length_is = length-map bare_target es ∙ u.length_is; same = u.same ∙ sym (bared-names (at_most s.count) es) }

  sweeps-turns : Turns (board_of s es) c (Ok None) (board_of (set_by c s) (map bare_target es))
  unfolding after outcome accepted targets_after put plain board_of listed
  sweeps-turns =
      let done : answer (plain (board_of s es)) c ≡ Ok None = k.answer_is (plain (board_of s es)) ∙ rw yes in
      record { answers = done; leaves = rw (done, k.names_none, k.sweeps (take (at_most s.count) es), take-bared (at_most s.count) es) }

sets-own : (f : Fix) → Sets (OwnShip f) (fix_asked f)
unfolding named swept answer
sets-own f = record { names_none = refl; sweeps = λ l. refl; answer_is = λ b. sym (ask-fix f (Ok None)) }

sets-track : (s e : Coordinates) → Sets (Track s e) (ends_asked s e)
unfolding named swept answer
sets-track s e = record { names_none = refl; sweeps = λ l. refl; answer_is = λ b. sym (ask-ends s e (Ok None)) }

-- ---- the hint of a call

module _ (s : Setting) (ids : List ℕ) where
  -- a hint is right where a refusal stays and what is accepted is right
  unless-refused : (c : Call) (q : Said) (h : Option Hint) → ((r : Refusal) → q ≡ Err r → (es : List Target) → answer (plain (board_of s es)) c ≡ Err r)
      → (q ≡ Ok tt → Glanced s ids c h) → Glanced s ids c (unless_refused q h)
  unfolding Glanced
  unless-refused c (Ok tt) h refused right = right refl
  unless-refused c (Err r) h refused right = λ es u. stays s ids c r (refused r refl) es

  put_right : (i : ℕ) (f : Fix) (k : Result ℕ ℕ) → spot_in 0 i (take (at_most s.count) ids) ≡ k → report_asked i f ≡ Ok tt
      → Glanced s ids (Report i f) (put_at k i f)
  unfolding Glanced
  put_right i f (Ok p) h d = λ es u. (puts-below s ids i p f h es u, puts-under s ids i p f h es u, puts-turns s ids i p f h es u d)
  put_right i f (Err p) h d = tt

  report-right : (i : ℕ) (f : Fix) → Glanced s ids (Report i f) (at_report s.count ids i f)
  unfolding at_report answer
  report-right i f =
      unless-refused (Report i f) (report_asked i f) (put_at (spot_in 0 i (take (at_most s.count) ids)) i f)
      (λ r e es. sym (report-asks i f _) ∙ rw e) (λ yes. put_right i f (spot_in 0 i (take (at_most s.count) ids)) refl yes)

  setting-right : (c : Call) (q : Said) → Sets c q → Glanced s ids c (at_setting s c q)
  unfolding at_setting Glanced
  setting-right c q k =
      unless-refused c q (Some (Sweeps (set_by c s))) (λ r e es. k.answer_is (plain (board_of s es)) ∙ rw e)
      (λ yes es u. (sweeps-under s ids c q k yes es u, sweeps-turns s ids c q k yes es u))

-- what a glance tells is right of every board of the setting whose targets have the identities
pub glanced : (s : Setting) (ids : List ℕ) (c : Call) → Glanced s ids c (glance s ids c)
unfolding glance Glanced
glanced s ids (Report i f) = report-right s ids i f
glanced s ids (Withdraw i) = tt
glanced s ids (OwnShip f) = setting-right s ids (OwnShip f) (fix_asked f) (sets-own f)
glanced s ids (Track from to) = setting-right s ids (Track from to) (ends_asked from to) (sets-track from to)
glanced s ids (Solve i) = tt
