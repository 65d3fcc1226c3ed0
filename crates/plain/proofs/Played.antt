-- Every list of calls of the code answers as the plain board does and leaves its board: demand 3 of the code.
use mathlib.Core.Bool.{true, false}
use mathlib.Core.List.{List, [], ◌∷◌}
use mathlib.Core.Path.{◌≡◌, refl, sym, ◌∙◌, ap, ap₂}
use lib.Ieee.{Float}
use lib.ListN.{length}
use lib.Seq.{take_all}
use Prim.Native.Nat.{ℕ, ◌≤◌}
use Rattle.plain.specs.declared.state.Board.{Board}
use Rattle.plain.specs.declared.call.Call.{Call}
use Rattle.plain.specs.Call.{Answer}
use Rattle.plain.specs.Board.{Plain, fresh, answer, accepted, outcome, after, run, answers}
use Rattle.plain.specs.Code.{plain, cut, Played, ended, then, paired, RunsAlike, Demanded}
use Rattle.plain.specs.Asking.{mean, pick}
use Rattle.plain.specs.History.{Heard, heard, accepts}
use Rattle.plain.specs.Exchange.{identities, exchanged, MayExchange}
use Rattle.plain.proofs.Listed.{listed_le}
use Rattle.plain.proofs.Steps.{not-accepted, is-accepted}
use Rattle.plain.proofs.Room.{room_after}
use Rattle.plain.proofs.Demand3.{demand-3}
use Rattle.plain.specs.Targets.{most_targets}

cut_small : (p : Plain) → length p.targets ≤ most_targets → cut p ≡ p
unfolding cut
cut_small p h = rw (take_all most_targets p.targets h)

plain-small : (b : Board) → length (plain b).targets ≤ most_targets
unfolding plain
plain-small b = listed_le b.targets

-- a refused call of the code
pub heard-refused : (b : Board) (c : Call) (a : Answer) → a ≡ answer (plain b) c → accepts a ≡ false → plain b ≡ after (plain b) c
unfolding after
heard-refused b c a e r = sym (not-accepted (plain b) c a r) ∙ ap (outcome (plain b) c) e

-- an accepted call of the code
pub heard-accepted : (b : Board) (c : Call) (a : Answer) (q : Plain) → a ≡ answer (plain b) c → accepts a ≡ true
    → q ≡ cut (accepted (plain b) c a) → q ≡ after (plain b) c
unfolding after
heard-accepted b c a q e o h =
    let now : accepted (plain b) c a ≡ after (plain b) c = sym (is-accepted (plain b) c a o) ∙ ap (outcome (plain b) c) e in
    h ∙ ap cut now ∙ cut_small (after (plain b) c) (room_after (plain b) (plain-small b) c)

played : {b last : Board} {cs : List Call} {rs : List Answer} → Played b cs rs last
    → (rs ≡ answers (plain b) cs) × (plain last ≡ run (plain b) cs)
unfolding run answers
played ended = (refl, refl)
played (then {cs = cs} r h p) =
    let rest = played p in (
      ap₂ ◌∷◌ h.answer_is (rest.0 ∙ ap (λ (k : Plain). answers k cs) h.board_is),
      rest.1 ∙ ap (λ (k : Plain). run k cs) h.board_is,
    )

-- from a board that stands for a fresh one
played-fresh : (r : Float) {b last : Board} {cs : List Call} {rs : List Answer} → plain b ≡ fresh r → Played b cs rs last
    → (rs ≡ answers (fresh r) cs) × (plain last ≡ run (fresh r) cs)
played-fresh r {cs = cs} e p =
    let q = played p in (q.0 ∙ ap (λ (k : Plain). answers k cs) e, q.1 ∙ ap (λ (k : Plain). run k cs) e)

-- calls paired with the plain board's answers are what it heard
paired-heard : (b : Plain) (cs : List Call) → paired cs (answers b cs) ≡ heard b cs
unfolding paired answers heard
paired-heard b [] = refl
paired-heard b (c ∷ cs) = ap (λ (hs : List Heard). record { call = c; reply = answer b c } ∷ hs) (paired-heard (after b c) cs)

-- two runs of the code are alike where the plain board's are
runs-alike : (r : Float) (cs : List Call) (rs : List Answer) (last : Board) → (rs ≡ answers (fresh r) cs) × (plain last ≡ run (fresh r) cs)
    → length (identities cs) ≤ most_targets → (ps : List ℕ) → MayExchange ps cs
    → (rs' : List Answer) (last' : Board) → (rs' ≡ answers (fresh r) (exchanged ps cs)) × (plain last' ≡ run (fresh r) (exchanged ps cs))
    → RunsAlike ps cs rs last rs' last'
runs-alike r cs rs last q fits ps m rs' last' q' =
    let a = (demand-3 r cs).exchange fits ps m in
    let same : plain last' ≡ plain last = q'.1 ∙ a.same_board ∙ sym q.1 in
    record {
      same_board = same;
      same_mean = ap mean same;
      same_pick = ap pick same;
      same_answers =
          ap (paired (exchanged ps cs)) q'.0 ∙ paired-heard (fresh r) (exchanged ps cs) ∙ a.same_answers
          ∙ ap (exchanged ps) (sym (ap (paired cs) q.0 ∙ paired-heard (fresh r) cs));
    }

pub whole : (r : Float) (b : Board) → plain b ≡ fresh r → Demanded r b
whole r b e cs rs last p =
    let q = played-fresh r e p in
    record {
      answers_are = q.0;
      board_is = q.1;
      demand = demand-3 r cs;
      exchange = λ fits ps m b' rs' last' e' p'. runs-alike r cs rs last q fits ps m rs' last' (played-fresh r e' p');
    }
