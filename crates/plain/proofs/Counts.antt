-- Every count in a line that a call returns, or that stands on the board, is from 1 to 50.
use Rattle.std.specs.Prelude.{Option, Some, None, Result, Ok, Err}
use Prim.Native.Nat.{ℕ}
use mathlib.Core.Bool.{Bool, true, false, cond}
use mathlib.Core.List.{List, [], ◌∷◌}
use lib.Dec.{eqb}
use lib.Ieee.{Float}
use lib.ListN.{length}
use Rattle.jord.specs.Length.{from_metres}
use Rattle.walks.proofs.Counts.{counts-cpa, counts-intercept, counts-longest}
use Rattle.plain.specs.declared.call.Refusal.{Refusal}
use Rattle.plain.specs.declared.line.Line.{Line}
use Rattle.plain.specs.declared.line.Scene.{Scene}
use Rattle.plain.specs.declared.call.Coordinates.{Coordinates}
use Rattle.plain.specs.declared.call.Fix.{Fix}
use Rattle.plain.specs.declared.call.Call.{Call}
use Rattle.plain.specs.declared.call.Call.TheVariants.{Report, Withdraw, OwnShip, Track, Solve}
use Rattle.plain.specs.Call.{Answer}
use Rattle.plain.specs.Line.{solve_line}
use Rattle.plain.specs.Targets.{find}
use Rattle.plain.specs.Questions.{Said, ask, identity_asked, fix_finite_asked, fix_unit_asked, speed_asked, ask_fix, ends_finite_asked, ends_unit_asked}
use Rattle.plain.specs.Questions.{circle_asked, ask_ends, held_asked, room_asked, see, solved}
use Rattle.plain.specs.Board.{Plain, answer, after, answers}
use Rattle.plain.specs.History.{heard, accepts, line_given, new_line, hear_line, last_line}
use Rattle.plain.specs.Demand3.{CountsFit, AnswerFits, AnswersFit, LineFits}
use Rattle.plain.proofs.Steps.{ask-elim}

-- of what a solve computes this alone is used
solve-fits : (r : Float) (v : Scene) → CountsFit (solve_line r v)
unfolding solve_line
solve-fits r v =
    record {
      closest = counts-cpa (from_metres r) v.own v.report;
      meeting = counts-intercept (from_metres r) v.own.position v.own.speed v.report;
      longest = counts-longest (from_metres r) v.own.position v.report;
    }

fits-ask : (s : Said) (a : Answer) → AnswerFits a → AnswerFits (ask s a)
fits-ask s a h = ask-elim AnswerFits s a (λ r. tt) h

fits-solved : (r : Float) (s : Result Scene Refusal) → AnswerFits (solved r s)
fits-solved r (Err n) = tt
fits-solved r (Ok v) = solve-fits r v

fits-fix : (f : Fix) (a : Answer) → AnswerFits a → AnswerFits (ask_fix f a)
fits-fix f a h =
    fits-ask (fix_finite_asked f) (ask (fix_unit_asked f) (ask (speed_asked f) a))
    (fits-ask (fix_unit_asked f) (ask (speed_asked f) a) (fits-ask (speed_asked f) a h))

fits-ends : (s e : Coordinates) (a : Answer) → AnswerFits a → AnswerFits (ask_ends s e a)
fits-ends s e a h =
    fits-ask (ends_finite_asked s e) (ask (ends_unit_asked s e) (ask (circle_asked s e) a))
    (fits-ask (ends_unit_asked s e) (ask (circle_asked s e) a) (fits-ask (circle_asked s e) a h))

answer-fits : (b : Plain) (c : Call) → AnswerFits (answer b c)
unfolding answer
answer-fits b (Report j f) =
    let last : Answer = ask (room_asked (find j b.targets) (length b.targets)) (Ok None) in
    fits-ask (identity_asked j) (ask_fix f last) (fits-fix f last (fits-ask (room_asked (find j b.targets) (length b.targets)) (Ok None) tt))
answer-fits b (Withdraw j) =
    let last : Said = held_asked (find j b.targets) in
    fits-ask (identity_asked j) (ask last (Ok None)) (fits-ask last (Ok None) tt)
answer-fits b (OwnShip f) = fits-fix f (Ok None) tt
answer-fits b (Track s e) = fits-ends s e (Ok None) tt
answer-fits b (Solve j) =
    let seen : Result Scene Refusal = see (find j b.targets) b.own b.track in
    fits-ask (identity_asked j) (solved b.radius seen) (fits-solved b.radius seen)

pub answers-fit : (b : Plain) (cs : List Call) → AnswersFit (answers b cs)
unfolding answers
answers-fit b [] = tt
answers-fit b (c ∷ cs) = (answer-fits b c, answers-fit (after b c) cs)

line-fits : (a : Answer) (x : Option Line) → AnswerFits a → LineFits x → LineFits (line_given a x)
unfolding line_given
line-fits (Ok None) x f h = h
line-fits (Ok (Some l)) x f h = f
line-fits (Err r) x f h = h

cond-fits : (c : Bool) (x y : Option Line) → LineFits x → LineFits y → LineFits (cond c x y)
cond-fits true x y f g = f
cond-fits false x y f g = g

new-fits : (i : ℕ) (c : Call) (a : Answer) (x : Option Line) → AnswerFits a → LineFits x → LineFits (new_line i c a x)
unfolding new_line
new-fits i (Report j f) a x k h = cond-fits (eqb i j) None x tt h
new-fits i (Withdraw j) a x k h = cond-fits (eqb i j) None x tt h
new-fits i (OwnShip f) a x k h = tt
new-fits i (Track s e) a x k h = tt
new-fits i (Solve j) a x k h = cond-fits (eqb i j) (line_given a x) x (line-fits a x k h) h

pub last_fits : (i : ℕ) (b : Plain) (cs : List Call) (x : Option Line) → LineFits x → LineFits (last_line i x (heard b cs))
unfolding last_line heard hear_line
last_fits i b [] x h = h
last_fits i b (c ∷ cs) x h =
    last_fits i (after b c) cs _
    (cond-fits (accepts (answer b c)) (new_line i c (answer b c) x) x (new-fits i c (answer b c) x (answer-fits b c) h) h)
