-- `at_report` meets its contract. The questions before the last decide, and a held identity has its place.
use Rattle.std.proofs.Common.{rules, arith, ◌≡◌, refl, ◌∙◌, sym, ℕ, Some, None, Result, Ok, Err}
use Rattle.std.specs.Result.{result_ok}
use Rattle.plain.specs.declared.call.Fix.{Fix}
use Rattle.board.specs.Glance.{put_at, at_report}
use Rattle.board.proofs.glance.at_report.Goals as goal

pub returns-in-Err : goal.returns-in-Err
unfolding at_report
returns-in-Err g c = rw (← c.report_asked.ensures, c.in-Err.is)

-- where a search gives no place nothing is told, and else the target is put there
put-none : (r : Result ℕ ℕ) (i : ℕ) (f : Fix) → result_ok r ≡ None → put_at r i f ≡ None
put-none (Ok k) i f e = let z : ◌≡◌ {A = ℕ} 0 1 = cc in absurd (omega arith)
put-none (Err k) i f e = refl

put-some : (r : Result ℕ ℕ) (i : ℕ) (f : Fix) (p : ℕ) → result_ok r ≡ Some p → put_at r i f ≡ put_at (Ok p) i f
put-some (Ok k) i f p e = let z : k ≡ p = cc in rw z
put-some (Err k) i f p e = let z : ◌≡◌ {A = ℕ} 0 1 = cc in absurd (omega arith)

pub returns-in_err-p : goal.returns-in_err-p
unfolding at_report
returns-in_err-p g c =
    let a = c.args in
    let at = sym c.seek_first.ensures.value in
    let none : c.from_residual.result ≡ None = search rules in
    rw (none, ← c.report_asked.ensures, c.in_default.is, at) (sym (put-none c.seek_first.result a.identity a.fix (sym c.ok.ensures.value ∙ c.in_err-p.was)))

pub returns : goal.returns
unfolding at_report
returns g c =
    let a = c.args in
    let at = sym c.seek_first.ensures.value in
    rw (← c.report_asked.ensures, c.in_default.is, c.vehicle.ensures, at)
    (sym (put-some c.seek_first.result a.identity a.fix c.in_ok-p.p (sym c.ok.ensures.value ∙ c.in_ok-p.was)))
