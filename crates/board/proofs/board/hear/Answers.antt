-- `hear` meets its contract. A refused call leaves the board; an accepted one leaves the array that its change makes, and that stands for
-- the plain board's targets.
use native.Mathlib.Omega.{arith}
use Prim.Native.Nat.{◌<◌, ◌≤◌}
use Rattle.std.specs.Prelude.{Ok, Option, Some}
use Rattle.std.proofs.iter.Serving.{serving}
use Rattle.targets.specs.Slots.{spot_from}
use Rattle.targets.proofs.Arrays.{held_below}
use borrow.Author.Rules.{rules}
use lib.ListN.{length}
use mathlib.Core.Bool.{false≢true, not}
use mathlib.Core.Path.{◌≡◌, refl, sym, ap, subst, ◌∙◌}
use Rattle.targets.specs.declared.Change.{Change}
use Rattle.targets.specs.declared.Change.TheVariants.{Stores}
use Rattle.plain.specs.Targets.{most_targets, at_most}
use Rattle.plain.specs.Code.{plain}
use Rattle.board.specs.Change.{entries_after, Within}
use Rattle.board.specs.Glance.{board_of, setting_of}
use Rattle.plain.proofs.Listed.{at-most-le}
use Rattle.plain.proofs.Played.{heard-refused}
use Rattle.board.proofs.Changes.{sought-is, answered-of, ok-accepted, within-is, changed-is}
use Rattle.board.proofs.board.hear.Goals as goal
use Rattle.board.proofs.board.hear.Goals.{in-None, in-Some-Stores, in-Some-Inserts, in-Some-Removes, in-Some-Sweeps}

-- a place that the search gives is one of the entries
pub map-found-requires : goal.map-found-requires
unfolding spot_from
map-found-requires c = λ p e.
    let at : c.seek-spot.result ≡ Ok p = search rules in
    let w = held_below c.name_of.result c.least-n.result c.args.board.targets.entries p (sym c.seek-spot.ensures.value ∙ at) in
    let m : c.least-n.result ≤ most_targets = rw c.least-n.ensures (at-most-le c.args.board.targets.count) in
    let full : length c.args.board.targets.entries ≡ most_targets = search rules in
    grind (serving, arith, w, m, full)

pub returns-then-is_err : goal.returns-then-is_err
unfolding plain spot_from
returns-then-is_err c =
    let a = c.args in
    let s = sought-is a.board.targets _ _ _ _ _ c.seek-spot.ensures.value (search rules) c.least-n.ensures c.name_of.ensures (search rules) in
    let k = answered-of a.board a.call _ _ _ _ c.setting_of-setting.ensures c.answer_of-answer.ensures c.least-n.ensures s.0.found_is s.1 in
    record {
      answer_is = k;
      board_is = heard-refused a.board a.call _ k (ok-accepted c.answer_of-answer.result ∙ c.is_err.ensures.negation ∙ ap not c.if-is_err.true);
      refused_keeps = λ e. refl;
    }

-- a target that takes the place of another takes that of one of the entries
place-below : (c : goal.In-Some-Stores) → c.in-Some-Stores.p < most_targets
unfolding Within spot_from
place-below c =
    let a = c.args in
    let full : length a.board.targets.entries ≡ most_targets = search rules in
    let s = sought-is a.board.targets _ _ _ _ _ c.seek-spot.ensures.value (search rules) c.least-n.ensures c.name_of.ensures full in
    let w = within-is a.board a.call _ _ _ _ full s.0.spot_is s.0.found_is c.change_of-change.ensures in
    let told : c.in-Some-Stores.field-0 ≡ Stores c.in-Some-Stores.p c.in-Some-Stores.t = rw c.in-Some-Stores.is at c.in-Some-Stores.field-0-is in
    let v = subst (λ (r : Option Change). Within r (at_most a.board.targets.count)) (c.in-Some-Stores.is ∙ ap Some told) w in
    omega (arith, v, at-most-le a.board.targets.count)

pub offset_bounds-entries-p : goal.offset_bounds-entries-p
offset_bounds-entries-p c = omega (arith, place-below c)

pub bounds-entries-p : goal.bounds-entries-p
bounds-entries-p c = place-below c

pub returns : goal.returns
unfolding entries_after board_of setting_of spot_from
returns c =
    let a = c.args in
    let full : length a.board.targets.entries ≡ most_targets = search rules in
    let n = c.least-n.ensures in
    let s = sought-is a.board.targets _ _ _ _ _ c.seek-spot.ensures.value (search rules) n c.name_of.ensures full in
    let q = answered-of a.board a.call _ _ _ _ c.setting_of-setting.ensures c.answer_of-answer.ensures c.least-n.ensures s.0.found_is s.1 in
    let yes' = ok-accepted c.answer_of-answer.result ∙ c.is_err.ensures.negation ∙ ap not c.if-is_err.false in
    -- each arm leaves what its change makes of the entries
    let arms : c.match-change.entries ≡ entries_after c.change_of-change.result a.board.targets.entries =
    elim c.match-change.branch [
      | in-None w ↦ rw (w.entries-is, w.in-None.is) refl
      | in-Some-Stores w ↦ let i = w.in-Some-Stores in rw (w.entries-is, i.is, rw i.is at i.field-0-is) refl
      | in-Some-Inserts w ↦ let i = w.in-Some-Inserts in rw (w.entries-is, w.inserted-entries.ensures, i.is, rw i.is at i.field-0-is) refl
      | in-Some-Removes w ↦ let i = w.in-Some-Removes in rw (w.entries-is, w.closed-entries.ensures, i.is, rw i.is at i.field-0-is) refl
      | in-Some-Sweeps w ↦ let i = w.in-Some-Sweeps in rw (w.entries-is, w.bared-entries.ensures, i.is, rw i.is at i.field-0-is) refl
    ] in
    record {
      answer_is = q;
      board_is =
          rw (c.board_of.ensures, c.total_after.ensures, c.track_after.ensures, c.own_after.ensures, c.setting_of-setting.ensures)
          (changed-is a.board a.call _ _ _ _ full s.0.spot_is s.0.found_is c.change_of-change.ensures _ _ q yes' arms (c.count_after.ensures ∙ rw n refl));
      refused_keeps = λ e. absurd (false≢true (sym e ∙ yes'));
    }
