-- `lines` meets its contract.
use mathlib.Core.Bool.{Bool, false}
use mathlib.Core.List.{List, map}
use Prim.Native.Nat.{ℕ, ◌+◌, ◌-◌, ◌<◌, ◌≤◌}
use mathlib.Core.Path.{◌≡◌, refl, sym, ap, ◌∙◌, subst}
use native.Mathlib.Omega.{arith}
use borrow.Author.Tests.{eqb-true}
use lib.ListN.{length, take, drop, get_or, length-drop}
use lib.Seq.{drop-drop, get_or-drop, length-take-le}
use Rattle.frames.specs.Line.{least, EndsAt, Joined}
use Rattle.frames.proofs.Spans.{to-end}
use Rattle.wire.specs.Frame.{frame_of}
use Rattle.frames.specs.Stream.{Model, room}
use Rattle.frames.specs.Whole.{newline}
use Rattle.frames.proofs.Feeds.{opening-none, feeding, passed-fresh, ends_same, waits-room, waits-not}
use Rattle.wire.proofs.Lines.{known-frame}
use Rattle.frames.proofs.Turns.{Passed, passed-bytes, passed-step, passed-from}
use Rattle.frames.specs.Turn.{waits}
use Rattle.std.specs.Prelude.{Option, Some}
use Rattle.std.proofs.Common.{rules}
use Rattle.plain.specs.Targets.{most_targets}
use Rattle.plain.specs.declared.targets.Target.{Target}
use Rattle.targets.specs.Slots.{identity_of}
use Rattle.board.specs.declared.glance.Setting.{Setting}
use Rattle.wire.specs.declared.frame.Frame.{Frame}
use Rattle.wire.specs.declared.kind.Kind.{Kind}
use Rattle.sessions.specs.declared.session.Session.{Session}
use Rattle.sessions.specs.declared.quick.Quick.{Quick}
use Rattle.sessions.specs.declared.quick.Quick.TheVariants.{Puts}
use Rattle.sessions.specs.Session.{Stepping}
use Rattle.sessions.specs.Quick.{session_of, Quickly, look}
use Rattle.sessions.proofs.Quicks.{quickly, standing-own}
use Rattle.frames.proofs.stream.lines.Goals as goal
use Rattle.frames.proofs.stream.lines.Goals.{in-Some-Stays, in-Some-Puts, in-Some-Sweeps, in-None, else-loop-span-test, then-loop-span-test+then-waits}

-- no more is left than there was
left-long : (xs rest : List ℕ) → rest ≡ drop (length xs - length rest) xs → length rest ≤ length xs
left-long xs rest e = omega (arith, ap (λ (z : List ℕ). length z) e, length-drop (length xs - length rest) xs)

-- what is left past a line of n bytes and its newline
left-after : (xs rest : List ℕ) (n : ℕ) → rest ≡ drop (length xs - length rest) xs → n < length rest
    → (take (length rest - (n + 1)) (drop (n + 1) rest) ≡ drop (length xs - length rest + (n + 1)) xs)
    × (length xs - length (take (length rest - (n + 1)) (drop (n + 1) rest)) ≡ length xs - length rest + (n + 1))
left-after xs rest n e h =
    let r : take (length rest - (n + 1)) (drop (n + 1) rest) ≡ drop (n + 1) rest = to-end rest (n + 1) in
    let l = ap (λ (z : List ℕ). length z) r ∙ length-drop (n + 1) rest in (
      r ∙ ap (λ (z : List ℕ). drop (n + 1) z) e ∙ drop-drop (n + 1) (length xs - length rest) xs,
      omega (arith, l, left-long xs rest e),
    )

pub loop-span-init : goal.loop-span-init
loop-span-init c =
    let none : length c.args.xs.now - length c.args.xs.now ≡ 0 = omega arith in
    record { left = rw none refl; passed = rw none (opening-none c.args.xs.now c.args.page.now _) }

-- a line that does not wait ends in the piece, and any reply to it fits
goes : {m : Model} {xs page₀ page line : List ℕ} {s : Session} {at i : ℕ} → Passed m xs page₀ page s line at i
    → (e n : ℕ) (b : Bool) → b ≡ waits e n (length page - at) → b ≡ false → (e < n) × (at + room ≤ length page)
goes p e n b w h =
    let g = waits-not _ _ _ (sym w ∙ h) in
    let r = p.wrote in
    (g.0, omega (arith, g.1, r.within, r.length_is))

pub put_reply_line-next-requires : goal.put_reply_line-next-requires
put_reply_line-next-requires c = (goes c.loop-span.invariant.passed _ _ _ c.waits.ensures c.if-waits.false).1

pub overflow_add-rest : goal.overflow_add-rest
overflow_add-rest c =
    omega (arith, c.well_formed.1.0.0, (goes c.loop-span.invariant.passed _ _ _ c.waits.ensures c.if-waits.false).0, left-long c.args.xs.now _ c.loop-span.invariant.left)

pub slice_bounds-rest-count : goal.slice_bounds-rest-count
slice_bounds-rest-count c = omega (arith, (goes c.loop-span.invariant.passed _ _ _ c.waits.ensures c.if-waits.false).0)

pub slice_bounds-rest-start : goal.slice_bounds-rest-start
slice_bounds-rest-start c =
    let h : c.line_at-span.result.end + 1 ≤ length c.loop-span.rest.now = omega (arith, (goes c.loop-span.invariant.passed _ _ _ c.waits.ensures c.if-waits.false).0) in h

pub loop-span-smaller : goal.loop-span-smaller
loop-span-smaller c =
    let n = c.line_at-span.result.end in
    let g = (goes c.loop-span.invariant.passed _ _ _ c.waits.ensures c.if-waits.false).0 in
    omega (arith, g, ap (λ (z : List ℕ). length z) (to-end c.loop-span.rest.now (n + 1)), length-drop (n + 1) c.loop-span.rest.now)

-- what has passed up to an equal place
passed-at : {m : Model} {xs page₀ page line : List ℕ} {s : Session} {at i j : ℕ} → i ≡ j → Passed m xs page₀ page s line at i → Passed m xs page₀ page s line at j
passed-at {m} {xs} {page₀} {page} {line} {s} {at} e v = subst (λ (k : ℕ). Passed m xs page₀ page s line at k) e v

-- what the quick look tells is right
looked : (o : Option Setting) (es : List Target) (f : Option Frame) {q r : Option Quick} → q ≡ look o (map identity_of es) f → q ≡ r
    → Quickly o (map identity_of es) f r
looked o es f e t = subst (Quickly o (map identity_of es) f) (sym e ∙ t) (quickly o (map identity_of es) f)

-- a place that it gives is one of the entries
place-below : (o : Option Setting) (es : List Target) (f : Option Frame) {q : Option Quick} {k : Kind} {p : ℕ} {t : Target}
    → q ≡ look o (map identity_of es) f → q ≡ Some (Puts k p t) → length es ≡ most_targets → p < most_targets
unfolding Quickly
place-below o es f e t l = (looked o es f e t es (standing-own o es l)).0

pub offset_bounds-parts-p : goal.offset_bounds-parts-p
offset_bounds-parts-p c =
    let p = c.loop-span.parts in
    let h = place-below p.setting p.entries c.read_known-frame.result c.look.ensures.value (c.in-Some-Puts.is ∙ ap Some c.in-Some-Puts.field-0-is) (search rules) in
    omega (arith, h)

pub bounds-parts-p : goal.bounds-parts-p
bounds-parts-p c =
    let p = c.loop-span.parts in
    rw c.in-Some-Puts.field-0-is
    (place-below p.setting p.entries c.read_known-frame.result c.look.ensures.value (c.in-Some-Puts.is ∙ ap Some c.in-Some-Puts.field-0-is) (search rules))

-- the reply and the parts after a line are those of a step
answered : (c : goal.After-rest-1)
    → Stepping (session_of c.loop-span.parts.setting c.loop-span.parts.entries) c.read_known-frame.result
    (record { session = session_of c.match-look.parts.setting c.match-look.parts.entries; reply = c.match-look.reply })
unfolding Quickly
answered c =
    let p = c.loop-span.parts in
    let l : length p.entries ≡ most_targets = search rules in
    let u = standing-own p.setting p.entries l in
    elim c.match-look.branch [
      | in-Some-Stays w ↦
          let i = w.in-Some-Stays in
          let h = looked p.setting p.entries c.read_known-frame.result c.look.ensures.value (i.is ∙ ap Some i.field-0-is) p.entries u in
          rw (w.parts-is, w.reply-is, i.field-0-is) h
      | in-Some-Puts w ↦
          let i = w.in-Some-Puts in
          let h = looked p.setting p.entries c.read_known-frame.result c.look.ensures.value (i.is ∙ ap Some i.field-0-is) p.entries u in
          rw (w.parts-is, w.reply-is, i.field-0-is) h.2
      | in-Some-Sweeps w ↦
          let i = w.in-Some-Sweeps in
          let h = looked p.setting p.entries c.read_known-frame.result c.look.ensures.value (i.is ∙ ap Some i.field-0-is) p.entries u in
          rw (w.parts-is, w.reply-is, i.field-0-is, w.bared-parts.ensures) h.1
      | in-None w ↦ rw (w.parts-is, w.reply-is, w.parts_of-parts-in-None.ensures.same, ← w.session_of.ensures) w.step-stepped.ensures
    ]

pub loop-span-preserved : goal.loop-span-preserved
loop-span-preserved c =
    let l = c.loop-span in
    let span = c.line_at-span.ensures in
    let xs = c.args.xs.now in
    let r = l.invariant.left in
    let i = length xs - length l.rest.now in
    let n = subst (λ (z : List ℕ). EndsAt z c.line_at-span.result.end) r span.ends_at in
    let here = goes l.invariant.passed _ _ _ c.waits.ensures c.if-waits.false in
    let g : (i + c.line_at-span.result.end < length xs) × (l.next + room ≤ length l.page) = (omega (arith, here.0, left-long xs l.rest.now r), here.1) in
    let e = sym (get_or-drop i xs c.line_at-span.result.end 0) ∙ n.ends (omega (arith, g.0, length-drop i xs)) in
    let f = c.read_known-frame.ensures.value ∙ known-frame _ span.digits_are ∙ ap (λ (z : List ℕ). frame_of (take c.line_at-span.result.end z)) r in
    let v = passed-bytes l.invariant.passed n.passes in
    let after = left-after xs l.rest.now c.line_at-span.result.end r here.0 in
    let next : i + c.line_at-span.result.end + 1 ≡ i + (c.line_at-span.result.end + 1) = omega arith in
    record {
      left = after.0 ∙ ap (λ (j : ℕ). drop j xs) (sym after.1);
      passed =
          passed-at (next ∙ sym after.1)
          (passed-step v g.0 e g.1 f (answered c) refl c.put_reply_line-next.ensures);
    }

pub returns : goal.returns
returns c =
    let a = c.args in
    let l = c.loop-span in
    let e = c.end_of_line-end in
    let xs = a.xs.now in
    let r = l.invariant.left in
    let i = length xs - length l.rest.now in
    let n = subst (λ (z : List ℕ). EndsAt z e.result) r e.ensures in
    let j = subst (λ (z : List ℕ). Joined a.s.line 0 (take e.result z) c.joined-line.result) r c.joined-line.ensures in
    let v = passed-fresh a.s c.requires (passed-from c.parts_of-parts.ensures.same (passed-bytes l.invariant.passed n.passes)) in
    let k : length (take e.result (drop i xs)) ≡ e.result = length-take-le _ _ n.passes.within in
    let t = ap (λ (m : ℕ). take m c.joined-line.result) (c.kept_of-n.ensures ∙ ap (λ (m : ℕ). least (0 + m)) (sym k)) ∙ j.text in
    let w = l.invariant.passed.wrote in
    let stops : i + e.result < length xs → (get_or xs (i + e.result) 0 ≡ newline) × (length a.page.now < l.next + room) =
    λ h. elim c.loop-span-test.branch [
      | else-loop-span-test z ↦
          let none = eqb-true (length l.rest.now) 0 (sym c.is_empty.ensures ∙ z.loop-span-test.false) in
          absurd (omega (arith, h, n.passes.within, length-drop i xs, none, left-long xs l.rest.now r))
      | then-loop-span-test+then-waits z ↦
          let d = ends_same _ e.ensures z.line_at-span.ensures.ends_at in
          let b = sym (get_or-drop i xs e.result 0) ∙ n.ends (omega (arith, length-drop i xs)) in
          (b, omega (arith, waits-room _ _ _ (sym z.waits.ensures ∙ z.if-waits.true) (omega (arith, h, d, left-long xs l.rest.now r)), w.length_is, w.within))
    ] in
    rw c.session_of-session.ensures (feeding a.s _ _ v t stops)
