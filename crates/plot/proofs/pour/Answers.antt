-- What is used makes up the piece.
use Rattle.std.proofs.Common.{◌-◌, ◌<◌, List, [], ◌∷◌, ◌++◌, Bool, true, false, ◌==◌, ℕ, length, take, drop, refl, sym, ap, subst, ◌≡◌, ◌∙◌, OnOk, arith}
use Rattle.std.proofs.Common.{take_all, length-drop, append_assoc, append-nil}
use borrow.Author.Tests.{eqb-true}
use Rattle.std.specs.declared.io.Error.{Error}
use Rattle.console.specs.declared.Failure.{Failure}
use Rattle.std.specs.Io.KnownBytes.{Appends}
use Rattle.std.proofs.KnownBytes.{Appends-nil, Appends-trans}
use Rattle.frames.specs.Stream.{fed_state, fed_text, view}
use Rattle.frames.proofs.Feeds.{fed-within, some-used}
use Rattle.frames.proofs.Pieces.{taken}
use Rattle.plot.proofs.Progress.{rest-state, rest-text}
use Rattle.plot.proofs.Whole.{named}
use Rattle.plot.proofs.pour.Goals as goal

-- is there anything left?
some-left : (xs : List ℕ) {b : Bool} → b ≡ (length xs == 0) → b ≡ false → 0 < length xs
some-left [] e f = let z : ⊥ = cc in absurd z
some-left (x ∷ xs) e f = omega arith

none-left : (xs : List ℕ) {b : Bool} → b ≡ (length xs == 0) → b ≡ true → xs ≡ []
none-left [] e t = refl
none-left (x ∷ xs) e t = let h = eqb-true (length (x ∷ xs)) 0 (sym e ∙ t) in absurd (omega arith)

-- all from a place on
rest : (xs : List ℕ) (u : ℕ) → take (length xs - u) (drop u xs) ≡ drop u xs
rest xs u = take_all (length xs - u) (drop u xs) (omega (arith, length-drop u xs))

pub loop-rest-init : goal.loop-rest-init
loop-rest-init g c = record { state = refl; text = ([], Appends-nil _, refl) }

pub slice_bounds-rest-count : goal.slice_bounds-rest-count
slice_bounds-rest-count g c = fed-within c.feed-fed.ensures.feeding

pub slice_bounds-rest-start : goal.slice_bounds-rest-start
slice_bounds-rest-start g c = fed-within c.feed-fed.ensures.feeding

pub loop-rest-smaller : goal.loop-rest-smaller
loop-rest-smaller g c =
    let f = c.feed-fed.ensures.feeding in
    let some : 0 < length c.loop-rest.rest.now = some-left _ c.is_empty.ensures c.loop-rest-test.true in
    let u : 0 < c.feed-fed.result.used = some-used f some (omega arith) in
    omega (arith, fed-within f, ap (λ (z : List ℕ). length z) (rest c.loop-rest.rest.now c.feed-fed.result.used), length-drop c.feed-fed.result.used c.loop-rest.rest.now)

pub loop-rest-preserved : goal.loop-rest-preserved
loop-rest-preserved g c =
    let l = c.loop-rest in
    let xs = l.rest.now in
    let f = c.feed-fed.ensures.feeding in
    let m = view l.s in
    let n = view c.feed-fed.result.stream in
    let u = c.feed-fed.result.used in
    let page = take c.feed-fed.result.next c.feed-fed.new.page in
    let after : List ℕ = take (length xs - u) (drop u xs) in
    let all : after ≡ drop u xs = rest xs u in
    let wrote : Appends (g.W.Write.contents l.out) (g.W.Write.contents c.write_all.new.self) page =
    subst (λ t. OnOk t (Appends (g.W.Write.contents l.out) (g.W.Write.contents c.write_all.new.self) page)) c.in_ok-map_err.was
    (named {T = Unit {0}} {E = Error} {F = Failure} (Appends (g.W.Write.contents l.out) (g.W.Write.contents c.write_all.new.self) page)
    _ c.write_all.result c.map_err.result c.map_err.ensures.cases
    c.write_all.ensures.bytes) in
    let t = l.invariant.text in
    record {
      state = ap (fed_state n) all ∙ rest-state m n xs u f.stream_is ∙ l.invariant.state;
      text = (
        t.0 ++ page,
        Appends-trans _ _ _ _ _ t.1 wrote,
        append_assoc t.0 page (fed_text n after)
            ∙ ap (λ (z : List ℕ). t.0 ++ z)
            (ap (λ (z : List ℕ). z ++ fed_text n after) (taken f.wrote) ∙ ap (λ (z : List ℕ). fed_text m (take u xs) ++ fed_text n z) all
            ∙ rest-text m n xs u f.stream_is)
            ∙ t.2,
      );
    }

pub returns-clause-poured : goal.returns-clause-poured
unfolding fed_state
returns-clause-poured g c =
    let none : c.loop-rest.rest.now ≡ [] = none-left _ c.is_empty.ensures c.loop-rest-test.false in
    ap (fed_state (view c.loop-rest.s)) (sym none) ∙ c.loop-rest.invariant.state

pub returns-clause-written : goal.returns-clause-written
unfolding fed_text
returns-clause-written g c =
    let none : c.loop-rest.rest.now ≡ [] = none-left _ c.is_empty.ensures c.loop-rest-test.false in
    let t = c.loop-rest.invariant.text in
    subst (λ z. Appends (g.W.Write.contents c.args.out.now) (g.W.Write.contents c.loop-rest.out) z)
    (sym (append-nil t.0) ∙ ap (λ (z : List ℕ). t.0 ++ fed_text (view c.loop-rest.s) z) (sym none) ∙ t.2) t.1
