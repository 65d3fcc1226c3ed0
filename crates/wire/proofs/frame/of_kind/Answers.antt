-- A line with as many digits as its kind says what the kind does.
use Prim.Native.Nat.{ℕ, ◌≤◌}
use mathlib.Core.List.{List}
use mathlib.Core.Path.{◌≡◌, refl, sym, ◌∙◌, ap}
use native.Mathlib.Omega.{arith}
use borrow.Author.Tests.{eq-eqb, ne_eqb}
use lib.ListN.{length}
use Rattle.std.specs.Prelude.{Some}
use Rattle.unhex.specs.Digits.{lows_in}
use Rattle.wire.specs.declared.frame.Frame.{Frame}
use Rattle.wire.specs.declared.kind.Kind.{Kind}
use Rattle.wire.specs.declared.frame.Frame.TheVariants as frame
use Rattle.wire.proofs.Rests.{float-on, coordinates-on, fix-on, identity-on}
use Rattle.wire.specs.Frame.{said, of_kind}
use Rattle.wire.specs.Kind.{digits_of}
use Rattle.wire.proofs.frame.of_kind.Goals as goal

-- a frame by the kind that is told apart
told : (s : List ℕ) (n : ℕ) {kind k : Kind} {f : Frame} → n ≡ digits_of kind → length s ≡ n → kind ≡ k → f ≡ said lows_in k s → Some f ≡ of_kind lows_in (Some kind) s
unfolding of_kind
told s n d l k e = rw (eq-eqb _ _ (l ∙ d)) (ap Some (e ∙ ap (λ (x : Kind). said lows_in x s) (sym k)))

pub returns-then-s-digits : goal.returns-then-s-digits
unfolding of_kind
returns-then-s-digits c = rw (ne_eqb _ _ (λ e. c.if-s-digits.true (e ∙ sym c.digits.ensures)))

-- a line with as many digits as its kind has has so many
long : (s : List ℕ) {n : ℕ} {kind k : Kind} (m : ℕ) → length s ≡ n → n ≡ digits_of kind → kind ≡ k → m ≤ digits_of k → m ≤ length s
long s m l d k h = omega (arith, l, d, ap digits_of k, h)

pub returns-in-Fresh : goal.returns-in-Fresh
unfolding said
returns-in-Fresh c =
    let s = c.args.s.now in
    let h2 : 2 ≤ length s = long s 2 c.if-s-digits.false c.digits.ensures c.in-Fresh.is (omega arith) in
    told _ _ c.digits.ensures c.if-s-digits.false c.in-Fresh.is (ap frame.Fresh (c.float.ensures ∙ float-on s 2 h2 0 2 refl))

pub returns-in-Report : goal.returns-in-Report
unfolding said
returns-in-Report c =
    let s = c.args.s.now in
    let h2 : 2 ≤ length s = long s 2 c.if-s-digits.false c.digits.ensures c.in-Report.is (omega arith) in
    let h6 : 6 ≤ length s = long s 6 c.if-s-digits.false c.digits.ensures c.in-Report.is (omega arith) in
    told _ _ c.digits.ensures c.if-s-digits.false c.in-Report.is (rw (c.identity.ensures ∙ identity-on s 2 h2 refl, c.fix.ensures ∙ fix-on s 6 h6 6 refl) refl)

pub returns-in-Withdraw : goal.returns-in-Withdraw
unfolding said
returns-in-Withdraw c =
    let s = c.args.s.now in
    let h2 : 2 ≤ length s = long s 2 c.if-s-digits.false c.digits.ensures c.in-Withdraw.is (omega arith) in
    told _ _ c.digits.ensures c.if-s-digits.false c.in-Withdraw.is (rw (c.identity-in-Withdraw.ensures ∙ identity-on s 2 h2 refl) refl)

pub returns-in-OwnShip : goal.returns-in-OwnShip
unfolding said
returns-in-OwnShip c =
    let s = c.args.s.now in
    let h2 : 2 ≤ length s = long s 2 c.if-s-digits.false c.digits.ensures c.in-OwnShip.is (omega arith) in
    told _ _ c.digits.ensures c.if-s-digits.false c.in-OwnShip.is (rw (c.fix-in-OwnShip.ensures ∙ fix-on s 2 h2 2 refl) refl)

pub returns-in-Track : goal.returns-in-Track
unfolding said
returns-in-Track c =
    let s = c.args.s.now in
    let h2 : 2 ≤ length s = long s 2 c.if-s-digits.false c.digits.ensures c.in-Track.is (omega arith) in
    let h50 : 50 ≤ length s = long s 50 c.if-s-digits.false c.digits.ensures c.in-Track.is (omega arith) in
    told _ _ c.digits.ensures c.if-s-digits.false c.in-Track.is (rw (
      c.coordinates.ensures ∙ coordinates-on s 2 h2 0 2 refl,
      c.coordinates-in-Track.ensures ∙ coordinates-on s 50 h50 0 50 refl,
    ) refl)

pub returns-in-Solve : goal.returns-in-Solve
unfolding said
returns-in-Solve c =
    let s = c.args.s.now in
    let h2 : 2 ≤ length s = long s 2 c.if-s-digits.false c.digits.ensures c.in-Solve.is (omega arith) in
    told _ _ c.digits.ensures c.if-s-digits.false c.in-Solve.is (rw (c.identity-in-Solve.ensures ∙ identity-on s 2 h2 refl) refl)

pub returns-in-Mean : goal.returns-in-Mean
unfolding said
returns-in-Mean c = told _ _ c.digits.ensures c.if-s-digits.false c.in-Mean.is (cc)

pub returns-in-Pick : goal.returns-in-Pick
unfolding said
returns-in-Pick c = told _ _ c.digits.ensures c.if-s-digits.false c.in-Pick.is (cc)

pub returns-in-Total : goal.returns-in-Total
unfolding said
returns-in-Total c = told _ _ c.digits.ensures c.if-s-digits.false c.in-Total.is (cc)
