-- `nearest_even` meets its contract.
use mathlib.Core.Path.{◌≡◌, sym, ap, ◌∙◌}
use Prim.Native.Nat.{ℕ, ◌+◌, ◌*◌, ◌-◌, ◌/◌, ◌%◌, ◌^◌, ◌≤◌}
use native.Mathlib.Omega.{arith}
use mathlib.Core.Bool.{Bool, true, not}
use lib.Dec.{eqb}
use lib.Ieee.Nearest.{closest}
use borrow.Author.Tests.{ne_eqb}
use Rattle.duration.specs.Duration.{second, settled}
use Rattle.duration.proofs.Places.{one_shifted, high, under, none, at-ten, past-ten}
use Rattle.duration.proofs.nearest_even.Goals as goal

pub returns-then-k-gt74 : goal.returns-then-k-gt74
returns-then-k-gt74 c = sym (none c.args.p.digits c.args.p.place c.args.p.digits_fit c.requires c.if-k-gt74.true)

pub returns-then-k-eq10 : goal.returns-then-k-eq10
returns-then-k-eq10 c = c.settle.ensures ∙ sym (at-ten c.args.p.digits c.args.p.place c.requires c.if-k-eq10.true)

-- the half's weight in `high`, as the code shifts it
abbrev half : ℕ → ℕ
half p = 1 * 2 ^ (1065 - p - 11) % 2 ^ 64

half_is : (p : ℕ) → p ≤ 1055 → 1065 - p ≤ 74 → half p ≡ 2 ^ (1065 - p - 11)
half_is p l h = one_shifted (1065 - p - 11) (omega arith)

by-half : (d p : ℕ) (rest : Bool) → p ≤ 1055 → (1065 - p ≡ 10 → ⊥) → 1065 - p ≤ 74 → rest ≡ not (eqb (high d % half p * 1024 + under d) 0)
    → settled (high d / half p / 2) (high d / half p % 2) rest ≡ closest (d * 2 ^ p * second) (2 ^ 1074)
by-half d p rest l n h e =
    ap (settled (high d / half p / 2) (high d / half p % 2)) e
    ∙ sym (past-ten d p (half p) l (omega arith) (half_is p l h))

pub returns-then-high-half-eq0 : goal.returns-then-high-half-eq0
returns-then-high-half-eq0 c =
    let d = c.args.p.digits in
    let z : high d % half c.args.p.place ≡ 0 = c.if-high-half-eq0.true in
    let e : under d ≡ high d % half c.args.p.place * 1024 + under d = omega arith in
    c.settle-then-high-half-eq0.ensures
    ∙ by-half d c.args.p.place (not (eqb (under d) 0)) c.requires c.if-k-eq10.false c.if-k-gt74.false (ap (λ (r : ℕ). not (eqb r 0)) e)

pub returns : goal.returns
returns c =
    let d = c.args.p.digits in
    let z : high d % half c.args.p.place ≡ 0 → ⊥ = c.if-high-half-eq0.false in
    c.settle-2.ensures
    ∙ by-half d c.args.p.place true c.requires c.if-k-eq10.false c.if-k-gt74.false
    (sym (ap not (ne_eqb (high d % half c.args.p.place * 1024 + under d) 0 (λ e. z (omega arith)))))
