-- `sqrt` meets its contract: the tests, in their order, leave the positive finite values.
use mathlib.Core.Path.{sym, ap₂, ◌∙◌, subst}
use Prim.Native.Nat.{ℕ, ◌*◌, ◌^◌}
use lib.Dec.{T}
use lib.Ieee.{binary64, of_bits, to_bits}
use Rattle.patterns.specs.Bits.{digits, place}
use Rattle.roots.specs.Root.{round_root}
use Rattle.patterns.proofs.Pattern.{told-nan, told-not-nan, nan_constant}
use Rattle.roots.proofs.Rooted.{Rooted, at-nan, at_zero, at-negative, at-infinity, left_over, rooted}
use Rattle.roots.proofs.sqrt.Goals as goal

pub returns-then-is_nan : goal.returns-then-is_nan
returns-then-is_nan c = sym (at-nan c.args.x (told-nan c.args.x c.is_nan.ensures.value c.if-is_nan.true))

pub returns-then-x : goal.returns-then-x
returns-then-x c = sym (at_zero c.args.x c.if-x.true)

pub returns-then-x-2 : goal.returns-then-x-2
returns-then-x-2 c = nan_constant ∙ sym (at-negative c.args.x c.if-x-2.true)

pub returns-then-x-3 : goal.returns-then-x-3
unfolding of_bits
returns-then-x-3 c = sym (at-infinity c.args.x c.if-x-3.true)

-- what the tests leave
positive-root : (c : goal.After-unpack)
    → Rooted c.args.x (digits (to_bits binary64 c.args.x))
    (place (to_bits binary64 c.args.x))
unfolding of_bits
positive-root c =
    rooted c.args.x (subst T (sym c.well_formed.0.1) tt)
    (left_over c.args.x (told-not-nan c.args.x c.is_nan.ensures.value c.if-is_nan.false) c.if-x.false c.if-x-2.false c.if-x-3.false)

pub root_of-requires : goal.root_of-requires
root_of-requires c = let r = positive-root c in rw c.unpack.ensures.digits r.digits_pos

pub returns : goal.returns
returns c =
    c.root_of.ensures ∙ ap₂ (λ (q k : ℕ). round_root (q * 2 ^ k * 2 ^ 1074)) c.unpack.ensures.digits c.unpack.ensures.place ∙ sym (positive-root c.before).is
