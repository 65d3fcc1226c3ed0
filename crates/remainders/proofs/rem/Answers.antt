-- `rem` meets its contract: the tests, in their order, leave two finite values of which the first is no smaller in size.
use Rattle.std.proofs.Common.{◌≡◌, Bool, true, false, T, sym, ap, ◌∙◌, subst}
use lib.Ieee.{Float, binary64, rem, fits, is_nan}
use lib.Ieee.Scale.{finite}
use Rattle.std.specs.Float.{float_is_infinite}
use Rattle.patterns.specs.Bits.{sign_bit}
use Rattle.patterns.specs.declared.Unpacked.{Unpacked}
use Rattle.patterns.proofs.Pattern.{told-nan, told-not-nan, nan_constant}
use Rattle.remainders.proofs.Fmod.{Divides, rem-nan-left, rem-nan-right, rem-of-infinity, rem-by-zero, rem-of-smaller, rem-of-larger}
use Rattle.remainders.proofs.Fmod.{no-infinity, rem_parts, with_sign, digits_of, place_of}
use Rattle.remainders.proofs.rem.Goals as goal
use Rattle.remainders.proofs.rem.Goals.{After-unpack-2}

held : (x : Float) → fits binary64 x ≡ true → T (fits binary64 x)
held x h = subst T (sym h) tt

-- what the first tests leave
finite-first : {b i : Bool} (x : Float) → b ≡ is_nan x → i ≡ float_is_infinite x → b ≡ false → i ≡ false → T (finite x)
finite-first x n e h k = no-infinity x (told-not-nan x n h) (sym e ∙ k)

pub returns-then-is_nan : goal.returns-then-is_nan
returns-then-is_nan c = let e = told-nan c.args.x c.is_nan.ensures.value c.if-is_nan.true in e ∙ sym (ap (λ (x : Float). rem binary64 x c.args.y) e ∙ rem-nan-left c.args.y)

pub returns-then-is_nan-2 : goal.returns-then-is_nan-2
returns-then-is_nan-2 c = let e = told-nan c.args.y c.is_nan-2.ensures.value c.if-is_nan-2.true in e ∙ sym (ap (rem binary64 c.args.x) e ∙ rem-nan-right c.args.x)

pub returns-then-is_infinite : goal.returns-then-is_infinite
returns-then-is_infinite c = nan_constant ∙ sym (rem-of-infinity c.args.x c.args.y (sym c.is_infinite.ensures.value ∙ c.if-is_infinite.true))

pub returns-then-y : goal.returns-then-y
returns-then-y c =
    nan_constant ∙ sym (rem-by-zero c.args.x c.args.y (finite-first c.args.x c.is_nan.ensures.value c.is_infinite.ensures.value c.if-is_nan.false c.if-is_infinite.false)
    c.if-y.true)

pub returns-then-p-q : goal.returns-then-p-q
returns-then-p-q c =
    rem-of-smaller c.args.x c.args.y (held c.args.x c.well_formed.0.1) (held c.args.y c.well_formed.1.0.1) (told-not-nan c.args.y c.is_nan-2.ensures.value c.if-is_nan-2.false)
    (finite-first c.args.x c.is_nan.ensures.value c.is_infinite.ensures.value c.if-is_nan.false c.if-is_infinite.false) c.if-p-q.true

-- what the tests leave
divides : (c : After-unpack-2) → Divides c.args.x c.args.y
divides c =
    rem-of-larger c.args.x c.args.y (held c.args.x c.well_formed.0.1) (held c.args.y c.well_formed.1.0.1)
    (finite-first c.args.x c.is_nan.ensures.value c.is_infinite.ensures.value c.if-is_nan.false c.if-is_infinite.false) c.if-y.false c.if-p-q.false

pub rem_of_unpacked-r-requires : goal.rem_of_unpacked-r-requires
rem_of_unpacked-r-requires c = let d = divides c in rw (c.unpack-2.ensures.digits, c.unpack-2.ensures.place, c.unpack.ensures.place) (d.divisor, d.order, d.under)

-- the call's answer r, from the parts p and q that were handed over, takes the sign of x
signed : (b s : Bool) (x y r : Float) (p q : Unpacked) → r ≡ rem_parts p.digits p.place q.digits q.place → p.digits ≡ digits_of x → p.place ≡ place_of x
    → q.digits ≡ digits_of y → q.place ≡ place_of y → s ≡ sign_bit x → s ≡ b → Divides x y → with_sign b r ≡ rem binary64 x y
signed b s x y r p q m e f g h i j d = subst (λ (v : Bool). with_sign v r ≡ rem binary64 x y) j (rw (i, m, e, f, g, h) (sym d.is))

pub returns-then-sign_bit : goal.returns-then-sign_bit
returns-then-sign_bit c =
    signed true _ c.args.x c.args.y _ c.unpack.result c.unpack-2.result c.rem_of_unpacked-r.ensures c.unpack.ensures.digits c.unpack.ensures.place c.unpack-2.ensures.digits
    c.unpack-2.ensures.place c.sign_bit.ensures c.if-sign_bit.true (divides c.before.before.before)

pub returns-else-sign_bit : goal.returns-else-sign_bit
returns-else-sign_bit c =
    signed false _ c.args.x c.args.y _ c.unpack.result c.unpack-2.result c.rem_of_unpacked-r.ensures c.unpack.ensures.digits c.unpack.ensures.place c.unpack-2.ensures.digits
    c.unpack-2.ensures.place c.sign_bit.ensures c.if-sign_bit.false (divides c.before.before.before)
