-- `reduced` meets its contract: a magnitude below a turn is its own remainder.
use mathlib.Core.Bool.{true, false, true≢false}
use mathlib.Core.Path.{◌≡◌, refl, sym, ap, ◌∙◌, subst}
use lib.Dec.{T}
use Rattle.float.specs.Trig as spec
use lib.Ieee.{Float, nan, inf, fin, binary64, rem, of_int, of_bits, fits, lt, mul}
use lib.Ieee.Fits.{mul-fits}
use Rattle.patterns.specs.Operators.{◌⊗◌, whole, pi}
use Rattle.patterns.specs.Bits.{magnitude}
use Rattle.remainders.proofs.Fmod.{rem-of-less}
use Rattle.patterns.proofs.Pattern.{told-nan}
use Rattle.float.proofs.Turns.{reduced-nan}
use Rattle.float.proofs.trig.reduced.Goals as goal

-- a whole turn
abbrev turn : Float
turn = whole 2 ⊗ pi

own-remainder : (x : Float) → T (fits binary64 (magnitude x)) → lt (magnitude x) turn ≡ true → magnitude x ≡ rem binary64 (magnitude x) turn
unfolding mul of_int of_bits lt
own-remainder nan f h = absurd (true≢false (sym h))
own-remainder (inf s) f h = absurd (true≢false (sym h))
own-remainder (fin s m e) f h = rem-of-less (fin false m e) turn f (mul-fits binary64 (whole 2) pi) refl refl tt tt h

pub returns-then-is_nan : goal.returns-then-is_nan
returns-then-is_nan c =
    let e = told-nan c.args.x c.is_nan.ensures.value c.if-is_nan.true in e ∙ sym (ap spec.reduced e ∙ reduced-nan)

pub returns-then-a : goal.returns-then-a
unfolding spec.reduced of_int of_bits
returns-then-a c =
    let e = c.magnitude-a.ensures in
    e ∙ own-remainder c.args.x (subst (λ (m : Float). T (fits binary64 m)) e (subst T (sym c.magnitude-a.type_inv) tt)) (ap (λ (m : Float). lt m turn) (sym e) ∙ c.if-a.true)

pub returns : goal.returns
unfolding spec.reduced of_int of_bits
returns c = c.rem.ensures ∙ ap (λ (m : Float). rem binary64 m _) c.magnitude-a.ensures
