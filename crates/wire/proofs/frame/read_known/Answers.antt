-- A line told to be digits alone is a frame by its kind and its length.
use Prim.Native.Nat.{ℕ}
use mathlib.Core.Bool.{Bool, true}
use mathlib.Core.List.{List}
use mathlib.Core.Path.{◌≡◌, sym, ◌∙◌}
use Rattle.std.specs.Prelude.{Option}
use Rattle.unhex.specs.Digits.{lows_in}
use Rattle.wire.specs.declared.frame.Frame.{Frame}
use Rattle.wire.specs.declared.kind.Kind.{Kind}
use Rattle.wire.specs.Frame.{of_kind}
use Rattle.wire.specs.Kind.{kind_at}
use Rattle.wire.specs.Known.{frame_known}
use Rattle.wire.proofs.Lines.{short}
use Rattle.wire.proofs.frame.read_known.Goals as goal
use Rattle.wire.proofs.frame.read_known.Goals.{then-not-digits-via-then-not-digits, then-not-digits-via-else-not-digits+then-s-lt-ASKED}

-- told to be digits alone, a line is a frame by its kind
known : (digits : Bool) (s : List ℕ) {n : ℕ} {o : Option Kind} {f : Option Frame} → digits ≡ true → n ≡ lows_in s 0 2 → o ≡ kind_at n → f ≡ of_kind lows_in o s
    → f ≡ frame_known digits s
unfolding frame_known
known digits s d l k e = rw (d, ← l, ← k) e

pub returns-then-not-digits-clause-value : goal.returns-then-not-digits-clause-value
unfolding frame_known
returns-then-not-digits-clause-value c =
    elim c.then-not-digits.branch [
      | then-not-digits-via-then-not-digits w ↦ rw w.if-not-digits.true
      | then-not-digits-via-else-not-digits+then-s-lt-ASKED w ↦ rw w.if-not-digits.false (sym (short lows_in _ _ w.if-s-lt-ASKED.true))
    ]

pub returns-in_err-of_number-clause-value : goal.returns-in_err-of_number-clause-value
unfolding of_kind
returns-in_err-of_number-clause-value c =
    known _ _ c.if-not-digits.false c.two_at.ensures.value (sym c.in_err-of_number.was ∙ c.of_number.ensures) (cc)

pub returns-clause-value : goal.returns-clause-value
returns-clause-value c = known _ _ c.if-not-digits.false c.two_at.ensures.value (sym c.in_ok-of_number.was ∙ c.of_number.ensures) c.of_kind.ensures
