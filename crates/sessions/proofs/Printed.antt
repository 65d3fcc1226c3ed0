-- What is printed of an answer is its number and its values (`call-printed`, `mean-printed`, `pick-printed`), and so it is of all answers of a board (`printed`).
use Rattle.std.specs.Prelude.{Some, None, Result, Ok, Err}
use Prim.Native.Nat.{ℕ}
use mathlib.Core.Path.{◌≡◌, refl}
use Rattle.hex_digits.specs.Hex.{digits}
use Rattle.means.specs.Mean.{Mean}
use Rattle.plain.specs.Asking.{mean, pick}
use Rattle.plain.specs.Board.{Plain, begins, answer}
use Rattle.plain.specs.Call.{Answer}
use Rattle.plain.specs.declared.call.Refusal.{Refusal}
use Rattle.wire.specs.declared.kind.Kind.{Kind}
use Rattle.wire.specs.declared.kind.Kind.TheVariants as kind
use Rattle.wire.specs.declared.reply.Reason.{Reason}
use Rattle.wire.specs.declared.reply.Reply.{Reply}
use Rattle.wire.specs.Reply.{digits_by}
use Rattle.sessions.specs.Session.{kind_of, told, mean_told, pick_told, if_started, reply_of}
use Rattle.sessions.specs.Printed.{CallPrinted, MeanPrinted, PickPrinted, Printed}

pub call-printed : {K : Type 0} (k : K) (a : Answer) → CallPrinted a (told k a)
unfolding told digits_by digits
call-printed k (Ok None) = λ byte. refl
call-printed k (Ok (Some l)) = λ byte. refl
call-printed k (Err q) = λ byte. refl

pub mean-printed : (m : Mean) → MeanPrinted m (mean_told m)
unfolding mean_told digits_by digits
mean-printed (Ok p) = refl
mean-printed (Err e) = refl

pub pick-printed : (c : Result ℕ Refusal) → PickPrinted c (pick_told c)
unfolding pick_told digits_by digits
pick-printed (Ok i) = refl
pick-printed (Err q) = refl

-- ---- of a reply that is made of an answer: no hyphens, as `using` of a function's tactic takes none

pub of_call : {K : Type 0} (k : K) (a : Answer) {y : Reply K Reason} → y ≡ told k a → CallPrinted a y
of_call k a e = rw e (call-printed k a)

pub of_mean : (m : Mean) {y : Reply Kind Reason} → y ≡ mean_told m → MeanPrinted m y
of_mean m e = rw e (mean-printed m)

pub of_pick : (c : Result ℕ Refusal) {y : Reply Kind Reason} → y ≡ pick_told c → PickPrinted c y
of_pick c e = rw e (pick-printed c)

-- ---- of a board

pub printed : (b : Plain) → Printed b
unfolding reply_of if_started
printed b =
    record {
      of_fresh = λ r. call-printed kind.Fresh (begins r);
      of_call = λ c. call-printed (kind_of c) (answer b c);
      of_mean = mean-printed (mean b);
      of_pick = pick-printed (pick b);
    }
