-- The frame that a line is by its length, and by the way its numbers are read.
use Prim.Native.Nat.{ℕ, ◌+◌, ◌<◌, ◌≤◌}
use mathlib.Core.Bool.{Bool, true, false, cond}
use mathlib.Core.List.{List}
use mathlib.Core.Logic.{◌≢◌}
use mathlib.Core.Path.{◌≡◌, refl, sym, ap, ◌∙◌}
use native.Mathlib.Omega.{arith}
use borrow.Author.Tests.{leb-true, leb-false, eqb-true, ne_eqb}
use lib.Dec.{eqb, leb}
use lib.ListN.{length}
use Rattle.std.specs.Prelude.{Option, Some, None}
use Rattle.unhex.specs.Digits.{all_digits, hex_at, lows_in}
use Rattle.unhex.proofs.Read.{by-test, lows_known}
use Rattle.wire.specs.declared.frame.Frame.{Frame}
use Rattle.wire.specs.declared.kind.Kind.{Kind}
use Rattle.wire.specs.declared.kind.Kind.TheVariants as kind
use Rattle.wire.specs.Frame.{said, of_kind, framed, frame_of}
use Rattle.wire.specs.Kind.{digits_of, kind_at, most_frame_digits}
use Rattle.wire.specs.Known.{frame_known}

same : (b : Bool) → ◌≡◌ {A = Option Frame} (cond b None None) None
same true = refl
same false = refl

-- frames that are equal where a test holds
tested : (b : Bool) {x y : Option Frame} → (b ≡ true → x ≡ y) → cond b x None ≡ cond b y None
tested true h = h refl
tested false h = refl

-- no frame has fewer digits than its kind, nor more than a track
some_digits : (k : Kind) → (2 ≤ digits_of k) × (digits_of k ≤ most_frame_digits)
some_digits kind.Fresh = (omega arith, omega arith)
some_digits kind.Report = (omega arith, omega arith)
some_digits kind.Withdraw = (omega arith, omega arith)
some_digits kind.OwnShip = (omega arith, omega arith)
some_digits kind.Track = (omega arith, omega arith)
some_digits kind.Solve = (omega arith, omega arith)
some_digits kind.Mean = (omega arith, omega arith)
some_digits kind.Pick = (omega arith, omega arith)
some_digits kind.Total = (omega arith, omega arith)

-- a line of another length than each kind's is no frame
no_size : (number : List ℕ → ℕ → ℕ → ℕ) (o : Option Kind) (s : List ℕ) → ((k : Kind) → length s ≢ digits_of k) → of_kind number o s ≡ None
unfolding of_kind
no_size number None s h = refl
no_size number (Some k) s h = rw (ne_eqb (length s) (digits_of k) (h k))

-- fewer digits than a kind has are no frame
pub short : (number : List ℕ → ℕ → ℕ → ℕ) (o : Option Kind) (s : List ℕ) → length s < 2 → of_kind number o s ≡ None
short number o s h = no_size number o s (λ k e. let d = some_digits k in omega arith)

-- more digits than the longest frame has are no frame
pub long-is-no-frame : (s : List ℕ) → most_frame_digits < length s → frame_of s ≡ None
unfolding frame_of
long-is-no-frame s h = rw (no_size hex_at (kind_at (hex_at s 0 2)) s (λ k e. let d = some_digits k in omega arith)) (same (all_digits s))

-- two ways of reading that agree on digits that are there read one frame
module _ (f g : List ℕ → ℕ → ℕ → ℕ) (s : List ℕ) (e : (at n : ℕ) → leb (at + n) (length s) ≡ true → f s at n ≡ g s at n) where
  said-same : (k : Kind) → length s ≡ digits_of k → said f k s ≡ said g k s
  unfolding said
  said-same kind.Fresh h = simp (e, h)
  said-same kind.Report h = simp (e, h)
  said-same kind.Withdraw h = simp (e, h)
  said-same kind.OwnShip h = simp (e, h)
  said-same kind.Track h = simp (e, h)
  said-same kind.Solve h = simp (e, h)
  said-same kind.Mean h = refl
  said-same kind.Pick h = refl
  said-same kind.Total h = refl

  kind-same : (o : Option Kind) → of_kind f o s ≡ of_kind g o s
  unfolding of_kind
  kind-same None = refl
  kind-same (Some k) = tested (eqb (length s) (digits_of k)) (λ t. ap Some (said-same k (eqb-true (length s) (digits_of k) t)))

-- the low bits of digits read their frame
known-framed : (s : List ℕ) → all_digits s ≡ true → framed lows_in (lows_in s 0 2) s ≡ framed hex_at (hex_at s 0 2) s
known-framed s d =
    let e : (at n : ℕ) → leb (at + n) (length s) ≡ true → lows_in s at n ≡ hex_at s at n = λ at n t. lows_known s at n d (leb-true (at + n) (length s) t) in
    by-test (leb 2 (length s))
    (λ t. rw (e 0 2 t) (kind-same lows_in hex_at s e (kind_at (hex_at s 0 2))))
    (λ t.
    let h : length s < 2 = omega (arith, leb-false 2 (length s) t) in
    short lows_in (kind_at (lows_in s 0 2)) s h ∙ sym (short hex_at (kind_at (hex_at s 0 2)) s h))

-- who knows whether the line is digits alone reads its frame
pub known-frame : (s : List ℕ) {digits : Bool} → digits ≡ all_digits s → frame_known digits s ≡ frame_of s
unfolding frame_of frame_known
known-frame s k = rw k (tested (all_digits s) (known-framed s))
