-- What a read came to, by how its turn went.
use Rattle.std.proofs.Common.{ℕ, zero, suc, min, true, ◌≡◌, ◌<◌, arith, List, length, take, Result, Ok, Err, None, Some, OnOk, refl, subst, ap, ◌∙◌}
use Rattle.std.specs.Prelude.{Option}
use Rattle.std.specs.declared.io.Error.{Error}
use Rattle.std.proofs.lemmas.List.{take_min}
use Rattle.std.specs.Io.KnownBytes.{Appends}
use Rattle.std.proofs.KnownBytes.{Appends-nil}
use Rattle.console.specs.declared.Failure.{Failure}
use Rattle.console.specs.Way.{way_of}
use Rattle.frames.specs.declared.stream.Stream.{Stream}
use Rattle.frames.specs.Stream.{Model, fed_state, fed_text, view}
use Rattle.plot.specs.Turn.{count_of, goes_on, turned, Poured, Turning}

-- bytes came, and it says how many
as-it-was : {s t : Stream} (got : Result ℕ Error) {piece : List ℕ} {r : Result (Option ℕ) Failure} (x : Option ℕ) → Turning s got piece t r → r ≡ Ok x
    → goes_on (way_of got) ≡ true → Ok x ≡ way_of got
as-it-was got x t e g = subst (λ (q : Result (Option ℕ) Failure). OnOk q (q ≡ way_of got)) e (t.came g).0

-- it ended: nothing came, and the stream is as it was
pub turning-ended : (s : Stream) (got : Result ℕ Error) (piece : List ℕ) (t : Stream) (r : Result (Option ℕ) Failure) → Turning s got piece t r → r ≡ Ok None
    → (got ≡ Ok 0) × (t ≡ s)
turning-ended s (Ok zero) piece t r h e = (refl, (h.stays refl).0)
turning-ended s (Ok (suc n)) piece t r h e = let w = as-it-was (Ok (suc n)) None h e refl in let z : ⊥ = cc in absurd z
turning-ended s (Err x) piece t r h e = let w = (h.stays refl).1 in let z : ⊥ = cc in absurd z

-- it goes on: what came is taken
pub turning-on : (s : Stream) (got : Result ℕ Error) (piece : List ℕ) (t : Stream) (r : Result (Option ℕ) Failure) → Turning s got piece t r
    → (n : ℕ) → r ≡ Ok (Some n)
    → (got ≡ Ok n) × (take (count_of got (length piece)) piece ≡ take n piece) × (view t ≡ fed_state (view s) (take n piece))
turning-on s (Ok zero) piece t r h n e = let w = (h.stays refl).1 in let z : ⊥ = cc in absurd z
turning-on s (Ok (suc k)) piece t r h n e =
    let w = as-it-was (Ok (suc k)) (Some n) h e refl in
    let i : suc k ≡ n = cc in
    let m : take (min (suc k) (length piece)) piece ≡ take n piece = take_min (suc k) piece ∙ ap (λ (j : ℕ). take j piece) i in
    let p : Poured s (take (min (suc k) (length piece)) piece) (turned t (Ok (Some n))) =
    subst (λ q. Poured s (take (min (suc k) (length piece)) piece) (turned t q)) e (h.came refl).1 in
    (ap (λ (j : ℕ). Ok j) i, m, p ∙ ap (λ (l : List ℕ). fed_state (view s) l) m)
turning-on s (Err x) piece t r h n e = let w = (h.stays refl).1 in let z : ⊥ = cc in absurd z

-- and then it is one byte at least
pub turning-some : {s t : Stream} (got : Result ℕ Error) {piece : List ℕ} {r : Result (Option ℕ) Failure} → Turning s got piece t r → (n : ℕ) → r ≡ Ok (Some n) → 0 < n
turning-some (Ok zero) h n e = let w = (h.stays refl).1 in let z : ⊥ = cc in absurd z
turning-some (Ok (suc k)) h n e =
    let w = as-it-was (Ok (suc k)) (Some n) h e refl in
    let i : suc k ≡ n = cc in
    omega arith
turning-some (Err x) h n e = let w = (h.stays refl).1 in let z : ⊥ = cc in absurd z

-- where nothing came there is nothing to answer
pub nothing_said : (a : Option (List ℕ)) (m : Model) (got : Result ℕ Error) (piece : List ℕ) → way_of got ≡ Ok None
    → Appends a a (fed_text m (take (count_of got (length piece)) piece))
unfolding fed_text
nothing_said a m (Ok zero) piece e = rw (take_min 0 piece) (Appends-nil a)
nothing_said a m (Ok (suc n)) piece e = let z : ⊥ = cc in absurd z
nothing_said a m (Err x) piece e = let z : ⊥ = cc in absurd z
