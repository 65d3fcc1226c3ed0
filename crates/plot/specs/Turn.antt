-- What a piece of the input and a read leave. Definitions only.
use Rattle.std.specs.Prelude.{ℕ, List, ◌≡◌, Bool, true, false, length, min, take, Result, Ok, Err, Option, None, Some, OnOk}
use Rattle.console.specs.declared.Failure.{Failure}
use Rattle.console.specs.declared.Failure.TheVariants.{Writing}
use Rattle.console.specs.Way.{way_of}
use Rattle.std.specs.declared.io.Error.{Error}
use Rattle.frames.specs.declared.stream.Stream.{Stream}
use Rattle.frames.specs.Stream.{view, fed_state}

-- a write failed
abbrev pub Unwritten : Failure → Type 0
Unwritten f = (error : Error) × (f ≡ Writing error)

-- a piece of the input: a stream that has taken all of it, or a write failed
abbrev pub Poured : Stream → List ℕ → Result Stream Failure → Type 0
Poured s xs (Ok t) = view t ≡ fed_state (view s) xs
Poured s xs (Err f) = Unwritten f

-- how many of so many bytes a read gave: none where it failed
abbrev pub count_of : Result ℕ Error → ℕ → ℕ
count_of (Ok n) most = min n most
count_of (Err e) most = 0

-- some bytes came; where none did the input has ended, or the read failed
abbrev pub goes_on : Result (Option ℕ) Failure → Bool
goes_on (Ok (Some n)) = true
goes_on (Ok None) = false
goes_on (Err f) = false

-- a stream as it was left, or why that failed
abbrev pub turned : {T : Type 0} → Stream → Result T Failure → Result Stream Failure
turned t (Ok x) = Ok t
turned t (Err f) = Err f

-- a read: what came of it is poured, and unless a write fails it goes on; where nothing came, or it failed, the stream stays as it was
pub record Turning (s : Stream) (got : Result ℕ Error) (piece : List ℕ) (t : Stream) (r : Result (Option ℕ) Failure) : Type 0 where
  pub came : goes_on (way_of got) ≡ true → OnOk r (r ≡ way_of got) × Poured s (take (count_of got (length piece)) piece) (turned t r)
  pub stays : goes_on (way_of got) ≡ false → (t ≡ s) × (r ≡ way_of got)
