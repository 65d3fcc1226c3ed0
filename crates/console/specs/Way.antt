-- How a program goes on after a read, and which failed write is a fault. Definitions only.
use Rattle.std.specs.Prelude.{ℕ, zero, suc, Bool, true, false, not, eqb, ℤ, pos, negsuc, List, [], ◌++◌, codes, Result, Ok, Err, Option, None, Some}
use Rattle.std.specs.Io.KnownBytes.{Appends}
use Rattle.std.specs.IoError.{raw_os_error}
use Rattle.std.specs.declared.io.Error.{Error}
use Rattle.console.specs.declared.Failure.{Failure}
use Rattle.console.specs.declared.Failure.TheVariants.{Reading, Writing, Unfinished}

-- on with what came; ended, for nothing came; or the read failed, with the error that it left
abbrev pub way_of : Result ℕ Error → Result (Option ℕ) Failure
way_of (Ok zero) = Ok None
way_of (Ok (suc n)) = Ok (Some (suc n))
way_of (Err e) = Err (Reading e)

-- `EPIPE`: nobody reads the output any more
abbrev pub broken_pipe : ℕ
broken_pipe = 32

-- any failed write is a fault but one into a broken pipe
abbrev pub is_fault : ℤ → Bool
is_fault (pos n) = not (eqb n broken_pipe)
is_fault (negsuc n) = true

-- an error without the system's number is no broken pipe
abbrev pub is_known_fault : Option ℤ → Bool
is_known_fault None = true
is_known_fault (Some code) = is_fault code

-- of a failed read something is said, and of a failed write that is a fault
abbrev pub is_told : Result (Unit {0}) Failure → Bool
is_told (Ok x) = false
is_told (Err (Reading e)) = true
is_told (Err (Writing e)) = is_known_fault (raw_os_error e)
is_told (Err Unfinished) = false

-- the program's own words for it
abbrev pub words_of : Result (Unit {0}) Failure → List ℕ → List ℕ → List ℕ
words_of (Ok x) reading writing = []
words_of (Err (Reading e)) reading writing = reading
words_of (Err (Writing e)) reading writing = writing
words_of (Err Unfinished) reading writing = []

-- a line is appended: the words, a colon and a space, and the system's word for why
abbrev pub SaysLine : List ℕ → Option (List ℕ) → Option (List ℕ) → Type 0
SaysLine words old new = (why : List ℕ) × Appends old new (words ++ (codes ": " ++ (why ++ codes "\n")))
