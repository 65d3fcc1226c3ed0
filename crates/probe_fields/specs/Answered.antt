-- What a call of a function by its number comes to: the pieces that are written, and the arguments that are left. Definitions only.
use Rattle.std.specs.Prelude.{◌≡◌, ℕ, Bool, true, false, List, Option, Some, None, length}
use Rattle.probe_fields.specs.Page.{Sheet, put_all, sheet}
use Rattle.probe_fields.specs.declared.args.Args.{Args}
use Rattle.probe_fields.specs.declared.page.Page.{Page}

pub record Answered : Type 0 where
  pub pieces : List (List ℕ)
  pub left : Args

-- is there a function of that number?
abbrev pub is_known : Option Answered → Bool
is_known (Some x) = true
is_known None = false

-- the sheet with the pieces written, and as it was where there is no such function
abbrev pub over : Sheet → Option Answered → Sheet
over s (Some x) = put_all s x.pieces
over s None = s

-- the arguments that are left: all where there is no such function
abbrev pub rest : Args → Option Answered → Args
rest a (Some x) = x.left
rest a None = a

-- the pieces, and the arguments past those that were read
abbrev pub gives : List (List ℕ) → Args → Option Answered
gives pieces left = Some (record { pieces = pieces; left = left })

-- the one, and where that has no such function the other
abbrev pub or_else : Option Answered → Option Answered → Option Answered
or_else (Some x) other = Some x
or_else None other = other

-- what a function leaves of page and arguments, and whether it has that number, where the call comes to x
pub record Answers (x : Option Answered) (page page' : Page) (args args' : Args) (result : Bool) : Type 0 where
  pub size : length page'.bytes.now ≡ length page.bytes.now
  pub known : result ≡ is_known x
  pub written : sheet page' ≡ over (sheet page) x
  pub arguments : args' ≡ rest args x
