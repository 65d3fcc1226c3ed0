-- Targets in rising identity: what stands under an identity, a target put in its place, and lines taken away. Definitions only.
-- A list is read from the front up to the first identity that is not below the one sought.
use Rattle.std.specs.Prelude.{ℕ, suc, ◌≤◌, cond, List, [], ◌∷◌, ltb, eqb, take, Option, Some, None}
use Rattle.plain.specs.declared.targets.Held.{Held}
use Rattle.plain.specs.declared.targets.Target.{Target}
use Rattle.plain.specs.declared.targets.Targets.{Targets}

-- "are fewer than 64 held?": the room of a board
abbrev pub most_targets : ℕ
most_targets = 64

-- ---- on lists

-- what the list holds under an identity
unfoldable pub find : ℕ → List Target → Option Held
find i [] = None
find i (t ∷ l) = cond (ltb t.identity i) (find i l) (cond (eqb i t.identity) (Some t.held) None)

-- a target before the rest, or no target
unfoldable pub ahead : ℕ → Option Held → List Target → List Target
ahead i None l = l
ahead i (Some h) l = record { identity = i; held = h } ∷ l

-- "places or replaces that target" or "removes it": the list with this under the identity, in its place in the rising order
unfoldable pub place : ℕ → Option Held → List Target → List Target
place i x [] = ahead i x []
place i x (t ∷ l) =
    cond (ltb t.identity i) (t ∷ place i x l) (cond (eqb i t.identity) (ahead i x l) (ahead i x (t ∷ l)))

-- "take every line away"
abbrev pub bare_held : Held → Held
bare_held h = record { report = h.report; line = None }

abbrev pub bare_target : Target → Target
bare_target t = record { identity = t.identity; held = bare_held t.held }

unfoldable pub bared : List Target → List Target
bared [] = []
bared (t ∷ l) = bare_target t ∷ bared l

-- "targets in rising identity": each identity is above the one before, and the first is at least n
abbrev pub RisingFrom : ℕ → List Target → Type 0
RisingFrom n [] = Unit {0}
RisingFrom n (t ∷ l) = (n ≤ t.identity) × RisingFrom (suc t.identity) l

-- ---- in an array

-- a count, or 64 where it says more
abbrev pub at_most : ℕ → ℕ
at_most n = cond (ltb n most_targets) n most_targets

-- the targets that stand in an array
unfoldable pub listed : Targets → List Target
listed ts = take (at_most ts.count) ts.entries
