-- Line by line: what stands on the page is the text of the lines passed.
use mathlib.Core.List.{[]}
use Prim.Native.Nat.{◌-◌}
use mathlib.Core.Path.{◌≡◌}
use lib.ListN.{length, drop}
use Rattle.sessions.specs.Session.{plain_of}
use Rattle.sessions.specs.Quick.{session_of}
use Rattle.frames.proofs.Turns.{Passed}
use Rattle.frames.proofs.stream.lines.Given as goal

abbrev pub invariant-loop-span : goal.invariant-loop-span
invariant-loop-span l = record {
  left : l.rest ≡ drop (length l.xs - length l.rest) l.xs;
  passed : Passed (record { board = plain_of (session_of l.initial.parts.setting l.initial.parts.entries); part = [] }) l.xs l.initial.page l.page
      (session_of l.parts.setting l.parts.entries) [] l.next (length l.xs - length l.rest);
}

abbrev pub decreases-loop-span : goal.decreases-loop-span
decreases-loop-span l = length l.rest
