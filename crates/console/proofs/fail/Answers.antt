-- The four parts of the line, one after another.
use Rattle.std.proofs.Common.{ℕ, List, [], ◌∷◌, ◌++◌, Option, Result, Ok, Err, OnOk}
use Rattle.std.specs.Io.KnownBytes.{Appends}
use Rattle.std.proofs.KnownBytes.{Appends-trans}
use Rattle.console.specs.Way.{SaysLine}
use Rattle.console.proofs.fail.Goals as goal

line : {X E : Type 0} (r : Result X E) (a b c d e : Option (List ℕ)) (what why : List ℕ) → Appends a b what → Appends b c (58 ∷ 32 ∷ []) → Appends c d why
    → OnOk r (Appends d e (10 ∷ [])) → OnOk r (SaysLine what a e)
line (Ok x) a b c d e what why p q s t = (
  why,
  Appends-trans a b e what (58 ∷ 32 ∷ (why ++ (10 ∷ []))) p
      (Appends-trans b c e (58 ∷ 32 ∷ []) (why ++ (10 ∷ [])) q (Appends-trans c d e why (10 ∷ []) s t)),
)
line (Err x) a b c d e what why p q s t = tt

pub returns : goal.returns
returns g c =
    line c.write_all-4.result _ _ _ _ _ _ _ c.in_ok-write_all.ensures.bytes c.in_ok-write_all-2.ensures.bytes c.in_ok-write_all-3.ensures.bytes
    c.write_all-4.ensures.bytes
