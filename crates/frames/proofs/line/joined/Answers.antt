-- What has come is copied after the first n bytes, as far as a line is kept.
use borrow.Author.Rules.{rules}
use Prim.Native.Nat.{ℕ, ◌+◌, ◌-◌}
use mathlib.Core.List.{List, ◌++◌}
use mathlib.Core.Path.{◌≡◌, refl, sym, ap, ◌∙◌}
use native.Mathlib.Omega.{arith}
use lib.ListN.{length, take}
use lib.Seq.{take_all, length-take-le}
use Rattle.std.proofs.lemmas.List.Edits.{length-paste, take-paste}
use Rattle.std.proofs.lemmas.Slice.{put_mid-paste}
use Rattle.frames.specs.Line.{kept, least}
use Rattle.frames.proofs.Spans.{kept-text}
use Rattle.frames.proofs.line.joined.Goals as goal

pub returns : goal.returns
returns c =
    let a = c.args in
    let m : ℕ = c.kept_of-m.result - a.n in
    let more : List ℕ = take m a.part.now in
    let l : length a.line ≡ kept = search rules in
    let e : a.n + m ≡ least (a.n + length a.part.now) = omega (arith, c.kept_of-m.ensures) in
    let h : length more ≡ m = length-take-le m a.part.now (omega arith) in
    let w = take-paste a.line a.n more m (omega arith) (omega arith) ∙ ap (λ (t : List ℕ). take a.n a.line ++ t) (take_all m more (omega arith)) in
    rw (put_mid-paste a.n m a.line c.copy_from_slice.new.self more m c.copy_from_slice.ensures.after refl (sym h))
    (record { length_is = length-paste a.line a.n more m (omega arith) (omega arith) ∙ l; text = kept-text a.line a.part.now _ a.n m (omega arith) e w })
