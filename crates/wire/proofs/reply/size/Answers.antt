-- The digits of each reply, counted.
use mathlib.Core.Logic.{inl, inr}
use mathlib.Core.Path.{sym, ap, ◌∙◌}
use Rattle.wire.proofs.Sizes.{size_of, size_is}
use Rattle.wire.proofs.reply.size.Goals as goal

pub returns-in-Done : goal.returns-in-Done
returns-in-Done g c =
    elim c.in-Done.is [
      | inl (k, w) ↦ sym (size_is _ _ _ ∙ ap size_of w)
      | inr (inl (k, q, w)) ↦ sym (size_is _ _ _ ∙ ap size_of w)
      | inr (inr w) ↦ sym (size_is _ _ _ ∙ ap size_of w)
    ]

pub returns-in-Solved : goal.returns-in-Solved
returns-in-Solved g c = sym (size_is _ _ _ ∙ ap size_of c.in-Solved.is)

pub returns-in-Mean : goal.returns-in-Mean
returns-in-Mean g c = sym (size_is _ _ _ ∙ ap size_of c.in-Mean.is)

pub returns-in-Pick : goal.returns-in-Pick
returns-in-Pick g c = sym (size_is _ _ _ ∙ ap size_of c.in-Pick.is)

pub returns-in-Total : goal.returns-in-Total
returns-in-Total g c = sym (size_is _ _ _ ∙ ap size_of c.in-Total.is)
