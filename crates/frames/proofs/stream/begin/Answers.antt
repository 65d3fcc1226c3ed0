-- Nothing has come, and whatever pieces come, they are answered as the whole.
use Rattle.frames.proofs.Pieces.{begun-answers}
use Rattle.frames.proofs.stream.begin.Goals as goal

pub returns : goal.returns
returns c = begun-answers _ _ c.begin-session.ensures
