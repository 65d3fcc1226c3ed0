-- A session with no board.
use mathlib.Core.Path.{refl}
use Rattle.sessions.specs.Session.{plain_of}
use Rattle.sessions.proofs.session.begin.Goals as goal

pub returns : goal.returns
unfolding plain_of
returns c = refl
