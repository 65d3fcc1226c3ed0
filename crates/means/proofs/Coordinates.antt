-- The mean of positions is the mean of their coordinates. Assumes nothing.
use mathlib.Core.Path.{◌≡◌, refl, ap}
use mathlib.Core.List.{List, [], ◌∷◌}
use Rattle.jord.specs.Positions.{as_vec3}
use Rattle.jord.specs.declared.positions.NVector.{NVector}
use Rattle.vectors.proofs.Vectors.{new-keeps}
use Rattle.means.specs.Mean.{mean_of, positions, mean_position, coordinates, AllKept}

pub positions-back : (ps : List NVector) → AllKept ps → positions (coordinates ps) ≡ ps
positions-back [] k = refl
positions-back (p ∷ ps) k = rw (new-keeps (as_vec3 p) k.0.held k.0.no_minus_zero, positions-back ps k.1)

pub mean-of-coordinates : (ps : List NVector) → AllKept ps → mean_position (coordinates ps) ≡ mean_of ps
unfolding mean_position
mean-of-coordinates ps k = ap mean_of (positions-back ps k)
