-- Positions by three coordinates, positions whose parts lie in columns, and the mean of those. Definitions only.
use Rattle.std.specs.Prelude.{ℕ, zero, suc, ◌+◌, ◌*◌, ◌/◌, min, List, [], ◌∷◌, get_or, length, Float}
use Rattle.std.specs.Float.{nan}
use Rattle.vectors.specs.Vec3 as vec3
use Rattle.jord.specs.Positions.{nvector_new}
use Rattle.jord.specs.declared.positions.NVector.{NVector}
use Rattle.means.specs.Mean.{Mean, mean_of}

-- the position of three coordinates, through `Vec3::new`
abbrev pub of_three : List Float → NVector
of_three cs = nvector_new (vec3.new (get_or cs 0 nan) (get_or cs 1 nan) (get_or cs 2 nan))

-- g i, g (i + 1) and so on, k of them
abbrev pub from : {A : Type 0} → (ℕ → A) → ℕ → ℕ → List A
from g i zero = []
from g i (suc k) = g i ∷ from g (i + 1) k

-- the i-th of m positions, whose x come first, then the y, then the z
abbrev pub column_at : List Float → ℕ → ℕ → NVector
column_at cs m i = nvector_new (vec3.parts (get_or cs i nan) (get_or cs (m + i) nan) (get_or cs (2 * m + i) nan))

-- the first n of them
abbrev pub in_columns : List Float → ℕ → ℕ → List NVector
in_columns cs m n = from (column_at cs m) 0 n

-- the mean of the first n positions in columns, of all where there are fewer
unfoldable pub column_mean : List Float → ℕ → Mean
column_mean cs n = mean_of (in_columns cs (length cs / 3) (min n (length cs / 3)))
