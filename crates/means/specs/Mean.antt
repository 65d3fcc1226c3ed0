-- `mean_position` and `triangle_mean_position` of sphere.rs, over lists of positions, and the positions that coordinates stand for. Definitions only.
use Rattle.std.specs.Prelude.{ℕ, Bool, cond, ◌||◌, List, [], ◌∷◌, Result, Ok, Err, Float}
use Rattle.std.specs.List.{list_any, fold}
use Rattle.std.specs.Float.Ieee as Ieee
use Rattle.patterns.specs.Operators.{◌⊕◌}
use Rattle.vectors.specs.Vec3 as vec3
use Rattle.jord.specs.Positions.{nvector_new, as_vec3, antipode, is_antipode_of, eq}
use Rattle.vectors.specs.Zero.{NoMinusZero, Held}
use Rattle.vectors.specs.declared.vec3.Vec3.{Vec3}
use Rattle.jord.specs.declared.positions.NVector.{NVector}
use Rattle.means.specs.declared.NoMean.{NoMean}
use Rattle.means.specs.declared.NoMean.TheVariants.{Empty, Antipodal}

-- a mean position, or why there is none
abbrev pub Mean : Type 0
Mean = Result NVector NoMean

-- the number of an answer; 0 is done
abbrev pub number_of : Mean → ℕ
number_of (Ok p) = 0
number_of (Err Empty) = 16
number_of (Err Antipodal) = 17

-- ---- lists

-- what stands past the end of a list
abbrev pub nowhere : NVector
nowhere = nvector_new vec3.ZERO

-- ---- the mean

-- an entry "equal, component by component", to a
abbrev pub contains : NVector → List NVector → Bool
contains a ps = list_any (λ p. eq p a) ps

-- "an entry equal, component by component, to the negation of an entry, itself included"
abbrev pub contains_antipodal : List NVector → Bool
contains_antipodal ps = list_any (λ p. contains (antipode p) ps) ps

-- x += v.x(), y += v.y(), z += v.z()
abbrev pub plus : Vec3 → NVector → Vec3
plus s p = vec3.parts (s.x ⊕ (as_vec3 p).x) (s.y ⊕ (as_vec3 p).y) (s.z ⊕ (as_vec3 p).z)

-- the sums start at 0.0 and go in the order of the list
abbrev pub sum : List NVector → Vec3
sum ps = fold plus vec3.ZERO ps

-- Vec3::new_unit(x, y, z)
abbrev pub along : Vec3 → Vec3
along s = vec3.new_unit s.x s.y s.z

-- `Vec3::mean`
abbrev pub vec3_mean : List NVector → Vec3
vec3_mean ps = along (sum ps)

-- one position is its own mean; of more it is the unit vector along the sums
abbrev pub mean_from : NVector → List NVector → NVector
mean_from p [] = p
mean_from p (q ∷ l) = nvector_new (vec3_mean (p ∷ q ∷ l))

-- "Mean: is the list non-empty? 16. Is no entry equal, component by component, to the negation of an entry, itself included? 17"
abbrev pub mean_of : List NVector → Mean
mean_of [] = Err Empty
mean_of (p ∷ l) = cond (contains_antipodal (p ∷ l)) (Err Antipodal) (Ok (mean_from p l))

-- p1.is_antipode_of(p2) || p1.is_antipode_of(p3) || p2.is_antipode_of(p3)
abbrev pub antipodal_pair : NVector → NVector → NVector → Bool
antipodal_pair p1 p2 p3 = is_antipode_of p1 p2 || is_antipode_of p1 p3 || is_antipode_of p2 p3

-- "for `triangle_mean_position`: is no pair of its three antipodal by `is_antipode_of`? 17"
unfoldable pub triangle_mean_position : NVector → NVector → NVector → Mean
unfolding vec3.new_unit Ieee.add Ieee.eq
triangle_mean_position p1 p2 p3 =
    cond (antipodal_pair p1 p2 p3) (Err Antipodal) (Ok (nvector_new (vec3_mean (p1 ∷ p2 ∷ p3 ∷ []))))

-- ---- coordinates

-- "Coordinates come three to a position; one or two left over at the end count for nothing"; each position through `Vec3::new`
abbrev pub positions : List Float → List NVector
positions [] = []
positions (x ∷ []) = []
positions (x ∷ y ∷ []) = []
positions (x ∷ y ∷ z ∷ cs) = nvector_new (vec3.new x y z) ∷ positions cs

-- "`mean_position` over a lent list of positions first takes coordinates"
unfoldable pub mean_position : List Float → Mean
unfolding vec3.new_unit Ieee.add Ieee.eq Ieee.neg
mean_position cs = mean_of (positions cs)

-- ---- the coordinates of positions

-- three to a position, in the order of the list
abbrev pub coordinates : List NVector → List Float
coordinates [] = []
coordinates (p ∷ ps) = (as_vec3 p).x ∷ (as_vec3 p).y ∷ (as_vec3 p).z ∷ coordinates ps

-- each part is a value that f64 holds and none is -0, as of every position that the port makes
pub record Kept (p : NVector) : Type 0 where
  pub held : Held (as_vec3 p)
  pub no_minus_zero : NoMinusZero (as_vec3 p)

abbrev pub AllKept : List NVector → Type 0
AllKept [] = Unit {0}
AllKept (p ∷ ps) = Kept p × AllKept ps
