-- Up to half a circle the distance of an angle is never below that of a smaller one: it is a product with the radius.
-- Assumes nothing.
use mathlib.Core.Path.{◌≡◌, sym, subst}
use mathlib.Core.Bool.{true, false}
use Prim.Native.Nat.{suc}
use lib.Dec.{T}
use lib.Ieee.{Float, nan, inf, fin, le, of_bits}
use lib.Ieee.Bits.{is_true}
use lib.Ieee.Positive.{positive}
use Rattle.patterns.specs.Bits.{magnitude}
use Rattle.patterns.specs.Operators.{◌⊗◌, pi}
use Rattle.patterns.proofs.Order.{le-through, product-mono}
use Rattle.jord.specs.declared.angle.Angle.{Angle}
use Rattle.spherical.specs.Monotone.{DistanceMono}
use Rattle.spherical.specs.Sphere.{angle_to_distance}
use Rattle.spherical.specs.declared.sphere.Sphere.{Sphere}
use Rattle.spherical.proofs.HalfCircle.{pi_less_one, pi_place, pi-is, arc-of}

-- up to half a circle a distance is a product
of-angle : (s : Sphere) (a : Angle) → T (le (magnitude a.radians) pi) → (angle_to_distance s a).metres ≡ magnitude a.radians ⊗ s.radius.metres
unfolding angle_to_distance
of-angle s a h = rw (arc-of s.radius a.radians, is_true (le (magnitude a.radians) pi) h)

-- no magnitude that is at most `PI` is infinite
not_infinite : T (le (inf false) pi) → ⊥
unfolding le of_bits
not_infinite t = t

products : (x y r : Float) → T (positive r) → T (le (magnitude x) (magnitude y)) → T (le (magnitude y) pi)
    → T (le (magnitude x) pi) × T (le (magnitude x ⊗ r) (magnitude y ⊗ r))
unfolding le
products x y nan p l h = absurd p
products x y (inf s) p l h = absurd p
products x y (fin true k c) p l h = absurd p
products nan y (fin false k c) p l h = absurd l
products (inf s) nan (fin false k c) p l h = absurd l
products (inf s) (inf t) (fin false k c) p l h = absurd (not_infinite h)
products (inf s) (fin t n d) (fin false k c) p l h = absurd l
products (fin s m e) nan (fin false k c) p l h = absurd l
products (fin s m e) (inf t) (fin false k c) p l h = absurd (not_infinite h)
products (fin s m e) (fin t n d) (fin false k c) p l h =
    let half = subst (λ (z : Float). T (le (fin false n d) z)) pi-is h in
    (subst (λ (z : Float). T (le (fin false m e) z)) (sym pi-is) (le-through m n (suc pi_less_one) e d pi_place l half), product-mono m n e d k c l)

pub distance-mono : DistanceMono
distance-mono s a b p l h =
    let q = products a.radians b.radians s.radius.metres p l h in
    rw (of-angle s a q.0, of-angle s b h) q.1
