-- What a chart user asks of `angle_to_distance`: up to half a circle no distance falls as the angle grows. Definitions only.
use Rattle.std.specs.Prelude.{T}
use Rattle.std.specs.Float.Ieee.{le}
use Rattle.std.specs.Float.Ieee.Positive.{positive}
use Rattle.patterns.specs.Operators.{pi}
use Rattle.patterns.specs.Bits.{magnitude}
use Rattle.jord.specs.declared.angle.Angle.{Angle}
use Rattle.spherical.specs.Sphere.{angle_to_distance}
use Rattle.spherical.specs.declared.sphere.Sphere.{Sphere}

-- With a radius that is finite and above zero, the distance of an angle from 0 to half a circle is never below that of a smaller one;
-- angles of either sign count by their magnitude.
abbrev pub DistanceMono : Type 0
DistanceMono =
    (s : Sphere) (a b : Angle) → T (positive s.radius.metres) → T (le (magnitude a.radians) (magnitude b.radians))
    → T (le (magnitude b.radians) pi) → T (le (angle_to_distance s a).metres (angle_to_distance s b).metres)
