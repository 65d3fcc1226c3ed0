-- `axis` meets its contract.
use mathlib.Core.Path.{◌≡◌}
use Rattle.std.specs.Prelude.{Float}
use Rattle.patterns.specs.Bits.{magnitude}
use Rattle.vectors.specs.declared.vec3.Vec3.{Vec3}
use Rattle.vectors.specs.Vec3.{axis, axis_of}
use Rattle.vectors.proofs.vec3.Vec3.axis.Goals as goal

by_size : (v : Vec3) {ax ay az : Float} → ax ≡ magnitude v.x → ay ≡ magnitude v.y → az ≡ magnitude v.z → axis v ≡ axis_of ax ay az
unfolding axis
by_size v x y z = rw (x, y, z)

pub returns-then-ax-az : goal.returns-then-ax-az
returns-then-ax-az c = rw (by_size c.args.self c.magnitude-ax.ensures c.magnitude-ay.ensures c.magnitude-az.ensures, c.if-ax-ay.true, c.if-ax-az.true)

pub returns-else-ax-az : goal.returns-else-ax-az
returns-else-ax-az c = rw (by_size c.args.self c.magnitude-ax.ensures c.magnitude-ay.ensures c.magnitude-az.ensures, c.if-ax-ay.true, c.if-ax-az.false)

pub returns-then-ay-az : goal.returns-then-ay-az
returns-then-ay-az c = rw (by_size c.args.self c.magnitude-ax.ensures c.magnitude-ay.ensures c.magnitude-az.ensures, c.if-ax-ay.false, c.if-ay-az.true)

pub returns-else-ay-az : goal.returns-else-ay-az
returns-else-ay-az c = rw (by_size c.args.self c.magnitude-ax.ensures c.magnitude-ay.ensures c.magnitude-az.ensures, c.if-ax-ay.false, c.if-ay-az.false)
