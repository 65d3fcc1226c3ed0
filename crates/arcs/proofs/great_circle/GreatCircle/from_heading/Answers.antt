-- `from_heading` meets its contract.
use Rattle.arcs.specs.GreatCircle.{from_heading}
use Rattle.arcs.proofs.great_circle.GreatCircle.from_heading.Goals as goal

pub returns : goal.returns
unfolding from_heading
returns c =
    rw (
      c.sub.ensures,
      c.mul-sn.ensures,
      c.norm-2.ensures,
      c.mul-se.ensures,
      c.norm.ensures,
      c.sin_cos-b.ensures,
      c.cross_prod-n.ensures,
      c.easting-e.ensures,
      c.as_vec3-v.ensures,
    )
