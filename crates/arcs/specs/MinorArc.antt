-- minor_arc.rs: "the arc from two positions, start and normal". Definitions only.
use Rattle.vectors.specs.Vec3 as vec3
use Rattle.jord.specs.Positions.{as_vec3}
use Rattle.vectors.specs.declared.vec3.Vec3.{Vec3}
use Rattle.jord.specs.declared.positions.NVector.{NVector}
use Rattle.arcs.specs.declared.minor_arc.MinorArc.{MinorArc}

-- MinorArc { start, end, normal }, with normal = start.as_vec3().orthogonal_to(end.as_vec3())
abbrev pub new : NVector → NVector → MinorArc
new start end = record { start = start; end = end; normal = vec3.orthogonal_to (as_vec3 start) (as_vec3 end) }

-- self.start
abbrev pub start : MinorArc → NVector
start ma = ma.start

-- self.end
abbrev pub end : MinorArc → NVector
end ma = ma.end

-- self.normal
abbrev pub normal : MinorArc → Vec3
normal ma = ma.normal
