-- vehicle.rs: "a vehicle is a position, a bearing and a speed". Definitions only.
use Rattle.jord.specs.declared.angle.Angle.{Angle}
use Rattle.jord.specs.declared.speed.Speed.{Speed}
use Rattle.jord.specs.declared.positions.NVector.{NVector}
use Rattle.jord.specs.declared.vehicle.Vehicle.{Vehicle}

-- Self { position, bearing, speed }
abbrev pub new : NVector → Angle → Speed → Vehicle
new position bearing speed = record { position = position; bearing = bearing; speed = speed }

-- self.position
abbrev pub position : Vehicle → NVector
position v = v.position

-- self.bearing
abbrev pub bearing : Vehicle → Angle
bearing v = v.bearing

-- self.speed
abbrev pub speed : Vehicle → Speed
speed v = v.speed
