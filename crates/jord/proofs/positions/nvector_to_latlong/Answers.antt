-- `nvector_to_latlong` meets its contract.
use Rattle.jord.specs.Positions.{nvector_to_latlong}
use Rattle.jord.proofs.positions.nvector_to_latlong.Goals as goal

pub returns : goal.returns
unfolding nvector_to_latlong
returns c = rw (c.atan2-lon.ensures, c.atan2-lat.ensures, c.sqrt.ensures)
