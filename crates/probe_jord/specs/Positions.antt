-- Functions 50 to 56 and 66: positions and vehicles. Definitions only.
use Rattle.std.specs.Prelude.{ℕ, cond, eqb, Option, None}
use Rattle.jord.specs.Positions as positions
use Rattle.probe_fields.specs.Answered.{Answered, gives}
use Rattle.probe_fields.specs.Args.{angle, float, nvector, pass, pass3, pass5, vehicle}
use Rattle.probe_fields.specs.Fields as fields
use Rattle.probe_fields.specs.declared.args.Args.{Args}

-- what a call of each comes to: its fields, and the arguments that are left
unfoldable pub positions_of : ℕ → Args → Option Answered
positions_of f a =
    cond (eqb f 0x50) (gives (fields.lat_long (positions.from_degrees (float a) (float (pass a)))) (pass (pass a)))
    (cond (eqb f 0x51) (gives (fields.lat_long (positions.from_nvector (nvector a))) (pass3 a))
    (cond (eqb f 0x52) (gives (fields.nvector (positions.to_nvector (positions.lat_long_new (angle a) (angle (pass a))))) (pass (pass a)))
    (cond (eqb f 0x53) (gives (fields.nvector (positions.from_lat_long (angle a) (angle (pass a)))) (pass (pass a)))
    (cond (eqb f 0x54) (gives (fields.nvector (positions.from_lat_long_degrees (float a) (float (pass a)))) (pass (pass a)))
    (cond (eqb f 0x55) (gives (fields.nvector (positions.antipode (nvector a))) (pass3 a))
    (cond (eqb f 0x56) (gives (fields.bool (positions.is_antipode_of (nvector a) (nvector (pass3 a)))) (pass3 (pass3 a)))
    (cond (eqb f 0x66) (gives (fields.vehicle (vehicle a)) (pass5 a))
    None)))))))
