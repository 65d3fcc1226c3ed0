-- The code's way to a pick. Definitions only.
use Rattle.std.specs.Prelude.{ℕ, cond, ltb, Option, Some, None}
use Rattle.plain.specs.Asking.{meeting_time}
use Rattle.plain.specs.declared.targets.Target.{Target}
use Rattle.targets.specs.declared.asking.Best.{Best}

-- the least so far, and one target more
abbrev pub sooner : Option Best → ℕ → ℕ → Option Best
sooner None i s = Some (record { identity = i; time = s })
sooner (Some b) i s = cond (ltb s b.time) (Some (record { identity = i; time = s })) (Some b)

abbrev pub better_by : Option Best → ℕ → Option ℕ → Option Best
better_by b i None = b
better_by b i (Some s) = sooner b i s

abbrev pub better : Option Best → Target → Option Best
better b t = better_by b t.identity (meeting_time t)

-- a target's identity and its found meeting time, if it has one
abbrev pub met_at : ℕ → Option ℕ → Option Best
met_at i None = None
met_at i (Some s) = Some (record { identity = i; time = s })

abbrev pub met : Target → Option Best
met t = met_at t.identity (meeting_time t)

-- the one that meets first, the earlier where both meet at once
abbrev pub sooner_of : Best → Best → Best
sooner_of a b = cond (ltb b.time a.time) b a
