-- The array of targets as the code holds it: its identities, where one stands or would, and what fills it. Definitions only.
use Rattle.std.specs.Prelude.{ℕ, suc, cond, List, [], ◌∷◌, ◌++◌, map, ltb, eqb, take, drop, replicate, None, Result, Ok, Err}
use Rattle.jord.specs.Angle as angle
use Rattle.jord.specs.Speed as speed
use Rattle.vectors.specs.Vec3 as vec3
use Rattle.jord.specs.Positions.{nvector_new}
use Rattle.plain.specs.Targets.{most_targets}
use Rattle.plain.specs.declared.targets.Target.{Target}
use Rattle.plain.specs.declared.targets.Targets.{Targets}

abbrev pub identity_of : Target → ℕ
identity_of t = t.identity

-- the identities of the first n entries, then zeros
unfoldable pub identities : List Target → ℕ → List ℕ
identities es n = map identity_of (take n es) ++ drop n (replicate most_targets 0)

-- where an identity stands among identities, or before which place it would; i stand before the list
unfoldable pub spot_in : ℕ → ℕ → List ℕ → Result ℕ ℕ
spot_in i x [] = Err i
spot_in i x (k ∷ l) = cond (ltb k x) (spot_in (suc i) x l) (cond (eqb x k) (Ok i) (Err i))

-- where an identity stands among targets, or before which place it would; i stand before the list
unfoldable pub spot_from : ℕ → ℕ → List Target → Result ℕ ℕ
spot_from i x l = spot_in i x (map identity_of l)

-- what fills an array in which none stands
abbrev blank : Target
blank =
    record {
      identity = 0;
      held = record { report = record { position = nvector_new vec3.ZERO; bearing = angle.ZERO; speed = speed.ZERO }; line = None };
    }

-- "Fresh: only the radius": no target stands
abbrev pub empty : Targets
empty = record { entries = replicate most_targets blank; count = 0 }
