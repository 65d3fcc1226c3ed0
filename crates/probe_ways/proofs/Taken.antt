-- Fields read one after another are those that a line has from the place on.
use Rattle.std.proofs.Common.{◌≡◌, ℕ, zero, suc, ◌+◌, ◌<◌, Float, List, [], ◌∷◌, ◌++◌, length, take, slice_set, refl, ap, sym, ◌∙◌, add-one}
use Rattle.std.proofs.Math.Seq.{take-suc-set}
use Rattle.jord.specs.declared.positions.NVector.{NVector}
use Rattle.probe_fields.specs.Args.{float, nvector, pass, pass3, pass_rest}
use Rattle.probe_fields.specs.declared.args.Args.{Args}
use Rattle.probe_ways.specs.Mean.{floats, past_floats, positions, past_positions}

past_floats-suc : (n : ℕ) (a : Args) → past_floats (suc n) a ≡ pass (past_floats n a)
past_floats-suc zero a = refl
past_floats-suc (suc n) a = past_floats-suc n (pass a)

floats-suc : (n : ℕ) (a : Args) → floats (suc n) a ≡ floats n a ++ (float (past_floats n a) ∷ [])
floats-suc zero a = refl
floats-suc (suc n) a = ap (λ (l : List Float). float a ∷ l) (floats-suc n (pass a))

past_positions-suc : (n : ℕ) (a : Args) → past_positions (suc n) a ≡ pass3 (past_positions n a)
past_positions-suc zero a = refl
past_positions-suc (suc n) a = past_positions-suc n (pass3 a)

positions-suc : (n : ℕ) (a : Args) → positions (suc n) a ≡ positions n a ++ (nvector (past_positions n a) ∷ [])
positions-suc zero a = refl
positions-suc (suc n) a = ap (λ (l : List NVector). nvector a ∷ l) (positions-suc n (pass3 a))

-- the fields are those of the line, and all past them is past all
pub rest-past : (n : ℕ) (a : Args) → pass_rest (past_positions n a) ≡ pass_rest a
unfolding pass
rest-past zero a = refl
rest-past (suc n) a = rest-past n (pass3 a)

-- one float more
pub float-next : (i : ℕ) (a b d : Args) (xs : List Float) (x : Float) → i < length xs → b ≡ past_floats i a
    → take i xs ≡ floats i a → x ≡ float b → d ≡ pass b
    → (d ≡ past_floats (i + 1) a) × (take (i + 1) (slice_set xs i x) ≡ floats (i + 1) a)
float-next i a b d xs x h p t v e =
    rw (add-one i) (
      e ∙ ap pass p ∙ sym (past_floats-suc i a),
      take-suc-set xs i x h ∙ rw (t, v, p) (sym (floats-suc i a)),
    )

-- one position more
pub position-next : (i : ℕ) (a b d : Args) (xs : List NVector) (x : NVector) → i < length xs → b ≡ past_positions i a
    → take i xs ≡ positions i a → x ≡ nvector b → d ≡ pass3 b
    → (d ≡ past_positions (i + 1) a) × (take (i + 1) (slice_set xs i x) ≡ positions (i + 1) a)
position-next i a b d xs x h p t v e =
    rw (add-one i) (
      e ∙ ap pass3 p ∙ sym (past_positions-suc i a),
      take-suc-set xs i x h ∙ rw (t, v, p) (sym (positions-suc i a)),
    )
