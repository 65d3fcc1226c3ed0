-- `root_of` meets its contract: the pattern is that of the rounded root.
use Prim.Native.Nat.{◌+◌, ◌-◌, ◌*◌, ◌/◌, ◌^◌, ◌≤◌, ◌<◌}
use native.Mathlib.Omega.{arith}
use Rattle.patterns.specs.declared.Unpacked.{Unpacked}
use Rattle.patterns.proofs.Pattern.{no_nan}
use Rattle.patterns.proofs.Leading.{zeros, zeros-in}
use Rattle.roots.proofs.Lifted.{lifted-lt, pattern_lt, pattern-value}
use Rattle.roots.proofs.root_of.Goals as goal

free : (p : Unpacked) → 0 < p.digits → (11 ≤ zeros p.digits) × (zeros p.digits ≤ 63)
free p h = zeros-in p.digits h p.digits_fit

pub overflow_sub-m : goal.overflow_sub-m
overflow_sub-m c = omega (arith, free c.args.p c.requires)

pub invariant_of-half_root : goal.invariant_of-half_root
invariant_of-half_root c =
    let p = c.args.p in record { fits = rw c.from-zeros.ensures (lifted-lt p.digits p.place c.requires p.digits_fit p.place_fits) }

-- the pattern, with the half root as the call gave it
under : (c : goal.After-half_root) → (c.args.p.place + 64 - c.from-zeros.result + 969) / 2 * 2 ^ 52 + c.half_root.result < 2047 * 2 ^ 52
under c = let p = c.args.p in rw (c.half_root.ensures, c.from-zeros.ensures) (pattern_lt p.digits p.place c.requires p.digits_fit p.place_fits)

pub overflow_add-result-2 : goal.overflow_add-result-2
overflow_add-result-2 c = omega (arith, under c)

pub float_from_bits-result : goal.float_from_bits-result
float_from_bits-result c = let h = under c in no_nan _ (omega arith)

pub returns : goal.returns
returns c = let p = c.args.p in rw (c.half_root.ensures, c.from-zeros.ensures) (pattern-value p.digits p.place c.requires p.digits_fit p.place_fits)
