-- `half_root` meets its contract: whichever number passes the test is the one.
use mathlib.Core.Path.{sym, ◌∙◌}
use Prim.Native.Nat.{◌+◌, ◌-◌, ◌*◌, ◌^◌}
use native.Mathlib.Omega.{arith}
use Rattle.roots.proofs.WholeRoot.{half_is}
use Rattle.roots.proofs.Radicand.half_root.Goals as goal

pub returns-then-is_half_root : goal.returns-then-is_half_root
returns-then-is_half_root c = half_is (c.args.self.m * 2 ^ 54) c.estimate-r.result (omega arith) (sym c.is_half_root.ensures ∙ c.if-is_half_root.true)

pub returns-then-is_half_root-2 : goal.returns-then-is_half_root-2
returns-then-is_half_root-2 c =
    half_is (c.args.self.m * 2 ^ 54) (c.estimate-r.result + 1) (omega arith) (sym c.is_half_root-2.ensures ∙ c.if-is_half_root-2.true)

pub returns-then-is_half_root-3 : goal.returns-then-is_half_root-3
returns-then-is_half_root-3 c =
    half_is (c.args.self.m * 2 ^ 54) (c.estimate-r.result - 1) (omega arith) (sym c.is_half_root-3.ensures ∙ c.if-is_half_root-3.true)
