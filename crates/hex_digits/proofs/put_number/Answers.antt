-- `put_number` meets its contract.
use Prim.Native.Nat.{ℕ, zero, suc, ◌+◌, ◌-◌, ◌/◌, ◌%◌, ◌≤◌, ◌<◌}
use mathlib.Core.List.{List}
use mathlib.Core.Path.{◌≡◌, sym, ◌∙◌}
use native.Mathlib.Omega.{arith}
use lib.ListN.{length, set}
use Rattle.hex_digits.specs.Hex.{byte_of, digits}
use Rattle.hex_digits.specs.Write.{over}
use Rattle.hex_digits.proofs.Write.{length_digits, over-nil, over-set, put-stays, put-fits}
use Rattle.hex_digits.proofs.put_number.Goals.{then-at-out-via-then-at-out, then-at-out-via-else-at-out+then-n-out}
use Rattle.hex_digits.proofs.put_number.Goals as goal

-- the last of i digits is stored, and those before it are left to write
digit-stored : (xs : List ℕ) (at i v : ℕ) {b : ℕ} → 0 < i → at + i ≤ length xs → b ≡ byte_of (v % 16)
    → over (set xs (at + (i - 1)) b) at (digits (i - 1) (v / 16)) ≡ over xs at (digits i v)
unfolding digits
digit-stored xs at zero v p h e = let z : ⊥ = omega arith in absurd z
digit-stored xs at (suc j) v p h e =
    let l = length_digits j (v / 16) in
    let k : suc j - 1 ≡ j = omega arith in
    rw (k, e) (rw l at (over-set xs (digits j (v / 16)) at (byte_of (v % 16)) (omega arith)))

pub returns-then-at-out : goal.returns-then-at-out
returns-then-at-out c =
    let n = length_digits c.args.n c.args.value in
    elim c.then-at-out.branch [
      | then-at-out-via-then-at-out w ↦ put-stays (omega arith)
      | then-at-out-via-else-at-out+then-n-out w ↦ put-stays (omega arith)
    ]

pub loop-i-preserved : goal.loop-i-preserved
loop-i-preserved c =
    let l = c.loop-i in
    digit-stored l.out c.args.at l.i l.v (omega arith) (omega arith) c.byte_of.ensures ∙ l.invariant

pub returns : goal.returns
unfolding digits
returns c =
    let l = c.loop-i in
    let a = c.args in
    let z : l.i ≡ 0 = omega arith in
    let n = length_digits a.n a.value in
    put-fits (omega arith) (sym (over-nil l.out a.at) ∙ (rw z at l.invariant)) (omega arith)
