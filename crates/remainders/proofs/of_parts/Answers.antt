-- `of_parts` meets its contract: the digits are shifted up by the free places, or by the place where that is less.
use Rattle.std.proofs.Common.{min, ◌≡◌, ℕ, ◌+◌, ◌-◌, ◌*◌, ◌%◌, ◌^◌, ◌<◌, ◌≤◌, false, sym, refl, ap, ◌∙◌, arith}
use lib.Ieee.{binary64, odd, of_bits}
use Rattle.patterns.specs.declared.Unpacked.{Unpacked}
use Rattle.patterns.proofs.Pattern.{no_nan}
use Rattle.patterns.proofs.Leading.{zeros, zeros-in, pattern_lt, pattern-value}
use Rattle.remainders.proofs.of_parts.Goals as goal

zero-value : (k : ℕ) → of_bits binary64 0 ≡ odd 53 false 0 k 1074
unfolding of_bits odd
zero-value k = refl

positive : (n : ℕ) → (n ≡ 0 → ⊥) → 0 < n
positive n h = omega arith

under : (n : ℕ) → n < 2047 * 2 ^ 52 → n % 2 ^ 63 ≤ 2047 * 2 ^ 52
under n h = omega arith

pub returns-then-p-eq0 : goal.returns-then-p-eq0
returns-then-p-eq0 c = zero-value c.args.p.place ∙ ap (λ (n : ℕ). odd 53 false n c.args.p.place 1074) (sym c.if-p-eq0.true)

free : (p : Unpacked) → (p.digits ≡ 0 → ⊥) → (11 ≤ zeros p.digits) × (zeros p.digits ≤ 63)
free p h = zeros-in p.digits (positive _ h) p.digits_fit

pub overflow_sub-room : goal.overflow_sub-room
overflow_sub-room c = omega (arith, free c.args.p c.if-p-eq0.false, c.from-room.ensures)

-- the digits are shifted up by j: the room, or the place where that is no more
module _ (p : Unpacked) (some : p.digits ≡ 0 → ⊥) (under-top : p.place < 2046) (z j : ℕ) (e : z ≡ zeros p.digits) (f : j ≡ min (z - 11) p.place) where
  abbrev pattern : ℕ
  pattern = (p.place - j) * 2 ^ 52 + p.digits * 2 ^ j % 2 ^ 64

  below : pattern < 2047 * 2 ^ 52
  below = pattern_lt p.digits (positive _ some) p.digits_fit p.place j under-top (omega arith) (omega arith) (λ (h : 0 < p.place - j). omega arith)

  same : of_bits binary64 pattern ≡ odd 53 false p.digits p.place 1074
  same = pattern-value p.digits (positive _ some) p.digits_fit p.place j under-top (omega arith) (omega arith) (λ (h : 0 < p.place - j). omega arith)

-- no place is left
used-up : (k n : ℕ) → (k - k) * 2 ^ 52 + n ≡ n
used-up k n = omega arith

pub overflow_add-result : goal.overflow_add-result
overflow_add-result c =
    omega (arith, below c.args.p c.if-p-eq0.false c.requires c.from-room.result (c.from-room.result - 11) c.from-room.ensures (omega arith))

pub float_from_bits-result : goal.float_from_bits-result
float_from_bits-result c =
    no_nan _ (under _ (below c.args.p c.if-p-eq0.false c.requires c.from-room.result (c.from-room.result - 11) c.from-room.ensures (omega arith)))

pub returns-then-room-p : goal.returns-then-room-p
returns-then-room-p c = same c.args.p c.if-p-eq0.false c.requires c.from-room.result (c.from-room.result - 11) c.from-room.ensures (omega arith)

pub float_from_bits-result-2 : goal.float_from_bits-result-2
float_from_bits-result-2 c =
    let p = c.args.p in
    let h = below p c.if-p-eq0.false c.requires c.from-room.result p.place c.from-room.ensures (omega arith) in
    no_nan _ (under _ (rw (used-up p.place (p.digits * 2 ^ p.place % 2 ^ 64)) at h))

pub returns : goal.returns
returns c =
    let p = c.args.p in
    ap (of_bits binary64) (sym (used-up p.place (p.digits * 2 ^ p.place % 2 ^ 64)))
    ∙ same p c.if-p-eq0.false c.requires c.from-room.result p.place c.from-room.ensures (omega arith)
