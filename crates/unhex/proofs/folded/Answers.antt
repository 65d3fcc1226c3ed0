-- Each mask is the one that proofs/Fold.antt defines, by computation, so its laws join the digits level by level.
use Prim.Native.Nat.{ℕ, ◌^◌, ◌<◌}
use mathlib.Core.Path.{◌≡◌, ◌∙◌}
use native.Mathlib.Nat.{mod-eq_of_lt}
use native.Mathlib.Omega.{arith}
use lib.Bits.{and_le_r}
use lib.Dec.{lit<}
use Rattle.unhex.specs.Digits.{lows_of}
use Rattle.unhex.proofs.Fold.{mask, joined, paired, paired-joined, spread, spread-joined}
use Rattle.unhex.proofs.folded.Goals as goal

-- each byte as its low bits
abbrev x : ℕ → ℕ
x w = spread 0x0f0f_0f0f_0f0f_0f0f 0x0101_0101_0101_0101 w

-- two digits to each 16 bits
abbrev y : ℕ → ℕ
y w = paired 8 4 0x00ff_00ff_00ff_00ff (x w)

-- four digits to each 32 bits
abbrev z : ℕ → ℕ
z w = paired 16 8 0x0000_ffff_0000_ffff (y w)

one_field : (r : ℕ) → r < 2 ^ 64 → r ≡ joined 64 32 1 r
unfolding joined
one_field r h = rw (mod-eq_of_lt h) (omega arith)

fold_law : (w : ℕ) → paired 32 16 0xffff_ffff (z w) < 2 ^ 64 → paired 32 16 0xffff_ffff (z w) ≡ lows_of 8 w
unfolding mask
fold_law w h =
    one_field (paired 32 16 0xffff_ffff (z w)) h
    ∙ paired-joined 32 16 1 (z w) (lit< tt)
    ∙ paired-joined 16 8 2 (y w) (lit< tt)
    ∙ paired-joined 8 4 4 (x w) (lit< tt)
    ∙ spread-joined 8 w

pub returns : goal.returns
returns c = fold_law c.args.w (omega (arith, and_le_r))
