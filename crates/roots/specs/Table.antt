-- The row of document 01's table that concerns the root, and the infinities, signed zeros and other values beside it.
use Rattle.std.specs.Prelude.{◌≡◌, refl, true, false, pos, negsuc}
use Rattle.std.specs.Float.{nan, inf, fin, binary64}
use Rattle.std.specs.Float.Ieee.{of_bits}
use Rattle.roots.specs.Root.{sqrt}

pub root-of-smallest : sqrt (fin false 1 (negsuc 1073)) ≡ fin false 1 (negsuc 536)
unfolding sqrt of_bits
root-of-smallest = refl

pub root-of-minus-zero : sqrt (fin true 0 (pos 0)) ≡ fin true 0 (pos 0)
unfolding sqrt of_bits
root-of-minus-zero = refl

pub root-of-zero : sqrt (fin false 0 (pos 0)) ≡ fin false 0 (pos 0)
unfolding sqrt of_bits
root-of-zero = refl

pub root-of-infinity : sqrt (inf false) ≡ inf false
unfolding sqrt of_bits
root-of-infinity = refl

pub root-of-minus-infinity : sqrt (inf true) ≡ nan
unfolding sqrt of_bits
root-of-minus-infinity = refl

pub root-of-minus-one : sqrt (fin true 1 (pos 0)) ≡ nan
unfolding sqrt of_bits
root-of-minus-one = refl

pub root-of-largest : sqrt (of_bits binary64 0x7fefffffffffffff) ≡ of_bits binary64 0x5fefffffffffffff
unfolding sqrt of_bits
root-of-largest = refl

pub root-of-two : sqrt (of_bits binary64 0x4000000000000000) ≡ of_bits binary64 0x3ff6a09e667f3bcd
unfolding sqrt of_bits
root-of-two = refl
