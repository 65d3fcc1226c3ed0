-- The root of a value whose sign bit is clear has a clear sign bit, and is no NaN. Assumes nothing.
use mathlib.Core.Path.{◌≡◌, refl}
use Prim.Native.Nat.{ℕ, zero, suc, ◌+◌, ◌-◌, ◌*◌, ◌/◌, ◌^◌, compare}
use mathlib.Core.Bool.{Bool, true, false, not, cond, true≢false}
use lib.Dec.{T, ltb}
use lib.Ieee.{Float, nan, inf, fin, binary64, size, nearest, odd, units, is_nan}
use Rattle.patterns.specs.Bits.{sign_bit}
use Rattle.patterns.proofs.Sign.{units-sign}
use Rattle.roots.specs.Root.{in_units, whole_root, round_root, sqrt}

-- a rounded root is so many units
record InUnits (x : Float) : Type 0 where
  digits : ℕ
  place : ℕ
  is : x ≡ units binary64 false digits place

rounded : (a : ℕ) → InUnits (round_root a)
unfolding round_root
rounded a =
    let w = whole_root a in
    let k = size w - 53 in
    let q = w / 2 ^ k in
    record { digits = nearest q (compare (4 * a) ((2 * q + 1) * 2 ^ k * ((2 * q + 1) * 2 ^ k))); place = k; is = refl }

pub root-sign : (x : Float) → sign_bit x ≡ false → sign_bit (sqrt x) ≡ false
unfolding sqrt
root-sign nan h = refl
root-sign (inf true) h = absurd (true≢false h)
root-sign (inf false) h = refl
root-sign (fin s zero e) h = h
root-sign (fin true (suc m) e) h = refl
root-sign (fin false (suc m) e) h = let r = rounded (in_units (suc m) e * 2 ^ 1074) in rw r.is (units-sign false r.digits r.place)

units-no-nan : (q k : ℕ) → T (not (is_nan (units binary64 false q k)))
unfolding units odd is_nan
units-no-nan q k = go (ltb (q * 2 ^ k) (2 ^ 2098)) q
  where
    go : (b : Bool) (q : ℕ) → T (not (is_nan (cond b (odd 54 false q k 1074) (inf false))))
    go true zero = tt
    go true (suc q) = tt
    go false q = tt

pub root-no-nan : (x : Float) → sign_bit x ≡ false → T (not (is_nan x)) → T (not (is_nan (sqrt x)))
unfolding sqrt is_nan
root-no-nan nan h t = absurd t
root-no-nan (inf true) h t = absurd (true≢false h)
root-no-nan (inf false) h t = tt
root-no-nan (fin s zero e) h t = tt
root-no-nan (fin true (suc m) e) h t = absurd (true≢false h)
root-no-nan (fin false (suc m) e) h t = let r = rounded (in_units (suc m) e * 2 ^ 1074) in rw r.is (units-no-nan r.digits r.place)
