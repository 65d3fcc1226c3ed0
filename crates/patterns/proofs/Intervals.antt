-- Interval arithmetic in units of 2 ^ -1074: what an operation of binary64 makes of values that are known within bounds. A bound q * 2 ^ j with fewer than 54
-- digits is a value of the format, so no rounding passes it. Assumes nothing.
use Rattle.std.proofs.Common.{◌≡◌, ℕ, ◌+◌, ◌-◌, ◌*◌, ◌^◌, ◌<◌, ◌≤◌, Bool, true, false, not, T, ltb, sym, refl, zero-le, le_trans, le_of_eq, le_refl}
use Rattle.std.proofs.Common.{lt_of_lt_of_le, lt_of_le_of_lt, mul-le-mul_right, mul-le-mul, mul-le-mul_left, mul-one, arith, pow_pos, ltb-false, ltb-true}
use lib.Ieee.{Float, binary64, unlike, fits, neg, sub}
use lib.Ieee.Scale.{finite}
use Rattle.patterns.specs.Bits.{sign_bit}
use Rattle.patterns.specs.Operators.{◌⊕◌, ◌⊖◌, ◌⊗◌, ◌⊘◌}
use Rattle.patterns.proofs.Sums.{add-comm-float}
use Rattle.patterns.specs.Units.{Has, units_of}
use Rattle.patterns.proofs.Rounded.{rounded, rounded-exact, rounded-mono}
use Rattle.patterns.proofs.Units.{units-exact, neg-has}
use Rattle.patterns.proofs.Operations.{Rounds, rounds-has, mul-rounds, add_rounds, less-rounds, more-rounds, div-rounds}

-- of either sign, and of U units at most
pub record Within (x : Float) (U : ℕ) : Type 0 where
  pub sign : Bool
  pub units : ℕ
  pub has : Has x sign units
  pub high : units ≤ U

-- with the sign bit clear, and from L to U units
pub record Clear (x : Float) (L U : ℕ) : Type 0 where
  pub units : ℕ
  pub has : Has x false units
  pub low : L ≤ units
  pub high : units ≤ U

pub within_held : (x : Float) (U : ℕ) → T (fits binary64 x) → T (finite x) → units_of x ≤ U → Within x U
within_held x U f t h = record { sign = sign_bit x; units = units_of x; has = units-exact x f t; high = h }

pub within_of : {x : Float} {L U : ℕ} → Clear x L U → Within x U
within_of c = record { sign = false; units = c.units; has = c.has; high = c.high }

pub within_more : {x : Float} {U M : ℕ} → U ≤ M → Within x U → Within x M
within_more h w = record { sign = w.sign; units = w.units; has = w.has; high = le_trans w.high h }

pub clear-more : {x : Float} {L U K M : ℕ} → K ≤ L → U ≤ M → Clear x L U → Clear x K M
clear-more l h c = record { units = c.units; has = c.has; low = le_trans l c.low; high = le_trans c.high h }

pub clear-is : {x : Float} (n : ℕ) → Has x false n → Clear x n n
clear-is n h = record { units = n; has = h; low = le_refl n; high = le_refl n }

pub within-neg : {x : Float} {U : ℕ} → Within x U → Within (neg x) U
within-neg {x} w = record { sign = not w.sign; units = w.units; has = neg-has x w.sign w.units w.has; high = w.high }

-- ---- a bound with fewer than 54 digits holds of what is rounded

pub rounded-from : (p i : ℕ) → p < 2 ^ 53 → (n c : ℕ) → 0 < c → p * 2 ^ i * c ≤ n → p * 2 ^ i ≤ rounded n c
rounded-from p i s n c C h = le_trans (le_of_eq (sym (rounded-exact p i c C s))) (rounded-mono (p * 2 ^ i * c) c n c C C (mul-le-mul_right c h))

module _ (q j : ℕ) (small : q < 2 ^ 53) (fine : q * 2 ^ j < 2 ^ 2098) where
  pub rounded-up-to : (n c : ℕ) → 0 < c → n ≤ q * 2 ^ j * c → rounded n c ≤ q * 2 ^ j
  rounded-up-to n c C h = le_trans (rounded-mono n c (q * 2 ^ j * c) c C C (mul-le-mul_right c h)) (le_of_eq (rounded-exact q j c C small))

  within-rounds : {z : Float} (s : Bool) (n d : ℕ) → 0 < d → Rounds z s n d → n ≤ q * 2 ^ j * d → Within z (q * 2 ^ j)
  within-rounds {z} s n d D r h =
      let l = rounded-up-to n d D h in
      record { sign = s; units = rounded n d; has = rounds-has z s n d D r (lt_of_le_of_lt l fine); high = l }

  clear-rounds : {z : Float} {L : ℕ} (n d : ℕ) → 0 < d → Rounds z false n d → L ≤ rounded n d → n ≤ q * 2 ^ j * d → Clear z L (q * 2 ^ j)
  clear-rounds {z} n d D r g h =
      let l = rounded-up-to n d D h in
      record { units = rounded n d; has = rounds-has z false n d D r (lt_of_le_of_lt l fine); low = g; high = l }

  over-one : {n : ℕ} → n ≤ q * 2 ^ j → n ≤ q * 2 ^ j * 1
  over-one h = le_trans h (le_of_eq (sym (mul-one (q * 2 ^ j))))

  -- ---- products and quotients

  pub mul-within : {x y : Float} {X Y : ℕ} → X * Y ≤ q * 2 ^ j * 2 ^ 1074 → Within x X → Within y Y → Within (x ⊗ y) (q * 2 ^ j)
  mul-within {x} {y} h a b =
      within-rounds (unlike a.sign b.sign) (a.units * b.units) (2 ^ 1074) (pow_pos 1074)
      (mul-rounds x y a.sign b.sign a.units b.units a.has b.has) (le_trans (mul-le-mul a.high b.high) h)

  pub mul-clear : {x y : Float} {K X L Y : ℕ} → X * Y ≤ q * 2 ^ j * 2 ^ 1074 → Clear x K X → Clear y L Y → Clear (x ⊗ y) 0 (q * 2 ^ j)
  mul-clear {x} {y} h a b =
      clear-rounds (a.units * b.units) (2 ^ 1074) (pow_pos 1074) (mul-rounds x y false false a.units b.units a.has b.has) zero-le
      (le_trans (mul-le-mul a.high b.high) h)

  pub div-within : {x y : Float} {X L Y : ℕ} → 0 < L → X * 2 ^ 1074 ≤ q * 2 ^ j * L → Within x X → Clear y L Y → Within (x ⊘ y) (q * 2 ^ j)
  div-within {x} {y} P h a b =
      let p = lt_of_lt_of_le P b.low in
      within-rounds (unlike a.sign false) (a.units * 2 ^ 1074) b.units p (div-rounds x y a.sign false a.units b.units a.has b.has p)
      (le_trans (mul-le-mul_right (2 ^ 1074) a.high) (le_trans h (mul-le-mul_left (q * 2 ^ j) b.low)))

  -- ---- sums and differences

  -- of two numbers, with a lower bound p * 2 ^ i
  pub sum-clear : {x y : Float} {K X L Y : ℕ} (p i : ℕ) → p < 2 ^ 53 → p * 2 ^ i ≤ K + L → X + Y ≤ q * 2 ^ j → Clear x K X → Clear y L Y
      → Clear (x ⊕ y) (p * 2 ^ i) (q * 2 ^ j)
  sum-clear {x} {y} {K} {X} {L} {Y} p i s g h a b =
      clear-rounds (a.units + b.units) 1 (pow_pos 0) (add_rounds x y false a.units b.units a.has b.has)
      (rounded-from p i s (a.units + b.units) 1 (pow_pos 0) (le_trans (le_of_eq (mul-one (p * 2 ^ i))) low-le)) (over-one high_le)
    where
      high_le : a.units + b.units ≤ q * 2 ^ j
      high_le = let u = a.high in let v = b.high in omega arith

      low-le : p * 2 ^ i ≤ a.units + b.units
      low-le = let u = a.low in let v = b.low in omega arith

  -- opposite signs: the lesser size goes off the greater
  opposite : (x y : Float) (X Y : ℕ) → X - Y ≤ q * 2 ^ j → Y - X ≤ q * 2 ^ j → Has x false X → Has y true Y → Within (x ⊕ y) (q * 2 ^ j)
  opposite x y X Y a b h k = go (ltb X Y) refl
    where
      go : (t : Bool) → ltb X Y ≡ t → Within (x ⊕ y) (q * 2 ^ j)
      go true g = within-rounds true (Y - X) 1 (pow_pos 0) (more-rounds x y X Y h k (ltb-true X Y g)) (over-one b)
      go false g = within-rounds false (X - Y) 1 (pow_pos 0) (less-rounds x y X Y h k (ltb-false X Y g)) (over-one a)

  pub add-within : {x y : Float} {X Y : ℕ} → X + Y ≤ q * 2 ^ j → Within x X → Within y Y → Within (x ⊕ y) (q * 2 ^ j)
  add-within {x} {y} {X} {Y} h a b = go a.sign b.sign a.has b.has
    where
      sum-le : a.units + b.units ≤ q * 2 ^ j
      sum-le = let k = a.high in let l = b.high in omega arith

      parts-le : (a.units - b.units ≤ q * 2 ^ j) × (b.units - a.units ≤ q * 2 ^ j)
      parts-le = let k = sum-le in (omega arith, omega arith)

      same : (s : Bool) → Has x s a.units → Has y s b.units → Within (x ⊕ y) (q * 2 ^ j)
      same s k l = within-rounds s (a.units + b.units) 1 (pow_pos 0) (add_rounds x y s a.units b.units k l) (over-one sum-le)

      go : (s t : Bool) → Has x s a.units → Has y t b.units → Within (x ⊕ y) (q * 2 ^ j)
      go true true k l = same true k l
      go false false k l = same false k l
      go false true k l = opposite x y a.units b.units parts-le.0 parts-le.1 k l
      go true false k l = rw (add-comm-float binary64 x y) (opposite y x b.units a.units parts-le.1 parts-le.0 l k)

  -- the sign bit stays clear where the greater term's is
  pub add-clear : {x y : Float} {K X Y : ℕ} → X + Y ≤ q * 2 ^ j → Y ≤ K → Clear x K X → Within y Y → Clear (x ⊕ y) 0 (q * 2 ^ j)
  add-clear {x} {y} {K} {X} {Y} h e a b = go b.sign b.has
    where
      sum-le : a.units + b.units ≤ q * 2 ^ j
      sum-le = let k = a.high in let l = b.high in omega arith

      less-le : a.units - b.units ≤ q * 2 ^ j
      less-le = let k = sum-le in omega arith

      greater : b.units ≤ a.units
      greater = let k = a.low in let l = b.high in omega arith

      go : (t : Bool) → Has y t b.units → Clear (x ⊕ y) 0 (q * 2 ^ j)
      go false l = clear-rounds (a.units + b.units) 1 (pow_pos 0) (add_rounds x y false a.units b.units a.has l) zero-le (over-one sum-le)
      go true l = clear-rounds (a.units - b.units) 1 (pow_pos 0) (less-rounds x y a.units b.units a.has l greater) zero-le (over-one less-le)

  -- a difference of two numbers
  pub sub_within : {x y : Float} {K X L Y : ℕ} → X ≤ q * 2 ^ j + L → Y ≤ q * 2 ^ j + K → Clear x K X → Clear y L Y → Within (x ⊖ y) (q * 2 ^ j)
  unfolding sub
  sub_within {x} {y} {K} {X} {L} {Y} h k a b =
      opposite x (neg y) a.units b.units one two a.has (neg-has y false b.units b.has)
    where
      one : a.units - b.units ≤ q * 2 ^ j
      one = let u = a.high in let v = b.low in omega arith

      two : b.units - a.units ≤ q * 2 ^ j
      two = let u = b.high in let v = a.low in omega arith

  -- a number less its part
  pub sub-clear : {x y : Float} {K X L Y : ℕ} → X ≤ q * 2 ^ j → Y ≤ K → Clear x K X → Clear y L Y → Clear (x ⊖ y) 0 (q * 2 ^ j)
  unfolding sub
  sub-clear {x} {y} {K} {X} {L} {Y} h k a b =
      clear-rounds {z = x ⊕ neg y} (a.units - b.units) 1 (pow_pos 0)
      (less-rounds x (neg y) a.units b.units a.has (neg-has y false b.units b.has) greater) zero-le (over-one less-le)
    where
      less-le : a.units - b.units ≤ q * 2 ^ j
      less-le = let u = a.high in omega arith

      greater : b.units ≤ a.units
      greater = let u = a.low in let v = b.high in omega arith
