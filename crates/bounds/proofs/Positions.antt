-- The parts of a position that a board takes are at most 2 in size, so nothing overflows between two of them, and their angle is no NaN. Assumes nothing.
use mathlib.Core.Path.{◌≡◌, refl, subst}
use Prim.Native.Nat.{ℕ, ◌+◌, ◌-◌, ◌*◌, ◌^◌, ◌≤◌, ◌<◌}
use native.Mathlib.Nat.{le_trans, le_of_lt, le_of_suc-le-suc, lt_of_not-le, not-le_of_lt, mul-le-mul, le-add_left, le-add_right}
use native.Mathlib.Omega.{arith}
use mathlib.Core.Bool.{Bool, true, false, not}
use lib.Dec.{T, lit<, lit≤}
use lib.Pow.{pow_pos}
use lib.Ieee.{Float, nan, inf, fin, binary64, unlike, neg, sub, le, is_nan, of_bits, fits}
use lib.Ieee.Scale.{finite}
use Rattle.patterns.specs.Bits.{sign_bit, magnitude}
use Rattle.patterns.specs.Operators.{◌⊕◌, ◌⊖◌, ◌⊗◌}
use Rattle.float.specs.Trig.{atan2}
use Rattle.vectors.specs.Literal as literal
use Rattle.vectors.specs.Vec3.{squared_norm, norm, dot_prod, cross_prod}
use Rattle.vectors.specs.Zero.{Held}
use Rattle.vectors.specs.declared.vec3.Vec3.{Vec3}
use Rattle.plain.specs.Questions.{slack}
use Rattle.patterns.specs.Units.{Has, units_of}
use Rattle.patterns.proofs.Rounded.{rounded}
use Rattle.patterns.proofs.Units.{units-exact, magnitude-has, neg-has, has-finite, units-of-le}
use Rattle.patterns.proofs.Operations.{Rounds, rounds-finite, mul-rounds, add_rounds, less-rounds}
use Rattle.patterns.proofs.Intervals.{Within, within_held, within-neg, within_of, clear-is, rounded-from, mul-within, add-within}
use Rattle.patterns.proofs.Finite.{finite-no-nan, finite-terms, finite-less, finite-of-square}
use Rattle.roots.proofs.RootSign.{root-no-nan}
use Rattle.bounds.proofs.Norms.{squared-sign, norm-sign}
use Rattle.bounds.proofs.Arc.{atan2-in}

-- ---- a squared length near one is below 4

has_one : Has literal.one false (2 ^ 1074)
unfolding of_bits
has_one = (refl, refl)

has-zero : Has literal.zero false 0
unfolding of_bits
has-zero = (refl, refl)

has-slack : Has slack false (2 ^ 1034)
unfolding of_bits
has-slack = (refl, refl)

finite-of-le : (x : Float) → T (le (magnitude x) slack) → T (finite x)
unfolding le of_bits
finite-of-le nan t = t
finite-of-le (inf s) t = t
finite-of-le (fin s m e) t = tt

below-four : (x : Float) (n : ℕ) → Has x false n → T (le (magnitude (x ⊖ literal.one)) slack) → n < 2 ^ 1076
unfolding sub
below-four x n h t = lt_of_not-le never
  where
    apart : (n p q : ℕ) → p + q ≤ n → q ≤ n - p
    apart n p q h = omega arith

    never : 2 ^ 1076 ≤ n → ⊥
    never g =
        let k = less-rounds x (neg literal.one) n (2 ^ 1074) h (neg-has literal.one false (2 ^ 1074) has_one) (le_trans (lit≤ tt) g) in
        let v = rounds-finite (x ⊕ neg literal.one) (n - 2 ^ 1074) 1 (pow_pos 0) k (finite-of-le (x ⊕ neg literal.one) t) in
        let hi = units-of-le (magnitude (x ⊕ neg literal.one)) slack _ _ (magnitude-has (x ⊕ neg literal.one) false _ v) has-slack t in
        let lo = rounded-from 1 1075 (lit< tt) (n - 2 ^ 1074) 1 (pow_pos 0) (apart n (2 ^ 1074) (2 ^ 1075) (le_trans (lit≤ tt) g)) in
        not-le_of_lt (lit< tt) (le_trans lo hi)

-- ---- so each part is at most 2

unlike-self : (s : Bool) → unlike s s ≡ false
unlike-self true = refl
unlike-self false = refl

pub record Parts (v : Vec3) : Type 0 where
  pub x : Within v.x (2 ^ 1075)
  pub y : Within v.y (2 ^ 1075)
  pub z : Within v.z (2 ^ 1075)

-- a square in units; that of a part above 2 is 4 or more
record Square (x : Float) : Type 0 where
  units : ℕ
  has : Has (x ⊗ x) false units
  great : 2 ^ 1075 < units_of x → 2 ^ 1076 ≤ units

square : (x : Float) → T (fits binary64 x) → T (finite (x ⊗ x)) → Square x
square x f t =
    let n = units_of x in
    let h = units-exact x f (finite-of-square x t) in
    record {
      units = rounded (n * n) (2 ^ 1074);
      has = rounds-finite (x ⊗ x) (n * n) (2 ^ 1074) (pow_pos 1074)
          (subst (λ (s : Bool). Rounds (x ⊗ x) s (n * n) (2 ^ 1074)) (unlike-self (sign_bit x)) (mul-rounds x x (sign_bit x) (sign_bit x) n n h h)) t;
      great = λ g. rounded-from 1 1076 (lit< tt) (n * n) (2 ^ 1074) (pow_pos 1074) (le_trans (lit≤ tt) (mul-le-mul (le_of_lt g) (le_of_lt g)));
    }

-- a sum in units; it is 4 or more where one term is
record Sum (x y : Float) (X Y : ℕ) : Type 0 where
  units : ℕ
  has : Has (x ⊕ y) false units
  first_great : 2 ^ 1076 ≤ X → 2 ^ 1076 ≤ units
  second_great : 2 ^ 1076 ≤ Y → 2 ^ 1076 ≤ units

sum_of : (x y : Float) (X Y : ℕ) → Has x false X → Has y false Y → T (finite (x ⊕ y)) → Sum x y X Y
sum_of x y X Y h k t = record {
  units = rounded (X + Y) 1;
  has = rounds-finite (x ⊕ y) (X + Y) 1 (pow_pos 0) (add_rounds x y false X Y h k) t;
  first_great = λ g. rounded-from 1 1076 (lit< tt) (X + Y) 1 (pow_pos 0) (le_trans (lit≤ tt) (le_trans g (le-add_right X Y)));
  second_great = λ g. rounded-from 1 1076 (lit< tt) (X + Y) 1 (pow_pos 0) (le_trans (lit≤ tt) (le_trans g (le-add_left Y X)));
}

module _ (v : Vec3) (f : Held v) (t : T (le (magnitude (squared_norm v ⊖ literal.one)) slack)) where
  abbrev xx : Float
  xx = v.x ⊗ v.x

  abbrev yy : Float
  yy = v.y ⊗ v.y

  abbrev zz : Float
  zz = v.z ⊗ v.z

  all-finite : T (finite (squared_norm v))
  all-finite = finite-less (squared_norm v) literal.one (finite-of-le (squared_norm v ⊖ literal.one) t)

  two-finite : T (finite (xx ⊕ yy)) × T (finite zz)
  two-finite = finite-terms (xx ⊕ yy) zz all-finite

  each-finite : T (finite xx) × T (finite yy)
  each-finite = finite-terms xx yy two-finite.0

  square-x : Square v.x
  square-x = square v.x f.x each-finite.0

  square-y : Square v.y
  square-y = square v.y f.y each-finite.1

  square-z : Square v.z
  square-z = square v.z f.z two-finite.1

  sum-xy : Sum xx yy square-x.units square-y.units
  sum-xy = sum_of xx yy square-x.units square-y.units square-x.has square-y.has two-finite.0

  sum-xyz : Sum (xx ⊕ yy) zz sum-xy.units square-z.units
  sum-xyz = sum_of (xx ⊕ yy) zz sum-xy.units square-z.units sum-xy.has square-z.has all-finite

  never : 2 ^ 1076 ≤ sum-xyz.units → ⊥
  never g = not-le_of_lt (below-four (squared_norm v) sum-xyz.units sum-xyz.has t) g

  small : (x : Float) → T (fits binary64 x) → T (finite x) → (2 ^ 1075 < units_of x → ⊥) → Within x (2 ^ 1075)
  small x g u n = within_held x (2 ^ 1075) g u (le_of_suc-le-suc (lt_of_not-le n))

  pub parts_in : Parts v
  parts_in = record {
    x = small v.x f.x (finite-of-square v.x each-finite.0) (λ g. never (sum-xyz.first_great (sum-xy.first_great (square-x.great g))));
    y = small v.y f.y (finite-of-square v.y each-finite.1) (λ g. never (sum-xyz.first_great (sum-xy.second_great (square-y.great g))));
    z = small v.z f.z (finite-of-square v.z two-finite.1) (λ g. never (sum-xyz.second_great (square-z.great g)));
  }

-- ---- and nothing overflows between two such

within-no-nan : {x : Float} {U : ℕ} → Within x U → T (not (is_nan x))
within-no-nan {x} w = finite-no-nan x (has-finite x w.sign w.units w.has)

-- products up to 4
product-in : {x y : Float} → Within x (2 ^ 1075) → Within y (2 ^ 1075) → Within (x ⊗ y) (1 * 2 ^ 1076)
product-in a b = mul-within 1 1076 (lit< tt) (lit< tt) (lit≤ tt) a b

dot-in : (v o : Vec3) → Parts v → Parts o → Within (dot_prod v o) (1 * 2 ^ 1078)
dot-in v o a b =
    add-within 1 1078 (lit< tt) (lit< tt) (lit≤ tt)
    (add-within 1 1077 (lit< tt) (lit< tt) (lit≤ tt) (product-in a.x b.x) (product-in a.y b.y)) (product-in a.z b.z)

-- a part of the cross product, up to 8, and with 0.0 added
products-in : (x y z w : Float) → Within x (2 ^ 1075) → Within y (2 ^ 1075) → Within z (2 ^ 1075) → Within w (2 ^ 1075) → Within (x ⊗ y ⊖ z ⊗ w) (1 * 2 ^ 1077)
unfolding sub
products-in x y z w a b c d = add-within 1 1077 (lit< tt) (lit< tt) {x = x ⊗ y} {y = neg (z ⊗ w)} (lit≤ tt) (product-in a b) (within-neg (product-in c d))

cross-part : {x y z w : Float} → Within x (2 ^ 1075) → Within y (2 ^ 1075) → Within z (2 ^ 1075) → Within w (2 ^ 1075)
    → Within (literal.zero ⊕ (x ⊗ y ⊖ z ⊗ w)) (1 * 2 ^ 1077)
cross-part {x} {y} {z} {w} a b c d = add-within 1 1077 (lit< tt) (lit< tt) (lit≤ tt) (within_of (clear-is 0 has-zero)) (products-in x y z w a b c d)

square-in : {x : Float} → Within x (1 * 2 ^ 1077) → Within (x ⊗ x) (1 * 2 ^ 1080)
square-in a = mul-within 1 1080 (lit< tt) (lit< tt) (lit≤ tt) a a

norm-no-nan : (v o : Vec3) → Parts v → Parts o → T (not (is_nan (norm (cross_prod v o))))
norm-no-nan v o a b =
    let x = square-in (cross-part a.y b.z a.z b.y) in
    let y = square-in (cross-part a.z b.x a.x b.z) in
    let z = square-in (cross-part a.x b.y a.y b.x) in
    let c = cross_prod v o in
    root-no-nan (squared_norm c) (squared-sign c)
    (within-no-nan (add-within 1 1082 (lit< tt) (lit< tt) (lit≤ tt) (add-within 1 1081 (lit< tt) (lit< tt) (lit≤ tt) x y) z))

pub angle-no-nan : (v o : Vec3) → Parts v → Parts o → T (not (is_nan (atan2 (norm (cross_prod v o)) (dot_prod v o))))
angle-no-nan v o a b =
    let y = norm (cross_prod v o) in
    let c = atan2-in y (dot_prod v o) (norm-sign (cross_prod v o)) (norm-no-nan v o a b) (within-no-nan (dot-in v o a b)) in
    within-no-nan (within_of c)
