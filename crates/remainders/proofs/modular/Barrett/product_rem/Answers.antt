-- `product_rem` meets its contract: the product less the estimated multiple of m is below 3 m, so that its low word is the whole of it.
use Rattle.std.proofs.Common.{◌≡◌, ℕ, ◌+◌, ◌-◌, ◌*◌, ◌/◌, ◌%◌, ◌^◌, ◌<◌, ◌≤◌, sym, ap, ◌∙◌, ap₂, lt_of_le_of_lt, le_of_lt, mul-le-mul_left, arith, pow_pos, mod-lt, shl_lt, shr_lt}
use native.Mathlib.Nat.{div-le_of_le-mul, mul-add-mod_self_right}
use Rattle.remainders.specs.declared.modular.Barrett.{Barrett}
use Rattle.remainders.proofs.Modulo.{leads, estimate, barrett-low, barrett-high, taken-off}
use Rattle.remainders.proofs.modular.Barrett.product_rem.Goals as goal

abbrev quotient : ℕ → ℕ → ℕ → ℕ
quotient a b m = estimate (a * b) m (2 ^ 43) (2 ^ 64)

-- the low word of the difference is the difference
difference : (a b m r : ℕ) → a < 2 ^ 54 → b < 2 ^ 53 → 2 ^ 52 ≤ m → m < 2 ^ 53 → r < 2 ^ 64 → (r + quotient a b m * m % 2 ^ 64) % 2 ^ 64 ≡ a * b % 2 ^ 64
    → (a * b ≡ quotient a b m * m + r) × (r < 3 * m)
difference a b m r al bl lead small word e = known (a * b) (quotient a b m * m) m r low (high-of (quotient a b m) m high) small word e
  where
    low : quotient a b m * m ≤ a * b
    low = barrett-low (a * b) m (2 ^ 43) (2 ^ 64) (omega arith) (pow_pos 43) (pow_pos 64)

    high : a * b < (quotient a b m + 3) * m
    high =
        barrett-high (a * b) m (2 ^ 43) (2 ^ 64) (omega arith) (pow_pos 43) (pow_pos 64)
        (le_of_lt (shr_lt 64 43 (lt_of_le_of_lt (mul-le-mul_left a (le_of_lt bl)) (shl_lt 54 53 al))))
        (div-le_of_le-mul m (omega arith))

    high-of : {p : ℕ} (q m : ℕ) → p < (q + 3) * m → p < q * m + 3 * m
    high-of q m h = omega arith

    known : (p q m r : ℕ) → q ≤ p → p < q + 3 * m → m < 2 ^ 53 → r < 2 ^ 64 → (r + q % 2 ^ 64) % 2 ^ 64 ≡ p % 2 ^ 64 → (p ≡ q + r) × (r < 3 * m)
    known p q m r h l s w e = let d : p ≡ q + r = omega arith in (d, omega arith)

-- what the quotient q leaves of the product
abbrev rest : ℕ → ℕ → ℕ → ℕ → ℕ
rest a b m q = (a * b % 2 ^ 64 + (2 ^ 64 - q * m % 2 ^ 64)) % 2 ^ 64

rest_lt : (a b m q : ℕ) → rest a b m q < 2 ^ 64
rest_lt a b m q = omega arith

-- q is the quotient that the inverse gives, by the product's leading word h
made_up : (a b h q : ℕ) (s : Barrett) → (a < 2 ^ 54) × (b < 2 ^ 53) → h ≡ a * 2 ^ 10 % 2 ^ 64 * (b * 2 ^ 11 % 2 ^ 64) / 2 ^ 64 → q ≡ h * s.inverse / 2 ^ 64
    → (a * b ≡ q * s.by.m + rest a b s.by.m q) × (rest a b s.by.m q < 3 * s.by.m)
made_up a b h q s l e f =
    let m = s.by in
    let p = quotient a b m.m in
    let is : q ≡ p = f ∙ ap₂ (λ (x y : ℕ). x * y / 2 ^ 64) (e ∙ leads a b l.0 l.1) s.inverted in
    rw is
    (difference a b m.m (rest a b m.m p) l.0 l.1 m.leads m.fits (rest_lt a b m.m p) (taken-off (a * b) (p * m.m % 2 ^ 64) (mod-lt (p * m.m) (pow_pos 64))))

pub less_twice-requires : goal.less_twice-requires
less_twice-requires c = (made_up c.args.a c.args.b _ _ c.args.self c.requires c.high_product.ensures c.high_product-quotient.ensures).1

pub returns : goal.returns
returns c =
    let a = c.args.a in
    let b = c.args.b in
    let m = c.args.self.by.m in
    let q = c.high_product-quotient.result in
    let e = (made_up a b _ q c.args.self c.requires c.high_product.ensures c.high_product-quotient.ensures).0 in
    c.less_twice.ensures ∙ sym (ap (λ (n : ℕ). n % m) e ∙ mul-add-mod_self_right q m (rest a b m q))
