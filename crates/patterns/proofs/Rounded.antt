-- `rounded n c` is the whole number of units to which binary64 rounds n / c units, and how near it is to n / c. Nothing here is about floats. Assumes nothing.
use Rattle.std.proofs.Common.{◌≡◌, ℕ, suc, ◌+◌, ◌-◌, ◌*◌, ◌/◌, ◌%◌, ◌^◌, ◌<◌, ◌≤◌, sym, refl, ap, ◌∙◌, inl, inr, zero-le, le_trans, le_of_eq, lt_of_lt_of_le}
use Rattle.std.proofs.Common.{lt_of_le_of_lt, le_of_lt, mul-le-mul_right, mod-lt, mul_assoc, suc-mul, mul_comm, div-lt_iff_lt-mul, eq-or-lt_of_le}
use Rattle.std.proofs.Common.{mul-le-mul_left, mul-lt-mul_of_pos_right, mul-pos, lt_of_not-le, div-add-mod', le-div_iff_mul-le, mul-one, not-le_of_lt, arith}
use Rattle.std.proofs.Common.{pow_pos, pow_mono, pow-add, shl_lt}
use Prim.Native.Nat.{compare, Ordering}
use lib.Pow.{pow-lt}
use lib.Ieee.{size, nearest}
use lib.Ieee.Digits.{size-lt, size-le, size_reaches}
use lib.Ieee.Fits.{nearest-le}
use lib.Ieee.Nearest.{closest, closest_same, closest_mono, div_same, div_mono, nearest-ge}
use lib.Ieee.Order.{drop, kept}
use Rattle.patterns.proofs.Ordering.{Cmp, cmp}
use Rattle.patterns.specs.Units.{Near}
use Rattle.patterns.proofs.Near.{near-more, near-at}

-- a number from 2 ^ j on has more than j digits
pub size-gt : (n j : ℕ) → 2 ^ j ≤ n → j < size n
size-gt n j h = lt_of_not-le (λ (g : size n ≤ j). not-le_of_lt (lt_of_lt_of_le (size-lt n) (pow_mono g)) h)

-- ---- `closest a b` is at most a half from a / b
pub closest-near : (a b : ℕ) → 0 < b → Near (2 * (closest a b * b)) (2 * a) b
closest-near a b B = go (compare (a % b * 2) b) (cmp (a % b * 2) b)
  where
    split : a / b * b + a % b ≡ a
    split = div-add-mod' a b

    less : a % b < b
    less = mod-lt a B

    next : suc (a / b) * b ≡ a / b * b + b
    next = suc-mul (a / b) b

    go : (o : Ordering) → Cmp o (a % b * 2) b → Near (2 * (nearest (a / b) o * b)) (2 * a) b
    go Ordering.lt c = let e = split in let l = less in record { low = omega arith; high = omega arith }
    go Ordering.gt c = let e = split in let l = less in let n = next in record { low = omega arith; high = omega arith }
    go Ordering.eq c =
        let e = split in
        let n = next in
        let v = nearest (a / b) Ordering.eq * b in
        let lo : a / b * b ≤ v = mul-le-mul_right b (nearest-ge (a / b) Ordering.eq) in
        let hi : v ≤ suc (a / b) * b = mul-le-mul_right b (nearest-le (a / b) Ordering.eq) in
        record { low = omega arith; high = omega arith }

-- a / b whole, with nothing left
pub closest-exact : (q b : ℕ) → 0 < b → closest (q * b) b ≡ q
closest-exact q b B = closest_same (q * b) b q 1 B (pow_pos 0) (mul-one (q * b)) ∙ whole q
  where
    whole : (q : ℕ) → closest q 1 ≡ q
    whole q = let n = closest-near q 1 (pow_pos 0) in even (closest q 1) q n
      where
        even : (v q : ℕ) → Near (2 * (v * 1)) (2 * q) 1 → v ≡ q
        even v q n = let a = n.low in let b = n.high in omega arith

-- ---- n / c units, rounded
unfoldable pub rounded : ℕ → ℕ → ℕ
rounded n c = kept 53 n c * 2 ^ drop 53 n c

pub rounded-is : (n c : ℕ) → rounded n c ≡ kept 53 n c * 2 ^ drop 53 n c
unfolding rounded
rounded-is n c = refl

-- at most half of the unit kept, which is 2 ^ drop
half : (n c : ℕ) → 0 < c → Near (2 * (rounded n c * c)) (2 * n) (c * 2 ^ drop 53 n c)
half n c C =
    let k = drop 53 n c in
    near-at (ap (λ (z : ℕ). 2 * z) (swap (kept 53 n c) (2 ^ k) c ∙ ap (λ (z : ℕ). z * c) (sym (rounded-is n c)))) refl refl
    (closest-near n (c * 2 ^ k) (mul-pos C (pow_pos k)))
  where
    swap : (x y z : ℕ) → x * (z * y) ≡ x * y * z
    swap x y z = ap (λ (w : ℕ). x * w) (mul_comm z y) ∙ sym (mul_assoc x y z)

drop_le : (n c j : ℕ) → 0 < c → n < 2 ^ (53 + j) * c → drop 53 n c ≤ j
drop_le n c j C h = less (size (n / c)) j (size-le (n / c) (53 + j) ((div-lt_iff_lt-mul C).1 h))
  where
    less : (z j : ℕ) → z ≤ 53 + j → z - 53 ≤ j
    less z j h = omega arith

-- below 2 ^ (53 + j) units: at most half of 2 ^ j units. At j = 0 that is the subnormal range and the first normal binade
pub rounded-below : (n c j : ℕ) → 0 < c → n < 2 ^ (53 + j) * c → Near (2 * (rounded n c * c)) (2 * n) (c * 2 ^ j)
rounded-below n c j C h = near-more (mul-le-mul_left c (pow_mono (drop_le n c j C h))) (half n c C)

-- a common factor changes nothing
pub rounded-same : (n c n' c' : ℕ) → 0 < c → 0 < c' → n * c' ≡ n' * c → rounded n c ≡ rounded n' c'
rounded-same n c n' c' C C' e =
    let k : drop 53 n c ≡ drop 53 n' c' = ap (λ (z : ℕ). size z - 53) (div_same n c n' c' C C' e) in
    let j = drop 53 n' c' in
    let y : n * (c' * 2 ^ j) ≡ n' * (c * 2 ^ j) = sym (mul_assoc n c' (2 ^ j)) ∙ ap (λ (z : ℕ). z * 2 ^ j) e ∙ mul_assoc n' c (2 ^ j) in
    rounded-is n c
    ∙ ap (λ (z : ℕ). closest n (c * 2 ^ z) * 2 ^ z) k
    ∙ ap (λ (z : ℕ). z * 2 ^ j) (closest_same n (c * 2 ^ j) n' (c' * 2 ^ j) (mul-pos C (pow_pos j)) (mul-pos C' (pow_pos j)) y)
    ∙ sym (rounded-is n' c')

-- 2 ^ j in multiples of 2 ^ k
in_two : (j k : ℕ) → k ≤ j → 2 ^ j ≡ 2 ^ (j - k) * 2 ^ k
in_two j k h = ap (λ (x : ℕ). 2 ^ x) (back j k h) ∙ pow-add 2 (j - k) k
  where
    back : (j k : ℕ) → k ≤ j → j ≡ j - k + k
    back j k h = omega arith

-- what has at most 53 digits is kept as it is
pub rounded-exact : (q j c : ℕ) → 0 < c → q < 2 ^ 53 → rounded (q * 2 ^ j * c) c ≡ q * 2 ^ j
rounded-exact q j c C h =
    let n = q * 2 ^ j * c in
    let k = drop 53 n c in
    let r = q * 2 ^ (j - k) in
    let d : k ≤ j = drop_le n c j C (mul-lt-mul_of_pos_right (shl_lt 53 j h) C) in
    let e : r * 2 ^ k ≡ q * 2 ^ j = mul_assoc q (2 ^ (j - k)) (2 ^ k) ∙ ap (λ (x : ℕ). q * x) (sym (in_two j k d)) in
    let f : n ≡ r * (c * 2 ^ k) = ap (λ (x : ℕ). x * c) (sym e) ∙ mul_assoc r (2 ^ k) c ∙ ap (λ (x : ℕ). r * x) (mul_comm (2 ^ k) c) in
    rounded-is n c ∙ ap (λ (x : ℕ). x * 2 ^ k) (ap (λ (x : ℕ). closest x (c * 2 ^ k)) f ∙ closest-exact r (c * 2 ^ k) (mul-pos C (pow_pos k))) ∙ e

-- ---- the order
size_mono : (a b : ℕ) → a ≤ b → size a ≤ size b
size_mono a b h = size-le a (size b) (lt_of_le_of_lt h (size-lt b))

-- up to 2 ^ j units it rounds to no more than that
pub rounded-le : (n c j : ℕ) → 0 < c → n ≤ 2 ^ j * c → rounded n c ≤ 2 ^ j
rounded-le n c j C h =
    let k = drop 53 n c in
    let u = c * 2 ^ k in
    let U : 0 < u = mul-pos C (pow_pos k) in
    let d : k ≤ j = drop_le n c j C (lt_of_le_of_lt h (mul-lt-mul_of_pos_right (pow-lt (more j)) C)) in
    let p : 2 ^ j * c ≡ 2 ^ (j - k) * u = ap (λ (x : ℕ). x * c) (in_two j k d) ∙ mul_assoc (2 ^ (j - k)) (2 ^ k) c ∙ ap (λ (x : ℕ). 2 ^ (j - k) * x) (mul_comm (2 ^ k) c) in
    let m : closest n u ≤ 2 ^ (j - k) =
    le_trans (closest_mono n u (2 ^ (j - k) * u) u U U (mul-le-mul_right u (le_trans h (le_of_eq p)))) (le_of_eq (closest-exact (2 ^ (j - k)) u U)) in
    le_trans (le_of_eq (rounded-is n c)) (le_trans (mul-le-mul_right (2 ^ k) m) (le_of_eq (sym (in_two j k d))))
  where
    more : (j : ℕ) → j < 53 + j
    more j = omega arith

-- where digits are dropped, at least 53 are kept
pub kept-ge : (n c : ℕ) → 0 < c → 0 < drop 53 n c → 2 ^ (52 + drop 53 n c) ≤ rounded n c
kept-ge n c C K =
    let k = drop 53 n c in
    let g : 2 ^ (52 + k) ≤ n / c = size_reaches (n / c) (52 + k) (lead (size (n / c)) K) in
    le_trans (le_of_eq (pow-add 2 52 k))
    (le_trans (mul-le-mul_right (2 ^ k)
    (le_trans (le_of_eq (sym (closest-exact (2 ^ 52) (c * 2 ^ k) (mul-pos C (pow_pos k)))))
    (closest_mono (2 ^ 52 * (c * 2 ^ k)) (c * 2 ^ k) n (c * 2 ^ k) (mul-pos C (pow_pos k)) (mul-pos C (pow_pos k))
    (mul-le-mul_right (c * 2 ^ k) (le_trans (le_of_eq (join (2 ^ 52) c (2 ^ k) ∙ ap (λ (x : ℕ). x * c) (sym (pow-add 2 52 k)))) ((le-div_iff_mul-le C).0 g))))))
    (le_of_eq (sym (rounded-is n c))))
  where
    lead : (z : ℕ) → 0 < z - 53 → 52 + (z - 53) < z
    lead z h = omega arith

    join : (x c y : ℕ) → x * (c * y) ≡ x * y * c
    join x c y = ap (λ (w : ℕ). x * w) (mul_comm c y) ∙ sym (mul_assoc x y c)

pub rounded-mono : (a b c d : ℕ) → 0 < b → 0 < d → a * d ≤ c * b → rounded a b ≤ rounded c d
rounded-mono a b c d B D h =
    let w = div_mono a b c d B D h in
    let z = size_mono (a / b) (c / d) w in
    elim (eq-or-lt_of_le (fewer (size (a / b)) (size (c / d)) z)) [
      | inl e ↦
          le_trans (le_of_eq (rounded-is a b ∙ ap (λ (x : ℕ). closest a (b * 2 ^ x) * 2 ^ x) e))
          (le_trans (same (drop 53 c d)) (le_of_eq (sym (rounded-is c d))))
      | inr l ↦
          let k = drop 53 c d in
          let m : size (a / b) ≤ 52 + k = room (size (a / b)) k l in
          le_trans (rounded-le a b (52 + k) B (le_of_lt ((div-lt_iff_lt-mul B).0 (lt_of_lt_of_le (size-lt (a / b)) (pow_mono m)))))
          (kept-ge c d D (lt_of_le_of_lt zero-le l))
    ]
  where
    fewer : (x y : ℕ) → x ≤ y → x - 53 ≤ y - 53
    fewer x y h = omega arith

    room : (z k : ℕ) → z - 53 < k → z ≤ 52 + k
    room z k h = omega arith

    same : (k : ℕ) → closest a (b * 2 ^ k) * 2 ^ k ≤ closest c (d * 2 ^ k) * 2 ^ k
    same k =
        mul-le-mul_right (2 ^ k)
        (closest_mono a (b * 2 ^ k) c (d * 2 ^ k) (mul-pos B (pow_pos k)) (mul-pos D (pow_pos k))
        (le_trans (le_of_eq (sym (mul_assoc a d (2 ^ k)))) (le_trans (mul-le-mul_right (2 ^ k) h) (le_of_eq (mul_assoc c b (2 ^ k))))))
