-- The laws of reading: n digits stand for a number below 16 to the n, and the steps of the loops over digits.
use Prim.Native.Nat.{ℕ, zero, suc, ◌+◌, ◌-◌, ◌*◌, ◌/◌, ◌^◌, ◌≤◌, ◌<◌}
use mathlib.Core.Bool.{Bool, true, false, cond, true≢false, ◌&&◌, and_comm, and-false}
use mathlib.Core.List.{List, [], ◌++◌}
use mathlib.Core.Path.{◌≡◌, refl, sym, ap, ap₂, ◌∙◌}
use native.Mathlib.Nat.{add-zero, add-suc, add_assoc, pow-suc, pow-le-pow_right, zero-add}
use native.Mathlib.Numerals.{add-one}
use native.Mathlib.Omega.{arith}
use borrow.Author.Tests.{leb-true, ltb-true, ltb-false, le-leb}
use lib.Dec.{leb, ltb, lit<}
use lib.ListN.{length, take, drop, get_or, length-take, length-drop, take-append-drop, get_or-eq_default}
use lib.Seq.{drop-drop, get_or-take, get_or-drop, length-take-le, take-add, take-take}
use Rattle.std.proofs.lemmas.List.Folds.{list_all-append, list_all_at}
use Rattle.std.specs.List.{list_all}
use Rattle.std.specs.Simd.{first_chunks}
use Rattle.unhex.specs.Digits.{is_digit, all_digits, digit_of, hex_at, low_of, lows_at, lows_in, Reads}

-- a test that chooses between two is one of them
module _ {G : Type 0} where
  by_cond : (t : Bool) {a b : Bool} → (t ≡ true → a ≡ true → G) → (t ≡ false → b ≡ true → G) → cond t a b ≡ true → G
  by_cond true f g e = f refl e
  by_cond false f g e = g refl e

-- by cases of a test
pub by-test : {G : Type 0} (t : Bool) → (t ≡ true → G) → (t ≡ false → G) → G
by-test true f g = f refl
by-test false f g = g refl

cond_below : (t : Bool) {a b k : ℕ} → (t ≡ true → a < k) → (t ≡ false → b < k) → cond t a b < k
cond_below true f g = f refl
cond_below false f g = g refl

and-cond : (t u : Bool) → (t && u) ≡ cond t u false
and-cond true u = refl
and-cond false u = refl

pub digit-from : (b : ℕ) → is_digit b ≡ true → (48 ≤ b) × (57 < b → 97 ≤ b) × (b ≤ 102)
digit-from b =
    by_cond (leb b 57) (λ p q. (leb-true 48 b q, λ h. omega (arith, leb-true b 57 p), omega (arith, leb-true b 57 p))) (λ p.
    by_cond (leb b 102) (λ s q. (omega (arith, leb-true 97 b q), λ h. leb-true 97 b q, leb-true b 102 s)) (λ s q. absurd (true≢false (sym q))))

pub digit-below : (b : ℕ) → digit_of b < 16
digit-below b =
    cond_below (is_digit b) (λ e.
    cond_below (leb b 57) (λ p. omega (arith, leb-true b 57 p)) (λ p. omega (arith, (digit-from b e).2))) (λ e. omega arith)

pub hex-reads : Reads digit_of hex_at
unfolding hex_at
hex-reads = record { small = digit-below; none = λ s at. refl; more = λ s at n. refl }

pub lows-reads : Reads low_of lows_at
unfolding lows_at
lows-reads = record { small = λ b. omega arith; none = λ s at. refl; more = λ s at n. refl }

module _ {f : ℕ → ℕ} {g : List ℕ → ℕ → ℕ → ℕ} (r : Reads f g) (s : List ℕ) (at : ℕ) where
  pub below : (n : ℕ) → g s at n < 16 ^ n
  below zero = omega (arith, r.none s at)
  below (suc n) = omega (arith, pow-suc 16 n, below n, r.more s at n, r.small (get_or s (at + n) 0))

  pub next : (n : ℕ) {v b d : ℕ} → v ≡ g s at n → b ≡ get_or s (at + n) 0 → d ≡ f b → v * 16 + d ≡ g s at (n + 1)
  next n h k l = rw (add-one, r.more s at n, l, k, h)

  -- the digits of a part of s are those of s
  pub dropped : (k : ℕ) → g (drop at s) 0 k ≡ g s at k
  dropped zero = r.none (drop at s) 0 ∙ sym (r.none s at)
  dropped (suc k) = rw (r.more (drop at s) 0 k, r.more s at k, dropped k, zero-add k, get_or-drop at s k 0)

  pub part : (n k : ℕ) → k ≤ n → g (take n (drop at s)) 0 k ≡ g s at k
  part n zero h = r.none (take n (drop at s)) 0 ∙ sym (r.none s at)
  part n (suc k) h =
      rw (r.more (take n (drop at s)) 0 k, r.more s at k, part n k (omega arith), zero-add k, get_or-take n (drop at s) k 0 (omega arith), get_or-drop at s k 0)

  -- the digits of both parts of a number, the high part first
  pub halves : (m n : ℕ) → g s at (m + n) ≡ g s at m * 16 ^ n + g s (at + m) n
  halves m zero = rw (add-zero m, r.none s (at + m)) (omega arith)
  halves m (suc n) =
      rw (add-suc m n, r.more s at (m + n), r.more s (at + m) n, halves m n, add_assoc at m n, pow-suc 16 n) (omega arith)

-- one digit more fits 64 bits while there are fewer than 16
pub room : (i v : ℕ) → i < 16 → v < 16 ^ i → v * 16 + 16 ≤ 2 ^ 64
room i v h k =
    let l : suc i ≤ 16 = omega arith in
    let a : 16 ^ suc i ≤ 16 ^ 16 = pow-le-pow_right {n = 16} (lit< tt) l in
    omega (arith, pow-suc 16 i)

pub number-below : (s : List ℕ) (at n : ℕ) → hex_at s at n < 16 ^ n
number-below = below hex-reads

digits_append : (s t : List ℕ) → all_digits (s ++ t) ≡ (all_digits s && all_digits t)
unfolding all_digits
digits_append s t = list_all-append is_digit s t

-- the bytes before a place and those from it on
digits-parts : (n : ℕ) (s : List ℕ) → all_digits s ≡ (all_digits (take n s) && all_digits (drop n s))
digits-parts n s = ap all_digits (sym (take-append-drop n s)) ∙ digits_append (take n s) (drop n s)

digits-take : (s : List ℕ) (i n : ℕ) → all_digits (take (i + n) s) ≡ (all_digits (take i s) && all_digits (take n (drop i s)))
digits-take s i n = ap all_digits (take-add i n s) ∙ digits_append (take i s) (take n (drop i s))

-- the first k blocks of n bytes
pub all-blocks : (n k : ℕ) (s : List ℕ) → list_all all_digits (first_chunks n k s) ≡ all_digits (take (k * n) s)
unfolding all_digits
all-blocks n zero s = let e : 0 * n ≡ 0 = omega arith in rw e refl
all-blocks n (suc k) s =
    let e : suc k * n ≡ n + k * n = omega arith in
    ap (λ (t : Bool). all_digits (take n s) && t) (all-blocks n k (drop n s)) ∙ sym (digits-take s n (k * n)) ∙ ap (λ (m : ℕ). all_digits (take m s)) (sym e)

overlap : (a m e : Bool) → (m && e && (a && m)) ≡ (a && (m && e))
overlap true true true = refl
overlap true true false = refl
overlap true false e = refl
overlap false m e = and-false (m && e)

-- the blocks before may overlap the last
pub blocks_end : (s : List ℕ) (k i : ℕ) → k ≤ i → (all_digits (drop k s) && all_digits (take i s)) ≡ all_digits s
blocks_end s k i h =
    let a : Bool = all_digits (take k s) in
    let m : Bool = all_digits (take (i - k) (drop k s)) in
    let e : Bool = all_digits (drop (i - k) (drop k s)) in
    let n : i ≡ k + (i - k) = omega arith in
    let t : all_digits (take i s) ≡ (a && m) = ap (λ (j : ℕ). all_digits (take j s)) n ∙ digits-take s k (i - k) in
    let d : all_digits (drop k s) ≡ (m && e) = digits-parts (i - k) (drop k s) in
    ap₂ (λ (u v : Bool). u && v) d t ∙ overlap a m e ∙ ap (λ (u : Bool). a && u) (sym d) ∙ sym (digits-parts k s)

-- the whole blocks before the last byte and the last 16 bytes are all bytes
pub blocks_whole : (s : List ℕ) {last : List ℕ} {blocks : List (List ℕ)} → 16 ≤ length s → last ≡ drop (length s - 16) s
    → blocks ≡ first_chunks 16 (length (take (length s - 1) s) / 16) (take (length s - 1) s)
    → (list_all all_digits blocks && all_digits last) ≡ all_digits s
blocks_whole s {last} {blocks} h l b =
    let m : ℕ = length s - 1 in
    let k : ℕ = length (take m s) / 16 in
    let n : length (take m s) ≡ m = length-take-le m s (omega arith) in
    rw (l, b, all-blocks 16 k (take m s), take-take (k * 16) m s (omega arith))
    (and_comm (all_digits (take (k * 16) s)) (all_digits (drop (length s - 16) s)) ∙ blocks_end s (length s - 16) (k * 16) (omega arith))

-- where all bytes are digits each is one
pub digits-each : (s : List ℕ) (i : ℕ) → i < length s → all_digits s ≡ true → is_digit (get_or s i 0) ≡ true
unfolding all_digits
digits-each s i h e =
    by-test (is_digit (get_or s i 0)) (λ p. p) (λ p. absurd (true≢false (sym e ∙ list_all_at is_digit s i 0 h p)))

-- a digit's number from its bits
low_digit : (b : ℕ) → is_digit b ≡ true → low_of b ≡ digit_of b
low_digit b =
    by_cond (leb b 57) (λ p q.
    let h : b / 64 ≡ 0 = omega (arith, leb-true b 57 p) in
    simp (p, q, h) (omega (arith, leb-true b 57 p, leb-true 48 b q))) (λ p.
    by_cond (leb b 102) (λ s q.
    let h : b / 64 ≡ 1 = omega (arith, leb-true b 102 s, leb-true 97 b q) in
    simp (p, s, q, h) (omega (arith, leb-true b 102 s, leb-true 97 b q))) (λ s q. absurd (true≢false (sym q))))

-- where all bytes are digits each place is read by its low bits, and so is one past the end
low-each : (s : List ℕ) (i : ℕ) → all_digits s ≡ true → low_of (get_or s i 0) ≡ digit_of (get_or s i 0)
low-each s i e =
    by-test (ltb i (length s)) (λ h. low_digit (get_or s i 0) (digits-each s i (ltb-true i (length s) h) e)) (λ h.
    rw (get_or-eq_default s 0 (ltb-false i (length s) h)) refl)

-- who knows that all bytes are digits may read the low bits alone
pub lows-digits : (s : List ℕ) (at n : ℕ) → all_digits s ≡ true → lows_at s at n ≡ hex_at s at n
lows-digits s at zero e = lows-reads.none s at ∙ sym (hex-reads.none s at)
lows-digits s at (suc n) e = rw (lows-reads.more s at n, hex-reads.more s at n, lows-digits s at n e, low-each s (at + n) e)

-- where s has all n bytes they are read, and where it ends before none is
pub lows-there : (s : List ℕ) (at n : ℕ) → at + n ≤ length s → lows_at s at n ≡ lows_in s at n
lows-there s at n h = simp (le-leb (at + n) (length s) h)

pub two-lows : (s : List ℕ) (at : ℕ) → 2 ≤ length (drop at s)
    → low_of (get_or (drop at s) 0 0) * 16 + low_of (get_or (drop at s) 1 0) ≡ lows_in s at 2
unfolding lows_at
two-lows s at h =
    let l : length (drop at s) ≡ length s - at = length-drop at s in
    let m : low_of (get_or (drop at s) 0 0) * 16 + low_of (get_or (drop at s) 1 0) ≡ lows_at (drop at s) 0 2 = omega arith in
    m ∙ dropped lows-reads s at 2 ∙ lows-there s at 2 (omega arith)

two-blocks : (k : ℕ) (t : List ℕ) → 2 ≤ k → (get_or (first_chunks 8 k t) 0 [] ≡ take 8 t) × (get_or (first_chunks 8 k t) 1 [] ≡ take 8 (drop 8 t))
two-blocks zero t h = let z : ⊥ = omega arith in absurd z
two-blocks (suc zero) t h = let z : ⊥ = omega arith in absurd z
two-blocks (suc (suc k)) t h = (refl, refl)

-- two blocks of eight are sixteen
pub sixteen-lows : (s : List ℕ) (at : ℕ) {blocks : List (List ℕ)} → blocks ≡ first_chunks 8 (length (drop at s) / 8) (drop at s) → 2 ≤ length (drop at s) / 8
    → lows_at (get_or blocks 0 []) 0 8 * 4294967296 + lows_at (get_or blocks 1 []) 0 8 ≡ lows_in s at 16
sixteen-lows s at e h =
    let b = two-blocks (length (drop at s) / 8) (drop at s) h in
    let l : length (drop at s) ≡ length s - at = length-drop at s in
    rw (e, b.0, b.1, drop-drop 8 at s, part lows-reads s at 8 8 (omega arith), part lows-reads s (at + 8) 8 8 (omega arith))
    (sym (halves lows-reads s at 8 8) ∙ lows-there s at 16 (omega arith))

-- who knows that all are digits reads them so
pub lows_known : (s : List ℕ) (at n : ℕ) → all_digits s ≡ true → at + n ≤ length s → lows_in s at n ≡ hex_at s at n
lows_known s at n e h = sym (lows-there s at n h) ∙ lows-digits s at n e

-- the part of s from `at` to `at + n`
module _ (s : List ℕ) (at n : ℕ) (h : at + n ≤ length s) where
  pub part_length : length (take (at + n - at) (drop at s)) ≡ n
  part_length = simp (length-take, length-drop) (omega arith)
