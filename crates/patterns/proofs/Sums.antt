-- The sum of two floats does not depend on their order. Assumes nothing.
use Rattle.std.proofs.Common.{◌≡◌, ℕ, ◌-◌, ◌*◌, ◌<◌, ◌≤◌, Bool, true, false, cond, not, ◌&&◌, T, ltb, refl, ap, ◌∙◌, mul_comm, add_comm, arith, ltb→lt, nltb→le}
use lib.Ieee.{Float, nan, inf, fin, Format, up, down, round, sum, add}

and-true : (b : Bool) → (b && true) ≡ b
and-true true = refl
and-true false = refl

and-false : (b : Bool) → (b && false) ≡ false
and-false true = refl
and-false false = refl

-- of two different signs the larger number's is the sum's: p and q are the tests a < b and b < a
opposite : (f : Format) (s t : Bool) (a b c : ℕ) (p q : Bool) → (T p → a < b) → (T (not p) → b ≤ a) → (T q → b < a) → (T (not q) → a ≤ b)
    → cond p (round f t (b - a) c) (round f (s && q) (a - b) c) ≡ cond q (round f s (a - b) c) (round f (t && p) (b - a) c)
opposite f s t a b c true true h i j k = let x : a < b = h tt in let y : b < a = j tt in let z : ⊥ = omega arith in absurd z
opposite f s t a b c true false h i j k = rw and-true
opposite f s t a b c false true h i j k = rw and-true
opposite f s t a b c false false h i j k =
    let x : b ≤ a = i tt in
    let y : a ≤ b = k tt in
    let e : a - b ≡ b - a = omega arith in
    rw (and-false s, and-false t, e)

sum_comm : (f : Format) (s : Bool) (a : ℕ) (t : Bool) (b c : ℕ) → sum f s a t b c ≡ sum f t b s a c
unfolding sum
sum_comm f true a true b c = ap (λ (n : ℕ). round f true n c) (add_comm a b)
sum_comm f false a false b c = ap (λ (n : ℕ). round f false n c) (add_comm a b)
sum_comm f true a false b c = opposite f true false a b c (ltb a b) (ltb b a) (ltb→lt a b) (nltb→le a b) (ltb→lt b a) (nltb→le b a)
sum_comm f false a true b c = opposite f false true a b c (ltb a b) (ltb b a) (ltb→lt a b) (nltb→le a b) (ltb→lt b a) (nltb→le b a)

pub add-comm-float : (f : Format) (x y : Float) → add f x y ≡ add f y x
unfolding add
add-comm-float f nan nan = refl
add-comm-float f nan (inf t) = refl
add-comm-float f nan (fin t n d) = refl
add-comm-float f (inf s) nan = refl
add-comm-float f (inf true) (inf true) = refl
add-comm-float f (inf true) (inf false) = refl
add-comm-float f (inf false) (inf true) = refl
add-comm-float f (inf false) (inf false) = refl
add-comm-float f (inf s) (fin t n d) = refl
add-comm-float f (fin s m e) nan = refl
add-comm-float f (fin s m e) (inf t) = refl
add-comm-float f (fin s m e) (fin t n d) =
    sum_comm f s (m * up e * down d) t (n * up d * down e) (down e * down d)
    ∙ ap (λ (c : ℕ). sum f t (n * up d * down e) s (m * up e * down d) c) (mul_comm (down e) (down d))
