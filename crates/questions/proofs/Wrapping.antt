-- Sums modulo 2^32, taken one after the other.
use Rattle.std.proofs.Common.{◌≡◌, ℕ, ◌+◌, ◌%◌, ◌^◌, arith}

once : (x y : ℕ) → (x % 2 ^ 32 + y) % 2 ^ 32 ≡ (x + y) % 2 ^ 32
once x y = omega arith

-- the remainder may be taken at the end
pub thrice : (t a b c : ℕ) → (((t + a) % 2 ^ 32 + b) % 2 ^ 32 + c) % 2 ^ 32 ≡ (t + (a + b + c)) % 2 ^ 32
thrice t a b c = rw (once (t + a) b, once (t + a + b) c) (let e : t + a + b + c ≡ t + (a + b + c) = omega arith in rw e)
