-- Lowercase hexadecimal digits in a list of bytes: the number that they stand for, high digit first. Definitions only.
use Rattle.std.specs.Prelude.{ℕ, zero, suc, ◌≡◌, ◌<◌, ◌+◌, ◌-◌, ◌*◌, ◌/◌, ◌%◌, ◌^◌, Bool, false, cond, List, leb, length, get_or}
use Rattle.std.specs.List.{list_all}

-- is the byte one of 0 to 9 and a to f?
abbrev pub is_digit : ℕ → Bool
is_digit b = cond (leb b 57) (leb 48 b) (cond (leb b 102) (leb 97 b) false)

-- are all bytes digits?
unfoldable pub all_digits : List ℕ → Bool
all_digits s = list_all is_digit s

-- the number of a digit, and 0 of any other byte
abbrev pub digit_of : ℕ → ℕ
digit_of b = cond (is_digit b) (cond (leb b 57) (b - 48) (b - 97 + 10)) 0

-- the number of the n digits of s from `at` on, high digit first; past the end of s stands no digit
unfoldable pub hex_at : List ℕ → ℕ → ℕ → ℕ
hex_at s at zero = 0
hex_at s at (suc n) = hex_at s at n * 16 + digit_of (get_or s (at + n) 0)

-- the low four bits of a byte, of nine more where its bit of 64 is set: of a digit its number
abbrev pub low_of : ℕ → ℕ
low_of b = (b % 16 + b / 64 % 2 * 9) % 16

-- the number of n bytes of s from `at` on by their low bits, high digit first; past the end of s stands 0
unfoldable pub lows_at : List ℕ → ℕ → ℕ → ℕ
lows_at s at zero = 0
lows_at s at (suc n) = lows_at s at n * 16 + low_of (get_or s (at + n) 0)

-- g reads n bytes of s from `at` on, high digit first, each byte by its f
pub record Reads (f : ℕ → ℕ) (g : List ℕ → ℕ → ℕ → ℕ) : Type 0 where
  pub small : (b : ℕ) → f b < 16
  pub none : (s : List ℕ) (at : ℕ) → g s at 0 ≡ 0
  pub more : (s : List ℕ) (at n : ℕ) → g s at (suc n) ≡ g s at n * 16 + f (get_or s (at + n) 0)

-- the number of n bytes by their low bits where s has all n of them, and 0 where it ends before
abbrev pub lows_in : List ℕ → ℕ → ℕ → ℕ
lows_in s at n = cond (leb (at + n) (length s)) (lows_at s at n) 0

-- the number of the n low bytes of a word by their low bits, the lowest byte the first digit
unfoldable pub lows_of : ℕ → ℕ → ℕ
lows_of zero w = 0
lows_of (suc n) w = low_of (w % 256) * 2 ^ (4 * n) + lows_of n (w / 256)
