-- The laws of lines in a piece: where a line ends, and what is kept of it.
use Rattle.std.proofs.lemmas.List.{take_min}
use Prim.Native.Nat.{ℕ, ◌+◌, ◌-◌, ◌≤◌, ◌<◌, min}
use mathlib.Core.Bool.{true}
use mathlib.Core.List.{List, ◌++◌}
use mathlib.Core.Path.{◌≡◌, sym, ap, ◌∙◌}
use native.Mathlib.Omega.{arith}
use borrow.Author.Tests.{eqb-true}
use Rattle.std.specs.Prelude.{◌==◌, Some, None}
use Rattle.std.specs.Option.{unwrap_or}
use lib.ListN.{length, take, drop, get_or, length-drop}
use lib.Seq.{get_or-take, length-take-le, take_all, take-append-add}
use Rattle.unhex.specs.Digits.{all_digits}
use Rattle.unhex.proofs.Read.{digit-from, digits-each}
use Rattle.frames.specs.Line.{kept, least, NoNewline, EndsAt}
use Rattle.frames.specs.Whole.{newline}
use Rattle.memchr.specs.Find.{IsFirstByte, is_byte}
use Rattle.std.specs.Prelude.{Option}

module _ (s : List ℕ) where
  -- none among digits alone
  none-of-digits : (n : ℕ) → n ≤ length s → all_digits (take n s) ≡ true → NoNewline s n
  none-of-digits n h d k u e =
      let digit = digits-each (take n s) k (omega (arith, length-take-le n s h)) d in
      let byte = get_or-take n s k 0 u ∙ e in
      omega (arith, digit-from (get_or (take n s) k 0) digit)

  -- ---- the line's end

  -- digits alone as far as a newline are a line
  pub line-of-digits : (n : ℕ) → n < length s → get_or s n 0 ≡ newline → all_digits (take n s) ≡ true → EndsAt s n
  line-of-digits n h e d = record { passes = record { within = omega arith; before = none-of-digits n (omega arith) d }; ends = λ l. e }

-- the first newline, or the end where there is none
pub newline-found : (s : List ℕ) (o : Option ℕ) → IsFirstByte (is_byte newline) s o → EndsAt s (unwrap_or o (length s))
newline-found s (Some k) (n, p) =
    record {
      passes = record { within = omega (arith, n.high); before = λ j u e. n.before j (omega arith) u (ap (λ (x : ℕ). x == newline) e) };
      ends = λ l. eqb-true (get_or s k 0) newline p;
    }
newline-found s None f =
    record {
      passes = record { within = omega arith; before = λ j u e. f j (omega arith) u (ap (λ (x : ℕ). x == newline) e) };
      ends = λ l. absurd (omega (arith, l));
    }

-- the bytes from i on, as a slice takes them
pub to-end : (s : List ℕ) (i : ℕ) → take (length s - i) (drop i s) ≡ drop i s
to-end s i = take_all (length s - i) (drop i s) (omega (arith, length-drop i s))

-- ---- what is kept

-- no more is taken than there is
take-there : (l : List ℕ) (m k : ℕ) → m ≡ min k (length l) → take m l ≡ take k l
take-there l m k e = ap (λ (j : ℕ). take j l) e ∙ take_min k l

-- what is kept of a line's first n bytes and more, where the first n + m of `out` are those
pub kept-text : (line more out : List ℕ) (n m : ℕ) → n ≤ length line → n + m ≡ least (n + length more) → take (n + m) out ≡ take n line ++ take m more
    → take (least (n + length more)) out ≡ take kept (take n line ++ more)
kept-text line more out n m h e w =
    let all : length (take n line) + (kept - n) ≡ kept = omega (arith, length-take-le n line h) in
    ap (λ (k : ℕ). take k out) (sym e) ∙ w
    ∙ ap (λ (t : List ℕ). take n line ++ t) (take-there more m (kept - n) (omega arith))
    ∙ sym (take-append-add (take n line) more (kept - n))
    ∙ ap (λ (k : ℕ). take k (take n line ++ more)) all
