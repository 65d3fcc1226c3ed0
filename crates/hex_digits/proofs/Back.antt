-- What is written is read back: the last n digits of v stand for v modulo 16 to the n.
use Prim.Native.Nat.{ℕ, zero, suc, ◌+◌, ◌-◌, ◌/◌, ◌%◌, ◌^◌, ◌<◌}
use mathlib.Core.List.{List, [], ◌∷◌, ◌++◌, append_assoc}
use mathlib.Core.Path.{◌≡◌, sym, ap, ◌∙◌}
use native.Mathlib.Nat.{pow-suc}
use native.Mathlib.Omega.{arith}
use borrow.Author.Tests.{ltb-true, ltb-false, le-leb, lt-leb}
use lib.Arith.{mod-mul}
use lib.Dec.{ltb, lit<}
use lib.ListN.{length, take, drop, get_or, length-append}
use lib.Seq.{append_snoc, get_or_at, length-take-le}
use Rattle.unhex.specs.Digits.{digit_of, hex_at}
use Rattle.hex_digits.specs.Hex.{byte_of, digits}
use Rattle.hex_digits.specs.Write.{over, Wrote}
use Rattle.unhex.proofs.Read.{by-test, number-below}
use Rattle.hex_digits.proofs.Write.{length_digits}

pub digit-back : (d : ℕ) → d < 16 → digit_of (byte_of d) ≡ d
digit-back d h =
    by-test (ltb d 10)
    (λ e.
    let l = ltb-true d 10 e in
    simp (e, le-leb (48 + d) 57 (omega arith), le-leb 48 (48 + d) (omega arith)) (omega arith))
    (λ e.
    let l = ltb-false d 10 e in
    simp (e, lt-leb (97 + (d - 10)) 57 (omega arith), le-leb (97 + (d - 10)) 102 (omega arith), le-leb 97 (97 + (d - 10)) (omega arith)) (omega arith))

-- wherever the digits stand in a list
pub digits-back : (ws zs : List ℕ) (n v : ℕ) → hex_at (ws ++ digits n v ++ zs) (length ws) n ≡ v % 16 ^ n
unfolding hex_at digits
digits-back ws zs zero v = omega arith
digits-back ws zs (suc n) v =
    let b : ℕ = byte_of (v % 16) in
    let ds : List ℕ = digits n (v / 16) in
    let e : ws ++ (ds ++ (b ∷ [])) ++ zs ≡ ws ++ ds ++ (b ∷ zs) =
    ap (λ (l : List ℕ). l ++ zs) (sym (append_assoc ws ds (b ∷ []))) ∙ append_snoc (ws ++ ds) b zs in
    let k : length (ws ++ ds) ≡ length ws + n = simp (length-append, length_digits n (v / 16)) in
    let d : digit_of (get_or (ws ++ ds ++ (b ∷ zs)) (length ws + n) 0) ≡ v % 16 =
    ap digit_of (get_or_at (ws ++ ds) b zs 0 (length ws + n) k) ∙ digit-back (v % 16) (omega arith) in
    let p : 0 < 16 ^ n = omega (arith, number-below [] 0 n) in
    ap (λ (l : List ℕ). hex_at l (length ws) (suc n)) e ∙ rw (digits-back ws (b ∷ zs) n (v / 16), d, pow-suc 16 n) (sym (mod-mul v p (lit< tt)))

-- and in a page where they were written
pub wrote-back : {xs out : List ℕ} {at next : ℕ} (n v : ℕ) → Wrote xs at n (digits n v) out next → hex_at out at n ≡ v % 16 ^ n
unfolding over
wrote-back {xs} {out} {at} {next} n v w =
    let l : length (take at xs) ≡ at = length-take-le at xs (omega arith) in
    rw w.text (rw l at (digits-back (take at xs) (drop (at + length (digits n v)) xs) n v))
