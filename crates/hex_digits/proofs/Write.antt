-- The laws of writing: what a write leaves with room and without, one write after another, and the step of a loop that writes backwards.
use Prim.Native.Nat.{ℕ, zero, suc, ◌+◌, ◌/◌, ◌≤◌, ◌<◌}
use mathlib.Core.List.{List, [], ◌∷◌, ◌++◌, append_assoc, append-nil}
use mathlib.Core.Path.{◌≡◌, refl, sym, ap, ◌∙◌, subst}
use native.Mathlib.Nat.{add_assoc, add-zero}
use native.Mathlib.Numerals.{add-one}
use native.Mathlib.Omega.{arith}
use borrow.Author.Tests.{le-leb, lt-leb}
use lib.ListN.{length, take, drop, set, length-append, length-drop, length-set, take-append-drop}
use lib.Seq.{take_at, drop-append-add, drop-drop, length-take-le, take-set-le, drop-set-lt, drop-cons, get_or-set_same, append_snoc, set_split}
use Rattle.hex_digits.specs.Hex.{digits}
use Rattle.hex_digits.specs.Write.{over, put, past_put, Put, Wrote}

pub length_digits : (n v : ℕ) → length (digits n v) ≡ n
unfolding digits
length_digits zero v = refl
length_digits (suc n) v = simp (length-append, length_digits n (v / 16)) (omega arith)

pub length_over : (xs ys : List ℕ) (at : ℕ) → at + length ys ≤ length xs → length (over xs at ys) ≡ length xs
unfolding over
length_over xs ys at h =
    simp (length-append, length-drop, length-take-le at xs (omega arith)) (omega arith)

pub over-nil : (xs : List ℕ) (at : ℕ) → over xs at [] ≡ xs
unfolding over
over-nil xs at = rw (append-nil (take at xs), add-zero at) (take-append-drop at xs)

-- one write after another is the write of both
pub over-over : (xs ys zs : List ℕ) (at : ℕ) → at + length ys ≤ length xs
    → over (over xs at ys) (at + length ys) zs ≡ over xs at (ys ++ zs)
unfolding over
over-over xs ys zs at h =
    let n : length (take at xs ++ ys) ≡ at + length ys = simp (length-append, length-take-le at xs (omega arith)) in
    let e : drop (at + length ys + length zs) (take at xs ++ ys ++ drop (at + length ys) xs) ≡ drop (at + length (ys ++ zs)) xs =
    ap (λ (k : ℕ). drop (k + length zs) (take at xs ++ ys ++ drop (at + length ys) xs)) (sym n)
    ∙ drop-append-add (take at xs ++ ys) (drop (at + length ys) xs) (length zs)
    ∙ drop-drop (length zs) (at + length ys) xs
    ∙ ap (λ (k : ℕ). drop k xs) (add_assoc at (length ys) (length zs) ∙ ap (λ (k : ℕ). at + k) (sym (length-append ys zs))) in
    rw (e, take_at (take at xs ++ ys) (drop (at + length ys) xs) (at + length ys) n, append_assoc (take at xs) ys zs)

-- a byte stored first, and then what stands before it, is the write of both
pub over-set : (xs ys : List ℕ) (at b : ℕ) → at + length ys < length xs
    → over (set xs (at + length ys) b) at ys ≡ over xs at (ys ++ (b ∷ []))
unfolding over
over-set xs ys at b h =
    let k : ℕ = at + length ys in
    let m : at + length (ys ++ (b ∷ [])) ≡ suc k = simp length-append (omega arith) in
    let d : drop k (set xs k b) ≡ b ∷ drop (suc k) xs =
    drop-cons (set xs k b) k 0 (simp length-set (omega arith))
    ∙ rw (get_or-set_same xs k b 0 (omega arith), drop-set-lt (suc k) xs k b (omega arith)) in
    rw (take-set-le at xs k b (omega arith), d, m)
    (sym (append_snoc (take at xs ++ ys) b (drop (suc k) xs)) ∙ ap (λ (l : List ℕ). l ++ drop (suc k) xs) (append_assoc (take at xs) ys (b ∷ [])))

module _ {xs ys : List ℕ} {at : ℕ} where
  -- no room
  pub put-stays : length xs < at + length ys → Put xs at ys xs at
  unfolding put past_put
  put-stays h =
      let e = lt-leb (at + length ys) (length xs) h in
      record { text = rw e; past = rw e }

  -- room
  pub put-fits : {out : List ℕ} {next : ℕ} → at + length ys ≤ length xs → out ≡ over xs at ys → next ≡ at + length ys → Put xs at ys out next
  unfolding put past_put
  put-fits h t p =
      let e = le-leb (at + length ys) (length xs) h in
      record { text = rw e t; past = rw e p }

  -- what a caller who has room knows of a write
  pub put-wrote : {out : List ℕ} {n next : ℕ} → Put xs at ys out next → length ys ≡ n → at + n ≤ length xs → Wrote xs at n ys out next
  unfolding put past_put
  put-wrote {out} {n} {next} w s h =
      let r : at + length ys ≤ length xs = omega arith in
      let e = le-leb (at + length ys) (length xs) r in
      let t : out ≡ over xs at ys = rw e at w.text in
      let p : next ≡ at + length ys = rw e at w.past in
      record {
        size = s;
        past = omega arith;
        within = omega arith;
        length_is = ap length t ∙ length_over xs ys at r;
        text = t;
      }

pub number-wrote : {xs out : List ℕ} {at next : ℕ} (n v : ℕ) → Put xs at (digits n v) out next → at + n ≤ length xs → Wrote xs at n (digits n v) out next
number-wrote n v w h = put-wrote w (length_digits n v) h

-- two writes, the second from where the first ended
pub then : {xs mid out ys zs : List ℕ} {at n r m q : ℕ} → Wrote xs at n ys mid r → Wrote mid r m zs out q → Wrote xs at (n + m) (ys ++ zs) out q
then {xs} {mid} {out} {ys} {zs} {at} {n} {r} {m} {q} a b =
    let e : r ≡ at + length ys = omega arith in
    record {
      size = length-append ys zs ∙ omega arith;
      past = omega arith;
      within = omega arith;
      length_is = omega arith;
      text = b.text ∙ ap (λ (l : List ℕ). over l r zs) a.text ∙ ap (λ (k : ℕ). over (over xs at ys) k zs) e ∙ over-over xs ys zs at (omega arith);
    }

-- a write with an equal text, its size told by the text's length
pub as-length : {xs ys zs out : List ℕ} {at n r : ℕ} → Wrote xs at n ys out r → ys ≡ zs → Wrote xs at (length zs) zs out r
as-length {xs} {ys} {zs} {out} {at} {n} {r} w e =
    let l : n ≡ length zs = sym w.size ∙ ap length e in
    subst (λ (k : ℕ). Wrote xs at k zs out r) l (subst (λ (t : List ℕ). Wrote xs at n t out r) e w)

pub wrote-byte : (xs : List ℕ) (at b : ℕ) → at < length xs → Wrote xs at 1 (b ∷ []) (set xs at b) (at + 1)
unfolding over
wrote-byte xs at b h =
    record {
      size = refl;
      past = refl;
      within = omega arith;
      length_is = length-set xs at b;
      text = set_split xs at b h ∙ rw (add-one at) (sym (append_snoc (take at xs) b (drop (suc at) xs)));
    }

pub wrote_nothing : (xs : List ℕ) (at : ℕ) → at ≤ length xs → Wrote xs at 0 [] xs at
wrote_nothing xs at h =
    record {
      size = refl;
      past = omega arith;
      within = h;
      length_is = refl;
      text = sym (over-nil xs at);
    }
