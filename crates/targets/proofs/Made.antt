-- What an array holds that is made place by place by a function which a call leaves as it is.
use Rattle.std.proofs.Common.{◌≡◌, sym, ap, ◌∙◌, subst, ◌<◌, ◌+◌, ℕ, zero, suc, List, map, length, arith, ◌-◌, ◌≤◌, ◌++◌, take, drop, refl, replicate}
use Rattle.std.proofs.lemmas.List.{ext_get_or, get_or_append_left, get_or-take, get_or-drop, length-take-le}
use Rattle.std.specs.Array.{IsFromFnResult, IsFromFnResultFrom}
use denote.Param.Members.{Mut, Called}
use lib.ListN.{get_or, get_or-map}
use Rattle.targets.proofs.Arrays.{length-map, get_d_past}

module _ {F B : Type 0} (g : Mut F (ℕ × Unit {0}) B) (h : ℕ → B) (f : F) (ys : List B)
    (call : (i : ℕ) (y : B) (q : F) → Called g f (i, tt) y q → (q ≡ f) × (y ≡ h i)) where
  made-at : (i n : ℕ) → IsFromFnResultFrom g f ys i n → (k : ℕ) → k < n → (d : B) → get_or ys (i + k) d ≡ h (i + k)
  made-at i zero r k l d = absurd (omega arith)
  made-at i (suc n) (q, y, at, gave, rest) zero l d =
      let here : i + 0 ≡ i = omega arith in
      rw here (at.1 d ∙ (call i y q gave).1)
  made-at i (suc n) (q, y, at, gave, rest) (suc k) l d =
      let next : i + suc k ≡ i + 1 + k = omega arith in
      rw next (made-at (i + 1) n (subst (λ (p : F). IsFromFnResultFrom g p ys (i + 1) n) (call i y q gave).0 rest) k (omega arith) d)

-- of each place what a list holds there
pub made : {F B : Type 0} {n : ℕ} (g : Mut F (ℕ × Unit {0}) B) (zs : List B) (d : B) (f : F) (ys : List B) → length zs ≡ n
    → ((i : ℕ) (y : B) (q : F) → Called g f (i, tt) y q → (q ≡ f) × (y ≡ get_or zs i d)) → IsFromFnResult g f ys n → ys ≡ zs
made {n = n} g zs d f ys full call r =
    ext_get_or d ys zs (r.long ∙ sym full)
    (λ i l.
    let first : i ≡ 0 + i = omega arith in
    ap (λ (j : ℕ). get_or ys j d) first ∙ made-at g (λ j. get_or zs j d) f ys call 0 n r.each i (omega (arith, l, r.long)) d ∙ ap (λ (j : ℕ). get_or zs j d) (sym first))

-- of each place of a list what v makes of its element there
pub made-map : {F A B : Type 0} {n : ℕ} (g : Mut F (ℕ × Unit {0}) B) (v : A → B) (xs : List A) (a : A) (f : F) (ys : List B) → length xs ≡ n
    → ((i : ℕ) (y : B) (q : F) → Called g f (i, tt) y q → (q ≡ f) × (y ≡ v (get_or xs i a))) → IsFromFnResult g f ys n → ys ≡ map v xs
made-map g v xs a f ys full call r =
    made g (map v xs) (v a) f ys (length-map v xs ∙ full) (λ i y q k. let m = call i y q k in (m.0, m.1 ∙ sym (get_or-map v xs i a))) r

-- the elements of the first n places by v, and what stands in the rest
pub mixed-below : {A B : Type 0} (v : A → B) (xs : List A) (ys : List B) (n i : ℕ) (a : A) → n ≤ length xs → i < n
    → v (get_or xs i a) ≡ get_or (map v (take n xs) ++ ys) i (v a)
mixed-below v xs ys n i a full low =
    let within : i < length (map v (take n xs)) = omega (arith, low, length-map v (take n xs), length-take-le n xs full) in
    sym (get_or_append_left (map v (take n xs)) ys (v a) i within ∙ get_or-map v (take n xs) i a ∙ ap v (get_or-take n xs i a low))

replicated : {B : Type 0} (m i : ℕ) (d : B) → get_or (replicate m d) i d ≡ d
replicated zero i d = refl
replicated (suc m) zero d = refl
replicated (suc m) (suc i) d = replicated m i d

pub blank-past : {A B : Type 0} (v : A → B) (xs : List A) (m n i : ℕ) (d : B) → n ≤ length xs → n ≤ i
    → d ≡ get_or (map v (take n xs) ++ drop n (replicate m d)) i d
blank-past v xs m n i d full high =
    let long : length (map v (take n xs)) ≡ n = length-map v (take n xs) ∙ length-take-le n xs full in
    let e : n + (i - n) ≡ i = omega arith in
    sym (get_d_past (map v (take n xs)) (drop n (replicate m d)) i d (omega (arith, long, high)) ∙ rw (long, get_or-drop, e) (replicated m i d))
