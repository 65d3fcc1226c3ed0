-- `rem` meets its contract: m is shifted up by its free places, and so is the dividend.
use Rattle.std.proofs.Common.{◌≡◌, ℕ, ◌-◌, ◌*◌, ◌/◌, ◌%◌, ◌^◌, ◌<◌, ◌≤◌, ap, ap₂, ◌∙◌, le_refl, arith}
use Rattle.remainders.proofs.Modulo.{shifted-both}
use Rattle.patterns.proofs.Leading.{zeros, zeros-in, shift-exact, shift-lt, shift-lead}
use Rattle.remainders.proofs.modular.Shifted.rem.Goals as goal

free : (m : ℕ) → 0 < m → m < 2 ^ 53 → (11 ≤ zeros m) × (zeros m ≤ 63)
free m h l = zeros-in m h l

-- m shifted up by its free places
exact : (m : ℕ) → 0 < m → m < 2 ^ 53 → m * 2 ^ (zeros m - 11) % 2 ^ 64 ≡ m * 2 ^ (zeros m - 11)
exact m h l = shift-exact m h l (zeros m - 11) (omega arith)

pub overflow_sub-room : goal.overflow_sub-room
overflow_sub-room c = (free c.args.m c.requires.1 c.requires.2).0

pub invariant_of-leading_rem-2 : goal.invariant_of-leading_rem-2
invariant_of-leading_rem-2 c =
    let m = c.args.m in
    let h = c.requires.1 in
    let l = c.requires.2 in
    record { leads = rw (exact m h l) (shift-lead m h l); fits = rw (exact m h l) (shift-lt m h l (zeros m - 11) (le_refl (zeros m - 11))) }

pub returns : goal.returns
returns c =
    let m = c.args.m in
    let j = zeros m - 11 in
    ap (λ (n : ℕ). n / 2 ^ j) (c.leading_rem-2.ensures ∙ ap₂ (λ (k n : ℕ). c.args.self.digits * 2 ^ k % n) (omega arith) (exact m c.requires.1 c.requires.2))
    ∙ shifted-both c.args.self.digits c.args.self.shift j m c.requires.1
