-- The last accepted report in words: `last_report` gives v exactly when v was reported last and not withdrawn since.
use Rattle.std.specs.Prelude.{Option, Some, None}
use Prim.Native.Nat.{ℕ}
use mathlib.Core.Bool.{Bool, true, false, ◌&&◌}
use mathlib.Core.List.{List, [], ◌∷◌, ◌++◌, append_assoc, append-nil}
use mathlib.Core.Logic.{◌↔◌}
use mathlib.Core.Path.{◌≡◌, refl, sym, ◌∙◌, ap, subst}
use lib.Dec.{eqb}
use borrow.Author.Tests.{eq-eqb, eqb-true}
use Rattle.jord.specs.declared.vehicle.Vehicle.{Vehicle}
use Rattle.plain.specs.declared.call.Fix.{Fix}
use Rattle.plain.specs.declared.call.Call.{Call}
use Rattle.plain.specs.declared.call.Call.TheVariants.{Report, Withdraw, OwnShip, Track, Solve}
use Rattle.plain.specs.Call.{Answer, vehicle}
use Rattle.plain.specs.History.{Heard, accepts, speaks_of, Quiet, LastReported}
use Rattle.plain.proofs.History.{new_report, hear_report, last_report}

-- what one heard call does: it says nothing of i, or reports it, or withdraws it
data Says (i : ℕ) (h : Heard) : Type 0 where
  nothing : accepts h.reply && speaks_of i h.call ≡ false → ((x : Option Vehicle) → hear_report i h.call h.reply x ≡ x) → Says i h
  reports : (f : Fix) → accepts h.reply && speaks_of i h.call ≡ true → h.call ≡ Report i f → accepts h.reply ≡ true
      → ((x : Option Vehicle) → hear_report i h.call h.reply x ≡ Some (vehicle f)) → Says i h
  withdraws : accepts h.reply && speaks_of i h.call ≡ true → ((x : Option Vehicle) → hear_report i h.call h.reply x ≡ None) → Says i h

says-new : (i : ℕ) (c : Call) (a : Answer) → accepts a ≡ true → ((x : Option Vehicle) → hear_report i c a x ≡ new_report i c x)
    → Says i (record { call = c; reply = a })
unfolding new_report speaks_of
says-new i (Report j f) a e q = go (eqb i j) refl
  where
    go : (t : Bool) → eqb i j ≡ t → Says i (record { call = Report j f; reply = a })
    go true h = reports f (rw (e, h)) (rw (eqb-true i j h)) e (λ x. q x ∙ rw h)
    go false h = nothing (rw (e, h)) (λ x. q x ∙ rw h)
says-new i (Withdraw j) a e q = go (eqb i j) refl
  where
    go : (t : Bool) → eqb i j ≡ t → Says i (record { call = Withdraw j; reply = a })
    go true h = withdraws (rw (e, h)) (λ x. q x ∙ rw h)
    go false h = nothing (rw (e, h)) (λ x. q x ∙ rw h)
says-new i (OwnShip f) a e q = nothing (rw e) q
says-new i (Track s t) a e q = nothing (rw e) q
says-new i (Solve j) a e q = nothing (rw e) q

says : (i : ℕ) (c : Call) (a : Answer) → Says i (record { call = c; reply = a })
says i c a = go (accepts a) refl
  where
    go : (t : Bool) → accepts a ≡ t → Says i (record { call = c; reply = a })
    go true e = says-new i c a e (λ x. unfold hear_report in rw e)
    go false e = nothing (rw e) (λ x. unfold hear_report in rw e)

-- ---- one call more at the end

quiet-snoc : (i : ℕ) (hs : List Heard) (h : Heard) → Quiet i hs → accepts h.reply && speaks_of i h.call ≡ false → Quiet i (hs ++ (h ∷ []))
quiet-snoc i [] h q e = (e, tt)
quiet-snoc i (k ∷ hs) h q e = (q.0, quiet-snoc i hs h q.1 e)

reported-snoc : (i : ℕ) (v : Vehicle) (hs : List Heard) (h : Heard) → LastReported i v hs → accepts h.reply && speaks_of i h.call ≡ false
    → LastReported i v (hs ++ (h ∷ []))
reported-snoc i v hs h l e =
    record {
      fix = l.fix;
      of_fix = l.of_fix;
      before = l.before;
      since = l.since ++ (h ∷ []);
      reply = l.reply;
      accepted = l.accepted;
      split = ap (λ (k : List Heard). k ++ (h ∷ [])) l.split ∙ append_assoc l.before _ (h ∷ []);
      quiet = quiet-snoc i l.since h l.quiet e;
    }

reported-now : (i : ℕ) (f : Fix) (hs : List Heard) (h : Heard) → h.call ≡ Report i f → accepts h.reply ≡ true
    → LastReported i (vehicle f) (hs ++ (h ∷ []))
reported-now i f hs h e ok =
    record {
      fix = f;
      of_fix = refl;
      before = hs;
      since = [];
      reply = h.reply;
      accepted = ok;
      split = ap (λ (k : Call). hs ++ (record { call = k; reply = h.reply } ∷ [])) e;
      quiet = tt;
    }

-- what the report told so far means
abbrev Told : ℕ → Option Vehicle → List Heard → Type 0
Told i None hs = Unit {0}
Told i (Some v) hs = LastReported i v hs

told-quiet : (i : ℕ) (x : Option Vehicle) (hs : List Heard) (h : Heard) → Told i x hs → accepts h.reply && speaks_of i h.call ≡ false
    → Told i x (hs ++ (h ∷ []))
told-quiet i None hs h t e = tt
told-quiet i (Some v) hs h t e = reported-snoc i v hs h t e

told-next : (i : ℕ) (x : Option Vehicle) (hs : List Heard) (h : Heard) → Told i x hs → Told i (hear_report i h.call h.reply x) (hs ++ (h ∷ []))
told-next i x hs h t = go (says i h.call h.reply)
  where
    go : Says i h → Told i (hear_report i h.call h.reply x) (hs ++ (h ∷ []))
    go (nothing quiet same) = rw (same x) (told-quiet i x hs h t quiet)
    go (reports f loud is ok gives) = rw (gives x) (reported-now i f hs h is ok)
    go (withdraws loud gives) = rw (gives x) tt

told-after : (i : ℕ) (x : Option Vehicle) (before hs : List Heard) → Told i x before → Told i (last_report i x hs) (before ++ hs)
unfolding last_report
told-after i x before [] t = subst (λ (k : List Heard). Told i x k) (sym (append-nil before)) t
told-after i x before (h ∷ hs) t =
    subst (λ (k : List Heard). Told i (last_report i (hear_report i h.call h.reply x) hs) k) (append_assoc before (h ∷ []) hs)
    (told-after i (hear_report i h.call h.reply x) (before ++ (h ∷ [])) hs (told-next i x before h t))

told-some : (i : ℕ) (x : Option Vehicle) (hs : List Heard) (v : Vehicle) → Told i x hs → x ≡ Some v → LastReported i v hs
told-some i x hs v t e = subst (λ (y : Option Vehicle). Told i y hs) e t

-- ---- and back

quiet-last : (i : ℕ) (x : Option Vehicle) (hs : List Heard) → Quiet i hs → last_report i x hs ≡ x
unfolding last_report
quiet-last i x [] q = refl
quiet-last i x (h ∷ hs) q = go (says i h.call h.reply) (quiet-last i (hear_report i h.call h.reply x) hs q.1)
  where
    clash : accepts h.reply && speaks_of i h.call ≡ true → last_report i (hear_report i h.call h.reply x) hs ≡ x
    clash loud = let z : true ≡ false = sym loud ∙ q.0 in cc

    go : Says i h → last_report i (hear_report i h.call h.reply x) hs ≡ hear_report i h.call h.reply x
        → last_report i (hear_report i h.call h.reply x) hs ≡ x
    go (nothing quiet same) e = e ∙ same x
    go (reports f loud is ok gives) e = clash loud
    go (withdraws loud gives) e = clash loud

last-append : (i : ℕ) (x : Option Vehicle) (hs ks : List Heard) → last_report i x (hs ++ ks) ≡ last_report i (last_report i x hs) ks
unfolding last_report
last-append i x [] ks = refl
last-append i x (h ∷ hs) ks = last-append i (hear_report i h.call h.reply x) hs ks

heard-report : (i : ℕ) (f : Fix) (a : Answer) (x : Option Vehicle) → accepts a ≡ true → hear_report i (Report i f) a x ≡ Some (vehicle f)
unfolding hear_report new_report
heard-report i f a x e = rw (e, eq-eqb i i refl)

back : (i : ℕ) (v : Vehicle) (hs : List Heard) → LastReported i v hs → last_report i None hs ≡ Some v
unfolding last_report
back i v hs l =
    ap (last_report i None) l.split
    ∙ last-append i None l.before (record { call = Report i l.fix; reply = l.reply } ∷ l.since)
    ∙ quiet-last i _ l.since l.quiet
    ∙ heard-report i l.fix l.reply _ l.accepted
    ∙ ap Some (sym l.of_fix)

pub last-reported : (i : ℕ) (v : Vehicle) (hs : List Heard) → (last_report i None hs ≡ Some v) ↔ LastReported i v hs
last-reported i v hs = (λ e. told-some i (last_report i None hs) hs v (told-after i None [] hs tt) e, λ l. back i v hs l)
