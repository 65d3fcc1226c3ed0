-- What std's comparisons of two floats tell: their order by `<=` and by `<`.
use Rattle.std.proofs.Common.{◌≡◌, ◌||◌, Bool, true, false, cond, refl, Some, None, Less, Equal, Greater}
use Rattle.std.specs.Float.{Float}
use Rattle.std.specs.Float.Ieee.{lt, eq, le}
use Rattle.std.specs.Ordering.{partial_lt, partial_le, float_partial_cmp, is_lt, is_le, is_some_and}

by_le : (l e g : Bool) → is_some_and is_le (cond l (Some Less) (cond e (Some Equal) (cond g (Some Greater) None))) ≡ (l || e)
by_le true e g = refl
by_le false true g = refl
by_le false false true = refl
by_le false false false = refl

by_lt : (l e g : Bool) → is_some_and is_lt (cond l (Some Less) (cond e (Some Equal) (cond g (Some Greater) None))) ≡ l
by_lt true e g = refl
by_lt false true g = refl
by_lt false false true = refl
by_lt false false false = refl

pub as_le : (x y : Float) → partial_le float_partial_cmp x y ≡ le x y
unfolding le lt
as_le x y = by_le (lt x y) (eq x y) (lt y x)

pub as_lt : (x y : Float) → partial_lt float_partial_cmp x y ≡ lt x y
unfolding lt
as_lt x y = by_lt (lt x y) (eq x y) (lt y x)
