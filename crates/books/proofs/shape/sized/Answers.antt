-- `books::shape::sized` meets its contract: its tests are those of `sized`. Assumes nothing.
use Rattle.std.proofs.Common.{◌≡◌, ◌*◌, Bool, true, false, eqb, sym, ap, ◌∙◌}
use mathlib.Core.Bool.{◌&&◌}
use Rattle.tables.specs.Caller.{callers}
use Rattle.tables.specs.Tables.{sized}
use Rattle.books.proofs.shape.sized.Goals as goal

-- the last three tests decide where the others hold, and play no part where they fail
and-taken : (w x y z : Bool) → w ≡ true → (x && y && z) ≡ (w && x && y && z)
and-taken w x y z e = ap (λ (v : Bool). v && x && y && z) (sym e)

and_left : (w x y z : Bool) → w ≡ false → w ≡ (w && x && y && z)
and_left w x y z e = e ∙ ap (λ (v : Bool). v && x && y && z) (sym e)

pub returns-then-n-m : goal.returns-then-n-m
unfolding sized
returns-then-n-m c = and-taken _ _ _ _ c.if-n-m.true

pub returns-else-n-m : goal.returns-else-n-m
unfolding sized
returns-else-n-m c =
    let a = c.args in
    and_left _ (eqb a.entries (a.short * (a.n * a.m))) (eqb a.tally (a.long * callers)) (eqb a.disputes (a.short * a.m)) c.if-n-m.false
