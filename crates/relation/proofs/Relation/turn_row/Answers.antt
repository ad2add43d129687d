-- `Relation::turn_row` meets its contract. Assumes nothing.
use Rattle.std.proofs.Common.{◌+◌, arith}
use native.Mathlib.Nat.{le_refl}
use Rattle.relation.proofs.Taking.{rest_set, rest_some, rest_none, rest_more, fewer_left}
use Rattle.relation.proofs.Turning.{kinds_none, kinds_more, kinds_passed}
use Rattle.relation.proofs.Relation.turn_row.Goals as goal

pub loop-p-init : goal.loop-p-init
loop-p-init c = (0, omega arith, rest_set _, kinds_none _ _)

pub loop-p-preserved : goal.loop-p-preserved
loop-p-preserved c =
    let (t, lt, gone) = c.in-Some.ensures in
    let (i, within, r, added) = c.loop-p.invariant in
    let f = rest_some (le_refl 128) r t lt in
    (c.in-Some.p + 1, omega arith, rest_more (le_refl 128) r f gone, kinds_more _ _ f lt added c.insert.ensures)

pub loop-p-smaller : goal.loop-p-smaller
loop-p-smaller c =
    let (t, lt, gone) = c.in-Some.ensures in
    fewer_left lt (t.found lt) gone

pub returns : goal.returns
returns c =
    let (i, within, r, added) = c.loop-p.invariant in
    kinds_passed _ _ (rest_none (le_refl 128) r within c.in_default.ensures) added
