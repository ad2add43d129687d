-- `merging::merge_parents` meets its contract. The loop's invariant: the row has what the parents before some place give, and those from it on are
-- left. Assumes nothing.
use Rattle.std.proofs.Common.{◌+◌, arith, refl}
use Rattle.relation.proofs.Taking.{rest_row, rest_some, rest_none, rest_more, fewer_left}
use Rattle.merging.proofs.Giving.{row_empty, row_first, row_merge, row_next}
use Rattle.merging.proofs.merge_parents.Goals as goal

pub returns-in_default : goal.returns-in_default
returns-in_default c =
    row_empty _ _ _ _ 64 refl (omega arith) (rest_none c.args.marks.size.kinds (rest_row _ _ c.row-rest.ensures) (omega arith) c.in_default.ensures)

pub loop-p-init : goal.loop-p-init
loop-p-init c =
    let (t, lt, gone) = c.in-Some.ensures in
    let most = c.args.marks.size.kinds in
    let r = rest_row _ _ c.row-rest.ensures in
    let f = rest_some most r t lt in
    (c.in-Some.first + 1, omega arith, rest_more most r f gone, row_first _ _ _ _ f lt c.take_row.ensures)

pub loop-p-preserved : goal.loop-p-preserved
loop-p-preserved c =
    let (t, lt, gone) = c.in-Some-take_first.ensures in
    let (i, within, r, row) = c.loop-p.invariant in
    let most = c.args.marks.size.kinds in
    let f = rest_some most r t lt in
    (c.in-Some-take_first.p + 1, omega arith, rest_more most r f gone, row_merge _ _ _ _ _ (f.found lt) (row_next _ _ _ _ f row) c.merge_row.ensures)

pub loop-p-smaller : goal.loop-p-smaller
loop-p-smaller c =
    let (t, lt, gone) = c.in-Some-take_first.ensures in
    fewer_left (omega (arith, c.args.marks.size.kinds)) (t.found lt) gone

pub returns : goal.returns
returns c =
    let (i, within, r, row) = c.loop-p.invariant in
    row_next _ _ _ _ (rest_none c.args.marks.size.kinds r within c.in_default-take_first.ensures) row
