-- `stepping::inherit_row` meets its contract. Assumes nothing.
use mathlib.Core.Path.{sym, ◌∙◌}
use Rattle.merging.proofs.Giving.{row_owned, row_decided}
use Rattle.merging.proofs.NarrowLaws.{row_agreed}
use Rattle.stepping.proofs.inherit_row.Goals as goal

pub returns-then-not-own_row : goal.returns-then-not-own_row
returns-then-not-own_row c =
    let s = c.requires in
    row_decided s.ready s.sized.kinds _ _ s.kind.0 c.args.marks.high (row_owned _ _ c.merge_parents.ensures c.own_row.ensures.row) c.decide_row.ensures

pub returns-else-not-own_row : goal.returns-else-not-own_row
returns-else-not-own_row c =
    let s = c.requires in
    row_decided s.ready s.sized.kinds _ _ s.kind.0 c.args.marks.high (row_owned _ _ c.merge_parents.ensures c.own_row.ensures.row)
    (row_agreed _ _ _ _ (sym c.own_row.ensures.all ∙ c.if-not-own_row.false) c.own_row.ensures.row)
