-- `checking::kind_right` meets its contract: where the row is plain nothing is to be decided, and it is compared already. Assumes nothing.
use mathlib.Core.Path.{sym, ◌∙◌}
use native.Mathlib.Omega.{arith}
use borrow.Author.Tests.{eq-eqb}
use Rattle.tables.proofs.TableLaws.{true_below, row_in}
use Rattle.checking.proofs.CheckLaws.{plain_means, rows_same, row_kind}
use Rattle.merging.proofs.Giving.{row_decided}
use Rattle.merging.proofs.NarrowLaws.{row_agreed}
use Rattle.checking.proofs.kind_right.Goals as goal

pub returns-then-check_row : goal.returns-then-check_row
returns-then-check_row c =
    let k = c.check_row.ensures.0 in
    let s = c.requires in
    let plain = plain_means _ _ _ _ _ _ (sym k.answer ∙ c.if-check_row.true) in (
      sym (true_below _ _ (λ j h. eq-eqb _ _ (sym (plain.1 j h) ∙ sym (k.row.at j (omega arith) h))))
          ∙ row_kind _ _ _ _ _ _
          (row_decided s.ready s.sized.kinds _ _ s.kind_and_counts.0 (omega arith) k.row (row_agreed _ _ _ _ plain.0 k.row)),
      k.row.long,
      c.check_row.ensures.1,
    )

pub returns : goal.returns
returns c =
    let s = c.requires in (
      rows_same _ _ _ _ (row_in _ _ _ s.sized.entries_size s.kind_and_counts.0) (omega (arith, c.decide_row.ensures.long)) c.row_right.ensures
          ∙ row_kind _ _ _ _ _ _
          (row_decided s.ready s.sized.kinds _ _ s.kind_and_counts.0 (omega arith) c.check_row.ensures.0.row c.decide_row.ensures),
      c.decide_row.ensures.long,
      c.check_row.ensures.1,
    )
