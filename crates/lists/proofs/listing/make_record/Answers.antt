-- `lists::listing::make_record` meets its contract: the record stands for no change, or its edit is made. Assumes nothing.
use mathlib.Core.Path.{ap, ◌∙◌}
use Prim.Native.Nat.{ℕ}
use Rattle.tables.specs.Calls.{leaves}
use Rattle.tables.specs.Lists.{if_change, record_outcome}
use Rattle.tables.specs.Reply.{Reply}
use Rattle.books.specs.Lent.{tables_of}
use Rattle.tables.specs.Tables.{Tables}
use Rattle.tables.proofs.ReplyLaws.{passed_on}
use Rattle.lists.proofs.listing.make_record.Goals as goal

pub returns-in_err-change-clause-outcome : goal.returns-in_err-change-clause-outcome
unfolding record_outcome
returns-in_err-change-clause-outcome c =
    let a = c.args in
    let t : Tables = tables_of a.book.now in
    ap (λ (reply : Reply ℕ). leaves reply t) (passed_on _ _ c.from_residual.ensures.1) ∙ ap (if_change a.book.now.n a.book.now.m t a.caller.0) c.in_err-change.ensures

pub returns-clause-outcome : goal.returns-clause-outcome
unfolding record_outcome
returns-clause-outcome c =
    let a = c.args in
    let t : Tables = tables_of a.book.now in
    c.make_known.ensures.outcome ∙ ap (if_change a.book.now.n a.book.now.m t a.caller.0) c.in_ok-change.ensures
