-- `renewing::opening::open` meets its contract: the clearing leaves zeros, by `open_done`. Assumes nothing.
use mathlib.Core.Path.{sym, ◌∙◌}
use Rattle.books.specs.Lent.{tables_of}
use Rattle.renewing.proofs.OpenLaws.{open_done, open_refused}
use Rattle.renewing.proofs.opening.open.Goals as goal

pub returns-then-not-is_shaped-clause-outcome : goal.returns-then-not-is_shaped-clause-outcome
returns-then-not-is_shaped-clause-outcome c = open_refused _ _ (tables_of c.args.book.now) (sym c.is_shaped.ensures ∙ c.if-not-is_shaped.true)

pub returns-clause-outcome : goal.returns-clause-outcome
returns-clause-outcome c =
    open_done _ _ (tables_of c.args.book.now) (sym c.is_shaped.ensures ∙ c.if-not-is_shaped.false)
    (c.fill.ensures.after λ _ is. is) (c.fill-2.ensures.after λ _ is. is) (c.fill-3.ensures.after λ _ is. is)
    (c.fill-4.ensures.after λ _ is. is) (c.fill-5.ensures.after λ _ is. is)
