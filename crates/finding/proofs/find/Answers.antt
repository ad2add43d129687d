-- `finding::find` meets its contract: it answers by the cases of `checked`, and where that lets the call through, kind, mark and
-- tables are as `answer` requires. Assumes nothing.
use mathlib.Core.Path.{sym, ◌∙◌}
use Rattle.tables.specs.Reply.{found_of}
use Rattle.tables.proofs.ReplyLaws.{passed_on_as}
use Rattle.books.specs.Lent.{tables_read}
use Rattle.books.proofs.AskLaws.{admitted, find_at, find_refused}
use Rattle.finding.proofs.find.Goals as goal

pub answer-requires : goal.answer-requires
answer-requires c = (admitted _ _ (tables_read c.args.tables.now) _ _ (sym c.in_ok-k.ensures)).1

pub returns-in_err-k : goal.returns-in_err-k
returns-in_err-k c = passed_on_as _ _ c.from_residual.ensures.1 found_of ∙ sym (find_refused _ _ _ _ _ (sym c.in_err-k.ensures))

pub returns : goal.returns
returns c = c.answer.ensures ∙ sym (find_at _ _ _ _ _ (sym c.in_ok-k.ensures))
