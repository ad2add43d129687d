-- `disputing::parties` meets its contract: it answers by the cases of `checked`, and where that lets the call through, kind, mark and
-- tables are as `answer` requires. Assumes nothing.
use mathlib.Core.Path.{sym, ◌∙◌}
use native.Mathlib.Omega.{arith}
use Rattle.tables.specs.Reply.{kinds_of}
use Rattle.books.specs.Lent.{tables_read}
use Rattle.tables.specs.Tables.{Tables}
use Rattle.tables.proofs.ReplyLaws.{passed_on_as}
use Rattle.tables.proofs.ShapeLaws.{sized_facts}
use Rattle.books.proofs.AskLaws.{admitted}
use Rattle.disputing.proofs.PartyLaws.{parties_refused, parties_at_place}
use Rattle.disputing.proofs.parties.Goals as goal

pub invariant_of-size : goal.invariant_of-size
invariant_of-size c =
    let t : Tables = tables_read c.args.tables.now in
    let s = (admitted _ _ t _ _ (sym c.in_ok-k.ensures)).1.sizes in
    record { kinds = s.kinds; marks = s.marks }

pub answer-requires : goal.answer-requires
answer-requires c =
    let a = c.args in
    let t : Tables = tables_read a.tables.now in
    let (fits, within) = admitted _ _ t _ _ (sym c.in_ok-k.ensures) in
    let s = sized_facts 1 1 a.tables.now.n a.tables.now.m _ _ _ _ _ fits in
    (within, s.links_length, omega (arith, s.disputes_length))

pub returns-in_err-k : goal.returns-in_err-k
returns-in_err-k c =
    let a = c.args in
    let t : Tables = tables_read a.tables.now in
    passed_on_as _ _ c.from_residual.ensures.1 kinds_of ∙ parties_refused _ _ t _ _ (sym c.in_err-k.ensures)

pub returns : goal.returns
returns c =
    let a = c.args in
    let t : Tables = tables_read a.tables.now in
    parties_at_place _ _ t _ _ (sym c.in_ok-k.ensures) (c.answer.ensures a.tables.now.tally.now)
