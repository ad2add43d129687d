-- `calls::carry_out` meets its contract, by the law of each request. Assumes nothing.
use Rattle.books.specs.Lent.{tables_of}
use Rattle.calls.proofs.CarryLaws.{open_carried, edit_carried, find_carried, parties_carried, inspect_carried, refresh_carried}
use Rattle.calls.proofs.carry_out.Goals as goal

pub returns-in-Open-clause-outcome : goal.returns-in-Open-clause-outcome
returns-in-Open-clause-outcome c =
    let t = tables_of c.args.book.now in
    rw c.in-Open.is (open_carried _ _ t c.«open».ensures.outcome)

pub returns-in-Edit-clause-outcome : goal.returns-in-Edit-clause-outcome
returns-in-Edit-clause-outcome c =
    let t = tables_of c.args.book.now in
    rw c.in-Edit.is (edit_carried _ _ t _ _ c.make.ensures.outcome)

pub returns-in-Find-clause-outcome : goal.returns-in-Find-clause-outcome
returns-in-Find-clause-outcome c =
    let t = tables_of c.args.book.now in
    let read = c.read.ensures in
    let told = simp (read.n, read.m, read.tables) at c.find.ensures in
    rw c.in-Find.is (find_carried _ _ t _ _ told)

pub returns-in-Parties-clause-outcome : goal.returns-in-Parties-clause-outcome
returns-in-Parties-clause-outcome c =
    let t = tables_of c.args.book.now in
    let read = c.read-in-Parties.ensures in
    let told = simp (read.n, read.m, read.tables) at c.parties.ensures in
    rw c.in-Parties.is (parties_carried _ _ t _ _ told)

pub returns-in-Inspect-clause-outcome : goal.returns-in-Inspect-clause-outcome
returns-in-Inspect-clause-outcome c =
    let t = tables_of c.args.book.now in
    let read = c.read-in-Inspect.ensures in
    let told = simp (read.n, read.m, read.tables) at c.inspect.ensures in
    rw c.in-Inspect.is (inspect_carried _ _ t told)

pub returns-in-Refresh-clause-outcome : goal.returns-in-Refresh-clause-outcome
returns-in-Refresh-clause-outcome c =
    let t = tables_of c.args.book.now in
    rw c.in-Refresh.is (refresh_carried _ _ t c.refresh.ensures.outcome)
