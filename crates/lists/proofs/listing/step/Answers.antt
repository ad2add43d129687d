-- `lists::listing::step` meets its contract, by the steps of `ListingLaws`. Assumes nothing.
use mathlib.Core.Path.{refl}
use Rattle.books.specs.Lent.{tables_of}
use Rattle.tables.specs.Tables.{Tables}
use Rattle.lists.proofs.ListingLaws.{next_counted, next_going}
use Rattle.lists.proofs.listing.step.Goals as goal

pub make_record-requires : goal.make_record-requires
make_record-requires c = let g = c.requires.going in record { known = g.known; caller = g.caller_in }

pub returns-in-Ok-clause-outcome : goal.returns-in-Ok-clause-outcome
returns-in-Ok-clause-outcome c =
    let a = c.args in
    let t : Tables = tables_of a.book.now in
    rw c.from.ensures (next_counted _ _ _ _ t a.listing c.requires.going.on c.in-Ok.ensures.outcome)

pub returns-in-Ok-clause-ready : goal.returns-in-Ok-clause-ready
returns-in-Ok-clause-ready c =
    let a = c.args in
    let t : Tables = tables_of a.book.now in
    (rw c.from.ensures (next_going _ _ _ _ t a.listing c.requires.going c.in-Ok.ensures.outcome c.in-Ok.ensures.known), refl)

pub returns-in-Err-clause-outcome : goal.returns-in-Err-clause-outcome
returns-in-Err-clause-outcome c =
    let a = c.args in
    let t : Tables = tables_of a.book.now in
    next_counted _ _ _ _ t a.listing c.requires.going.on c.in-Err.ensures.outcome
