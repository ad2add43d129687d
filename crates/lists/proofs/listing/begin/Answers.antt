-- `lists::listing::begin` meets its contract, by the steps of `ListingLaws`. Assumes nothing.
use mathlib.Core.Path.{refl, sym, ap, ◌∙◌}
use native.Mathlib.Omega.{arith}
use Rattle.books.proofs.AskLaws.{asked_by}
use Rattle.tables.specs.Calls.{leaves}
use Rattle.tables.specs.Reply.{Reply, Listing, listing_of}
use Rattle.books.specs.Lent.{tables_of}
use Rattle.tables.specs.Tables.{Tables}
use Rattle.tables.proofs.ReplyLaws.{passed_on_as}
use Rattle.resettling.proofs.KnownLaws.{fits_sized, known}
use Rattle.lists.proofs.ListingLaws.{begin_long, begin_first, begin_unsound, begin_passed}
use Rattle.lists.proofs.listing.begin.Goals as goal

pub returns-then-records-gt-MOST_RECORDS-clause-outcome : goal.returns-then-records-gt-MOST_RECORDS-clause-outcome
returns-then-records-gt-MOST_RECORDS-clause-outcome c =
    let a = c.args in
    let t : Tables = tables_of a.book.now in
    begin_long _ _ t _ _ c.if-records-gt-MOST_RECORDS.true

pub invariant_of-size : goal.invariant_of-size
invariant_of-size c =
    let t : Tables = tables_of c.args.book.now in
    let s = (fits_sized _ _ t (asked_by _ _ t _ (sym c.in_ok-ask_caller.ensures)).fits).0 in
    record { kinds = s.kinds; marks = s.marks }

pub examine-sound-requires-clause-sized : goal.examine-sound-requires-clause-sized
examine-sound-requires-clause-sized c =
    let a = c.args in
    let t : Tables = tables_of a.book.now in
    let by = asked_by _ _ t _ (sym c.in_ok-ask_caller.ensures) in
    fits_sized _ _ t by.fits

pub returns-in_err-ask_caller-clause-outcome : goal.returns-in_err-ask_caller-clause-outcome
returns-in_err-ask_caller-clause-outcome c =
    let a = c.args in
    let t : Tables = tables_of a.book.now in
    ap (λ (reply : Reply Listing). leaves reply t) (passed_on_as _ _ c.from_residual.ensures.1 listing_of)
    ∙ begin_first _ _ t _ _ c.if-records-gt-MOST_RECORDS.false (sym c.in_err-ask_caller.ensures)

pub returns-then-not-sound-clause-outcome : goal.returns-then-not-sound-clause-outcome
returns-then-not-sound-clause-outcome c =
    let a = c.args in
    let t : Tables = tables_of a.book.now in
    let by = asked_by _ _ t _ (sym c.in_ok-ask_caller.ensures) in
    begin_unsound _ _ t _ _ c.if-records-gt-MOST_RECORDS.false by.fits by.caller_in_range (sym (c.examine-sound.ensures.answer a.book.now.tally.now) ∙ c.if-not-sound.true)

pub returns-clause-outcome : goal.returns-clause-outcome
returns-clause-outcome c =
    let a = c.args in
    let t : Tables = tables_of a.book.now in
    let by = asked_by _ _ t _ (sym c.in_ok-ask_caller.ensures) in
    let k = known _ _ t _ by.fits c.examine-sound.ensures c.if-not-sound.false in
    begin_passed _ _ t _ _ c.if-records-gt-MOST_RECORDS.false by.fits by.caller_in_range k.is_sound

pub returns-clause-ready : goal.returns-clause-ready
returns-clause-ready c =
    let a = c.args in
    let t : Tables = tables_of a.book.now in
    let by = asked_by _ _ t _ (sym c.in_ok-ask_caller.ensures) in
    let k = known _ _ t _ by.fits c.examine-sound.ensures c.if-not-sound.false in
    (record { caller_in = by.caller_in_range; known = k; on = refl; small = omega arith }, refl, c.if-records-gt-MOST_RECORDS.false)
