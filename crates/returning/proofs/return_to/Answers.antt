-- `returning::return_to` meets its contract, by the steps of `ReturnLaws`. Assumes nothing.
use mathlib.Core.Path.{◌≡◌, sym, ap, ◌∙◌}
use mathlib.Core.Bool.{true}
use Prim.Native.Nat.{ℕ}
use Rattle.books.proofs.AskLaws.{asked_by}
use Rattle.books.specs.Lent.{tables_of}
use Rattle.stores.specs.Lent.{store_read}
use Rattle.stores.specs.Store.{Store, stored}
use Rattle.stores.proofs.NameLaws.{asked_under}
use Rattle.stores.proofs.StoreLaws.{stored_facts}
use Rattle.tables.specs.Calls.{leaves}
use Rattle.tables.specs.Reply.{Reply}
use Rattle.tables.specs.Tables.{Tables}
use Rattle.tables.proofs.ReplyLaws.{passed_on}
use Rattle.returning.proofs.ReturnLaws.{store_refused, caller_refused, state_refused, return_passed}
use Rattle.returning.proofs.return_to.Goals as goal

pub returns-then-not-stored-clause-outcome : goal.returns-then-not-stored-clause-outcome
returns-then-not-stored-clause-outcome c =
    let a = c.args in
    let t : Tables = tables_of a.book.now in
    let s : Store = store_read a.store.now in
    store_refused _ _ t s _ _ (sym c.is_shaped-stored.ensures ∙ c.if-not-stored.true)

pub ask_state-requires : goal.ask_state-requires
ask_state-requires c =
    let a = c.args in
    let s : Store = store_read a.store.now in
    let held : stored a.book.now.n a.book.now.m s ≡ true = sym c.is_shaped-stored.ensures ∙ c.if-not-stored.false in
    (stored_facts _ _ s held).flags_length

pub bring_back-requires-clause-copies : goal.bring_back-requires-clause-copies
bring_back-requires-clause-copies c =
    let a = c.args in
    let s : Store = store_read a.store.now in
    let held : stored a.book.now.n a.book.now.m s ≡ true = sym c.is_shaped-stored.ensures ∙ c.if-not-stored.false in
    let l = stored_facts _ _ s held in
    record { links_length = l.links_length; rules_length = l.rules_length; entries_length = l.entries_length; disputes_length = l.disputes_length }

pub bring_back-requires-clause-name : goal.bring_back-requires-clause-name
bring_back-requires-clause-name c =
    let a = c.args in
    let name = asked_under a.store.now.flags.now a.name.0 (sym c.in_ok-known.ensures) in
    rw name.the_name name.name_in_range

pub returns-in_err-by-clause-outcome : goal.returns-in_err-by-clause-outcome
returns-in_err-by-clause-outcome c =
    let a = c.args in
    let t : Tables = tables_of a.book.now in
    let s : Store = store_read a.store.now in
    let held : stored a.book.now.n a.book.now.m s ≡ true = sym c.is_shaped-stored.ensures ∙ c.if-not-stored.false in
    ap (λ (reply : Reply ℕ). leaves reply t) (passed_on _ _ c.from_residual.ensures.1) ∙ caller_refused _ _ t s _ _ held (sym c.in_err-by.ensures)

pub returns-in_err-known-clause-outcome : goal.returns-in_err-known-clause-outcome
returns-in_err-known-clause-outcome c =
    let a = c.args in
    let t : Tables = tables_of a.book.now in
    let s : Store = store_read a.store.now in
    let held : stored a.book.now.n a.book.now.m s ≡ true = sym c.is_shaped-stored.ensures ∙ c.if-not-stored.false in
    let by = asked_by _ _ t _ (sym c.in_ok-by.ensures) in
    ap (λ (reply : Reply ℕ). leaves reply t) (passed_on _ _ c.from_residual-in_err-known.ensures.1) ∙ state_refused _ _ t s _ _ held by (sym c.in_err-known.ensures)

pub returns-clause-outcome : goal.returns-clause-outcome
returns-clause-outcome c =
    let a = c.args in
    let t : Tables = tables_of a.book.now in
    let s : Store = store_read a.store.now in
    let held : stored a.book.now.n a.book.now.m s ≡ true = sym c.is_shaped-stored.ensures ∙ c.if-not-stored.false in
    let by = asked_by _ _ t _ (sym c.in_ok-by.ensures) in
    let name = asked_under a.store.now.flags.now a.name.0 (sym c.in_ok-known.ensures) in
    c.bring_back.ensures.outcome ∙ return_passed _ _ t s _ _ held by name
