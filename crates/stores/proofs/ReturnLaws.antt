-- What an accepted return promises of every call after it.
--     alike                 the same call leads two books that are the same but for what the tallies hold to two such books; run_alike: so does a list
--     return_brings_back    after a return under a name, and any calls then, the book is the one that these calls make of the tables that the last
--                           accepted save under that name found, but for the tally
-- Assumes nothing.
use mathlib.Core.Path.{◌≡◌, refl, sym, ap, ◌∙◌, subst}
use mathlib.Core.List.{List, ◌∷◌, ◌++◌}
use Prim.Native.Nat.{ℕ}
use lib.ListN.{length}
use Rattle.tables.specs.Reply.{given}
use Rattle.tables.specs.Tables.{Tables, tallied}
use Rattle.tables.specs.Lists.{run}
use Rattle.tables.proofs.ListLaws.{run_relates, run_append}
use Rattle.tables.proofs.TableLaws.{length_tallied}
use Rattle.stores.specs.Store as store
use Rattle.stores.specs.Store.{Store, state_at}
use Rattle.stores.specs.StoreSteps.{with_tally, SameButTally, SameBooks}
use Rattle.stores.specs.StoredBooks.{StoredBook, StoredCall, after_call, saved_last}
use Rattle.stores.specs.StoredBooks.StoredCall.{on_tables, save, return_to}
use Rattle.stores.proofs.SavedLaws.{run_lengths, shaped_same, stored_same, tally_same, state_is_last_saved, tally_long}
use Rattle.stores.proofs.StoreLaws.{Returned, given_returned}
use Rattle.stores.proofs.TallyFree.{request_alike, save_alike, return_alike}

-- ---- the same call on two books

pub alike : (call : StoredCall) (a b : StoredBook) → SameBooks a b → SameBooks (after_call call a) (after_call call b)
unfolding after_call
alike (on_tables call) a b e = record {
  tables_same = (request_alike call.n call.m a.tables b.tables e.tables_same call.request).tables_like;
  store_same = e.store_same;
}
alike (save n m name) a b e = record {
  tables_same = e.tables_same;
  store_same = ap (λ (s : Store). (store.save n m a.tables s name).tables) e.store_same
      ∙ ap (λ o. o.tables) (save_alike n m a.tables b.tables e.tables_same b.store name);
}
alike (return_to n m caller name) a b e = record {
  tables_same = subst (λ (s : Store). SameButTally (store.return_to n m a.tables a.store caller name).tables (store.return_to n m b.tables s caller name).tables)
      e.store_same (return_alike n m a.tables b.tables e.tables_same a.store caller name).tables_like;
  store_same = e.store_same;
}

pub run_alike : (cs : List StoredCall) (a b : StoredBook) → SameBooks a b → SameBooks (run after_call cs a) (run after_call cs b)
run_alike = run_relates after_call SameBooks alike

-- ---- what a return brings back

module _ (b : StoredBook) (before : List StoredCall) (n m caller name count : ℕ) where
  abbrev found : StoredBook
  found = run after_call before b

  -- what is under the name at the start
  abbrev first : Tables
  first = state_at n m b.store name b.tables.tally

  back_at_once : Returned n m found.tables found.store caller name count (store.return_to n m found.tables found.store caller name).tables
      → SameBooks (after_call (return_to n m caller name) found) (record { tables = saved_last name first before b; store = found.store })
  unfolding after_call state_at
  back_at_once r =
      let p = r.passes in
      let same = run_lengths before b in
      let fits = sym (shaped_same b found same n m) ∙ p.fits in
      let held = sym (stored_same b found same n m) ∙ p.held in
      let left = r.left ∙ state_is_last_saved n m name before b first fits held p.low (λ _. refl) (tallied caller found.tables.tally) in
      let long = ap (λ (t : Tables). length t.tally) left ∙ length_tallied caller found.tables.tally ∙ tally_same b found same in
      record {
        tables_same = record {
          same = ap (λ (t : Tables). with_tally t (saved_last name first before b).tally) (sym left);
          tally_length = long ∙ sym (tally_long name before b first refl);
        };
        store_same = refl;
      }

-- where no save under the name was accepted before, the tables are those that the store held under it at the start
pub return_brings_back : (b : StoredBook) (before : List StoredCall) (n m caller name : ℕ) (rest : List StoredCall) (count : ℕ)
    → let found = run after_call before b in (store.return_to n m found.tables found.store caller name).reply ≡ given count
    → let saved = saved_last name (state_at n m b.store name b.tables.tally) before b in
    SameBooks (run after_call (before ++ (return_to n m caller name ∷ rest)) b) (run after_call rest (record { tables = saved; store = found.store }))
unfolding run
return_brings_back b before n m caller name rest count accepted =
    let found = run after_call before b in
    let saved : StoredBook = record { tables = saved_last name (state_at n m b.store name b.tables.tally) before b; store = found.store } in
    let r = given_returned n m found.tables found.store caller name count accepted in
    subst (λ (a : StoredBook). SameBooks a (run after_call rest saved)) (sym (run_append after_call before (return_to n m caller name ∷ rest) b))
    (run_alike rest (after_call (return_to n m caller name) found) saved (back_at_once b before n m caller name count r))
