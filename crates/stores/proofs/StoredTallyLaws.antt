-- The tally of a book after any list of calls since it was just opened, saves and returns among them, whatever its store held then.
--     tally_counts    each caller's number is the count of that caller's edits accepted since the last accepted open, an accepted return among them, or
--                     4,294,967,295 where there were more
-- Assumes nothing.
use mathlib.Core.Path.{◌≡◌}
use mathlib.Core.List.{List, [], ◌∷◌}
use Prim.Native.Nat.{ℕ, min}
use lib.ListN.{get_or}
use Rattle.tables.specs.Caller.{callers}
use Rattle.tables.specs.Reply.{given}
use Rattle.tables.specs.Tables.{Tables}
use Rattle.tables.specs.Calls.{open_book, Outcome}
use Rattle.tables.specs.Lists.{run}
use Rattle.tables.specs.Books.{editing, edits_made, with_edits}
use Rattle.tables.proofs.BookLaws.{Consistent, opened_consistent, zeros_at}
use Rattle.tables.proofs.CallLaws.{check_given}
use Rattle.tables.proofs.TallyLaws.{none_more, one_more, request_counts}
use Rattle.stores.specs.Store.{Store, state_at}
use Rattle.stores.specs.StoredBooks.{StoredBook, StoredCall, after_call, counted_after, edits_since}
use Rattle.stores.specs.StoredBooks.StoredCall.{on_tables, save, return_to}
use Rattle.stores.proofs.StoreLaws.{return_cases}
use Rattle.stores.proofs.StoredBookLaws.{opened_with, stored_consistent}

-- ---- one call

module _ (n m caller count : ℕ) (b : StoredBook) (s : Consistent n m b.tables) (so_far : get_or b.tables.tally caller 0 ≡ min 4294967295 count) where
  call_counts : (call : StoredCall) → get_or (after_call call b).tables.tally caller 0 ≡ min 4294967295 (counted_after caller call b count)
  unfolding after_call counted_after state_at
  call_counts (on_tables call) = request_counts n m b.tables s caller count so_far call.n call.m call.request
  call_counts (save n' m' name) = so_far
  call_counts (return_to n' m' by name) =
      let Counts : Outcome ℕ → Type 0 = λ o. get_or o.tables.tally caller 0 ≡ min 4294967295 (with_edits caller by (edits_made (editing o.reply)) count) in
      return_cases n' m' b.tables b.store by name Counts (λ number. none_more n m b.tables s caller count so_far by)
      λ r. one_more n m b.tables s caller count so_far by r.known

-- ---- lists of calls

run_counts : (n m : ℕ) (cs : List StoredCall) (b : StoredBook) (caller count : ℕ) → Consistent n m b.tables
    → get_or b.tables.tally caller 0 ≡ min 4294967295 count
    → get_or (run after_call cs b).tables.tally caller 0 ≡ min 4294967295 (edits_since caller count cs b)
unfolding run edits_since
run_counts n m [] b caller count s so_far = so_far
run_counts n m (call ∷ cs) b caller count s so_far =
    run_counts n m cs (after_call call b) caller _ (stored_consistent n m call b s) (call_counts n m caller count b s so_far call)

opened_tally : (n m : ℕ) (t : Tables) → (open_book n m t).reply ≡ given tt → (caller : ℕ) → get_or (open_book n m t).tables.tally caller 0 ≡ 0
unfolding open_book
opened_tally n m t opened caller = check_given 1 t _ (λ left. get_or left.tally caller 0 ≡ 0) _ (λ _ _. zeros_at callers caller) opened

-- for every number: past the last caller the tally has none, and no edit is accepted
pub tally_counts : (n m : ℕ) (t : Tables) → (open_book n m t).reply ≡ given tt → (s : Store) (cs : List StoredCall) (caller : ℕ)
    → let opened = opened_with n m t s in get_or (run after_call cs opened).tables.tally caller 0 ≡ min 4294967295 (edits_since caller 0 cs opened)
tally_counts n m t opened s cs caller = run_counts n m cs _ caller 0 (opened_consistent n m t opened) (opened_tally n m t opened caller)
