-- What holds of a book after any list of calls since it was just opened, saves and returns among them, whatever its store held then.
--     stays_shaped, stays_sound    its tables have their lengths and are sound
--     stays_counted                the dispute count of each mark is the number of kinds whose entry for it is 257 or more
--     books_agree                  between two books of the same n and m: where every place of links and of rules holds the same number in both
--                                  books, every place of entries and of the dispute counts does too; their stores need not agree
--     stored_consistent            every call keeps the invariant that they rest on; stays: so it holds after the list
-- Assumes nothing.
use mathlib.Core.Path.{◌≡◌, ap, ◌∙◌, subst}
use mathlib.Core.Bool.{true}
use mathlib.Core.List.{List}
use Prim.Native.Nat.{ℕ, ◌+◌, ◌*◌, ◌<◌}
use lib.Dec.{leb}
use lib.ListN.{get_or}
use Rattle.inheritance.specs.Above.{count}
use Rattle.tables.specs.Reply.{given}
use Rattle.tables.specs.Tables.{Tables, shaped, sound, disputes_at, tallied}
use Rattle.tables.specs.Calls.{open_book}
use Rattle.tables.specs.Lists.{run}
use Rattle.tables.specs.Books.{Agree}
use Rattle.tables.proofs.BookLaws.{Consistent, consistent_shaped, consistent_sound, consistent_agree, tested_consistent, same_size}
use Rattle.tables.proofs.BookLaws.{call_consistent, opened_consistent}
use Rattle.tables.proofs.DisputeLaws.{disputes_at_mark}
use Rattle.tables.proofs.ListLaws.{run_keeps}
use Rattle.tables.proofs.ShapeLaws.{facts_sized}
use Rattle.tables.proofs.TableLaws.{length_tallied}
use Rattle.stores.specs.Store.{Store, state_at}
use Rattle.stores.specs.StoredBooks.{StoredBook, StoredCall, after_call}
use Rattle.stores.specs.StoredBooks.StoredCall.{on_tables, save, return_to}
use Rattle.stores.proofs.StoreLaws.{Returns, return_cases, state_lengths}

-- what a return brings back has passed the test of soundness, and has the lengths
returned_consistent : (n m : ℕ) (t : Tables) (s : Store) (caller name : ℕ) → Returns n m t s caller name
    → Consistent n m (state_at n m s name (tallied caller t.tally))
returned_consistent n m t s caller name r =
    let lengths = state_lengths n m t s name r.fits r.held r.low (tallied caller t.tally) (length_tallied caller t.tally) in
    tested_consistent n m _ (facts_sized 1 1 n m _ _ _ _ _ lengths) r.is_sound

pub stored_consistent : (n m : ℕ) (call : StoredCall) (b : StoredBook) → Consistent n m b.tables → Consistent n m (after_call call b).tables
unfolding after_call
stored_consistent n m (on_tables call) b s = call_consistent n m call b.tables s
stored_consistent n m (save n' m' name) b s = s
stored_consistent n m (return_to n' m' caller name) b s =
    return_cases n' m' b.tables b.store caller name (λ o. Consistent n m o.tables) (λ number. s) λ r.
    let (n-same, m-same) = same_size n m b.tables s n' m' r.fits in
    let left = state_at n' m' b.store name (tallied caller b.tables.tally) in
    let there = returned_consistent n' m' b.tables b.store caller name r in
    subst (λ (x : ℕ). Consistent x m left) n-same (subst (λ (y : ℕ). Consistent n' y left) m-same there)

-- ---- the promises

-- a book just opened, and its store
abbrev pub opened_with : (n m : ℕ) → Tables → Store → StoredBook
opened_with n m t s = record { tables = (open_book n m t).tables; store = s }

module _ (n m : ℕ) (t : Tables) (opened : (open_book n m t).reply ≡ given tt) (s : Store) (cs : List StoredCall) where
  abbrev left : Tables
  left = (run after_call cs (opened_with n m t s)).tables

  pub stays : Consistent n m left
  stays = run_keeps after_call (λ b. Consistent n m b.tables) (stored_consistent n m) cs (opened_with n m t s) (opened_consistent n m t opened)

  pub stays_shaped : shaped n m left ≡ true
  stays_shaped = consistent_shaped stays

  pub stays_sound : sound n m left ≡ true
  stays_sound = consistent_sound stays

  -- in numbers: an entry from 257 on is that of a dispute
  pub stays_counted : (j : ℕ) → j < m → get_or left.disputes j 0 ≡ count (λ k. leb 257 (get_or left.entries (k * m + j) 0)) n
  unfolding disputes_at
  stays_counted j h = ap (λ (l : List ℕ). get_or l j 0) stays.right.disputes ∙ disputes_at_mark n m left.entries j h

pub books_agree :
    (n m : ℕ) (t u : Tables) → (open_book n m t).reply ≡ given tt → (open_book n m u).reply ≡ given tt → (s s' : Store) (xs ys : List StoredCall)
    → let a = (run after_call xs (opened_with n m t s)).tables in let b = (run after_call ys (opened_with n m u s')).tables in
    Agree a.links b.links → Agree a.rules b.rules → Agree a.entries b.entries × Agree a.disputes b.disputes
books_agree n m t u opened-t opened-u s s' xs ys = consistent_agree n m _ _ (stays n m t opened-t s xs) (stays n m u opened-u s' ys)
