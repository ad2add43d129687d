-- Lists of calls, each list on a book of its own that has its store: the calls of docs/SCOPE.md, save and return among them.
--     StoredBook     a book's tables and its store
--     StoredCall     one of the ten calls that the store is not lent to, or save, or return, with any arguments
--     after_call     the book and the store that a call leaves
--     edits_since    a caller's edits accepted since the book's last accepted open, an accepted return among them
--     saved_last     the tables that the last accepted save under a name found
-- Assumes nothing.
use Rattle.std.specs.Prelude.{true, false, ◌&&◌, List, [], ◌∷◌, ℕ, eqb}
use Rattle.tables.specs.Tables.{Tables}
use Rattle.tables.specs.Books.{Call, outcome, after, editing, is_given, edits_made, with_edits, counted_by}
use Rattle.stores.specs.Store as store
use Rattle.stores.specs.Store.{Store}

pub record StoredBook : Type 0 where
  pub tables : Tables
  pub store : Store

pub data StoredCall : Type 0 where
  on_tables : Call → StoredCall
  save : (n m name : ℕ) → StoredCall
  return_to : (n m caller name : ℕ) → StoredCall

-- a call that the store is not lent to leaves it; a save leaves the tables, and a return the store
unfoldable pub after_call : StoredCall → StoredBook → StoredBook
after_call (on_tables call) b = record { tables = after call b.tables; store = b.store }
after_call (save n m name) b = record { tables = b.tables; store = (store.save n m b.tables b.store name).tables }
after_call (return_to n m caller name) b = record { tables = (store.return_to n m b.tables b.store caller name).tables; store = b.store }

-- ---- the tally

-- a caller's edits since the last open, where there were `count` before a call: a return counts as one accepted edit, a save as none
unfoldable pub counted_after : (caller : ℕ) → StoredCall → StoredBook → (count : ℕ) → ℕ
counted_after caller (on_tables call) b count = counted_by caller call.request (outcome call b.tables).answer count
counted_after caller (save n m name) b count = count
counted_after caller (return_to n m by name) b count = with_edits caller by (edits_made (editing (store.return_to n m b.tables b.store by name).reply)) count

-- a caller's edits accepted since the book's last accepted open, where `count` were before these calls
unfoldable pub edits_since : (caller count : ℕ) → List StoredCall → StoredBook → ℕ
edits_since caller count [] b = count
edits_since caller count (call ∷ cs) b = edits_since caller (counted_after caller call b count) cs (after_call call b)

-- ---- what a return brings back

-- the tables saved under a name, where these were before a call: an accepted save under it saves those that it finds
unfoldable pub saved_by : (name : ℕ) → StoredCall → StoredBook → (before : Tables) → Tables
saved_by name (on_tables call) b before = before
saved_by name (save n m other) b before =
    elim (eqb other name && is_given (store.save n m b.tables b.store other).reply) [ true ↦ b.tables | false ↦ before ]
saved_by name (return_to n m caller other) b before = before

-- the tables that the last accepted save under a name found, where these were saved under it before these calls
unfoldable pub saved_last : (name : ℕ) → (before : Tables) → List StoredCall → StoredBook → Tables
saved_last name before [] b = before
saved_last name before (call ∷ cs) b = saved_last name (saved_by name call b before) cs (after_call call b)
