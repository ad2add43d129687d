-- What docs/SCOPE.md says of an accepted save, of an accepted return, and of the calls after a return.
--     with_tally       the tables with another tally
--     StateIs          the state with a name is these tables, but for their tally
--     SaveMade         a save led from store s to store s'
--     ReturnMade       a return led from tables t to tables t' and returned a count
--     SameButTally     two books' tables that are the same but for what the tallies hold; SameBooks: two books with such tables and the same store
-- Assumes nothing.
use Rattle.std.specs.Prelude.{◌≡◌, true, List, ◌≢◌, ℕ, ◌*◌, length, get_or}
use Rattle.inheritance.specs.Above.{count}
use Rattle.tables.specs.Tables.{Tables, lent, sound, saturated}
use Rattle.tables.specs.Edit.{OnePlace, apart}
use Rattle.stores.specs.Store.{Store, state_at}
use Rattle.stores.specs.StoredBooks.{StoredBook}

abbrev pub with_tally : Tables → (tally : List ℕ) → Tables
with_tally t tally = lent t.links t.rules t.entries tally t.disputes

abbrev pub StateIs : (n m : ℕ) → Store → (name : ℕ) → Tables → Type 0
StateIs n m s name t = (tally : List ℕ) → state_at n m s name tally ≡ with_tally t tally

pub record SaveMade (n m name : ℕ) (t : Tables) (s s' : Store) : Type 0 where
  -- the book's tables, whatever they hold, are the state with that name
  pub state_saved : StateIs n m s' name t
  pub flag_set : OnePlace s.flags s'.flags name 1
  -- the states with the other names stay
  pub others_kept : (other : ℕ) → other ≢ name → (tally : List ℕ) → state_at n m s' other tally ≡ state_at n m s other tally

pub record ReturnMade (n m caller name : ℕ) (s : Store) (t t' : Tables) (returned : ℕ) : Type 0 where
  pub brought_back : t' ≡ state_at n m s name t'.tally
  pub sound_after : sound n m t' ≡ true
  -- only the caller's number moves, by one, and stays at 4,294,967,295
  pub tally_changed : OnePlace t.tally t'.tally caller (saturated (get_or t.tally caller 0))
  -- the number of places kind × m + mark whose entry after it is not the entry before; any entry may differ
  pub counted : returned ≡ count (apart t.entries t'.entries) (n * m)

-- links, rules, entries and dispute counts are the same
pub record SameButTally (t u : Tables) : Type 0 where
  pub same : u ≡ with_tally t u.tally
  pub tally_length : length t.tally ≡ length u.tally

pub record SameBooks (a b : StoredBook) : Type 0 where
  pub tables_same : SameButTally a.tables b.tables
  pub store_same : a.store ≡ b.store
