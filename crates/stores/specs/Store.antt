-- The store of a book, and what save and return answer and leave, check by check as docs/SCOPE.md has them.
--     Store                a flag for each name, and the copies of links, rules, entries and dispute counts; lent_store: the store that a call is lent
--     stored               the tables of the store have exactly their lengths: else refusal 1
--     copy_at, with_copy   the copy under a name in a table of copies, and the table with another copy there
--     state_at, saving     the tables saved under a name, and the store where a book's tables are
--     save, return_to      the two calls
-- Assumes nothing.
use Rattle.std.specs.Prelude.{Bool, ◌&&◌, not, List, ◌++◌, ℕ, ◌+◌, ◌*◌, eqb, ltb, length, get_or, take, drop, set}
use Rattle.tables.specs.Caller.{callers}
use Rattle.tables.specs.Reply.{given}
use Rattle.tables.specs.Tables.{Tables, lent, shaped, sound, differing, tallied}
use Rattle.tables.specs.Calls.{OutcomeOn, Outcome, leaves, check}
use Rattle.stores.specs.Name.{names}

-- place name of the flags holds 0 where nothing was ever saved under the name; in the other tables the copies stand in order of name
pub record Store : Type 0 where
  pub flags : List ℕ
  pub links : List ℕ
  pub rules : List ℕ
  pub entries : List ℕ
  pub disputes : List ℕ

-- the store as a call is lent it
abbrev pub lent_store : (flags links rules entries disputes : List ℕ) → Store
lent_store flags links rules entries disputes = record { flags = flags; links = links; rules = rules; entries = entries; disputes = disputes }

-- a flag for each name, and each other table as long as that many tables of a book of n kinds and m marks
unfoldable pub stored : (n m : ℕ) → Store → Bool
stored n m s =
    eqb (length s.flags) names
    && eqb (length s.links) (names * (n * n))
    && eqb (length s.rules) (names * (n * m))
    && eqb (length s.entries) (names * (n * m))
    && eqb (length s.disputes) (names * m)

-- the copy under a name, of copies of so many elements each
abbrev pub copy_at : (size name : ℕ) → List ℕ → List ℕ
copy_at size name copies = take size (drop (name * size) copies)

-- the copies with another one under that name
abbrev pub with_copy : (size name : ℕ) → (copy copies : List ℕ) → List ℕ
with_copy size name copy copies = take (name * size) copies ++ copy ++ drop (name * size + size) copies

-- the state with a name: the tables saved under it, beside a tally, which no state has
unfoldable pub state_at : (n m : ℕ) → Store → (name : ℕ) → (tally : List ℕ) → Tables
state_at n m s name tally =
    lent
    (copy_at (n * n) name s.links) (copy_at (n * m) name s.rules) (copy_at (n * m) name s.entries)
    tally (copy_at m name s.disputes)

-- the store with a book's tables saved under a name
unfoldable pub saving : (n m : ℕ) → Tables → Store → (name : ℕ) → Store
saving n m t s name =
    lent_store
    (set s.flags name 1)
    (with_copy (n * n) name t.links s.links) (with_copy (n * m) name t.rules s.rules) (with_copy (n * m) name t.entries s.entries)
    (with_copy m name t.disputes s.disputes)

-- the book is copied, sound or not, and its flag is set to 1
unfoldable pub save : (n m : ℕ) → Tables → Store → (name : ℕ) → OutcomeOn Store (Unit {0})
save n m t s name =
    check 1 (shaped n m t && stored n m s) s
    (check 14 (ltb name names) s
    (leaves (given tt) (saving n m t s name)))

-- links, rules, entries and dispute counts are those saved, the tally counts one more of the caller; the count is of the places whose entry differs
-- from before. The copies have to be sound, and the book that they replace need not be
unfoldable pub return_to : (n m : ℕ) → Tables → Store → (caller name : ℕ) → Outcome ℕ
return_to n m t s caller name =
    let state = state_at n m s name (tallied caller t.tally) in
    check 1 (shaped n m t && stored n m s) t
    (check 13 (ltb caller callers) t
    (check 14 (ltb name names) t
    (check 15 (not (eqb (get_or s.flags name 0) 0)) t
    (check 5 (sound n m state) t
    (leaves (given (differing t.entries state.entries)) state)))))
