-- The first fault as the code finds it, the links, the entries and the dispute counts apart.
--     LowestFound    what a search for the lowest number that fails a test answers
--     link_fault     of the links, where the closed rows have who is above whom; sound where they have none
--     entry_fault    of entries whose links have none, against their lookups, or else of the dispute counts, against those of the lookups; sound where
--                    they have none either
-- Assumes nothing.
use Rattle.std.specs.Prelude.{◌≡◌, Bool, true, false, not, List, ℕ, ◌<◌, eqb, length, get_or, MatchOption, Option}
use Rattle.relation.specs.declared.Relation.{Relation}
use Rattle.relation.specs.Bit.{bit}
use Rattle.tables.specs.Calls.{lowest, first_fault}
use Rattle.tables.specs.Reply.{Fault}
use Rattle.tables.specs.Tables.{all_below, byte_right}

-- what a search answers: the lowest number below k that fails a test, or none where all pass
abbrev pub LowestFound : (ℕ → Bool) → ℕ → Option ℕ → Type 0
LowestFound f k found = MatchOption found (all_below f k ≡ true) (λ i. (i < k) × (all_below f k ≡ false) × (lowest f k ≡ i))

-- a kind is not in its own row
abbrev pub off_own_row : Relation → ℕ → Bool
off_own_row rows c = not (bit rows c c)

abbrev pub link_fault : ℕ → (links : List ℕ) → (closed : Relation) → Fault
link_fault n links closed =
    first_fault (all_below (byte_right links) (length links)) (all_below (off_own_row closed) n) true true
    (lowest (byte_right links) (length links)) (lowest (off_own_row closed) n) 0 0

-- two tables hold the same number at a place
abbrev pub same_at : (xs ys : List ℕ) → ℕ → Bool
same_at xs ys i = eqb (get_or xs i 0) (get_or ys i 0)

abbrev pub entry_fault : (entries lookups disputes counts : List ℕ) → Fault
entry_fault entries lookups disputes counts =
    first_fault true true (all_below (same_at entries lookups) (length entries)) (all_below (same_at disputes counts) (length disputes))
    0 0 (lowest (same_at entries lookups) (length entries)) (lowest (same_at disputes counts) (length disputes))
