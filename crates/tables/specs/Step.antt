-- One step of inheritance on the tables: an entry from the own rule, the kinds left and the parents' entries. It is what code can test and compute.
--     read       the lookups that the entries of one mark stand for
--     stepped    the entry of kind c for mark j, worked out from its own rule, the kinds left at c and its parents' entries
--     right      every entry is what is so worked out; `kind_right`: every entry of one kind
-- Assumes nothing.
use Rattle.std.specs.Prelude.{Bool, List, ℕ, ◌+◌, ◌*◌, eqb, get_or}
use Rattle.inheritance.specs.declared.Lookup.{Lookup}
use Rattle.inheritance.specs.Lookup.{left}
use Rattle.inheritance.specs.Step.{step}
use Rattle.inheritance.specs.Entry.{entry_of, lookup_of}
use Rattle.tables.specs.Tables.{own_of, all_below}

unfoldable pub read : ℕ → List ℕ → ℕ → ℕ → Lookup
read m entries j p = lookup_of (get_or entries (p * m + j) 0)

unfoldable pub stepped : (n m : ℕ) → (ℕ → ℕ → Bool) → (rules entries : List ℕ) → ℕ → ℕ → ℕ
stepped n m up rules entries c j = entry_of (step n up (own_of m rules j) (left n up (own_of m rules j) c) (read m entries j) c)

unfoldable pub kind_right : (n m : ℕ) → (ℕ → ℕ → Bool) → (rules entries : List ℕ) → ℕ → Bool
kind_right n m up rules entries c = all_below (λ j. eqb (get_or entries (c * m + j) 0) (stepped n m up rules entries c j)) m

unfoldable pub right : (n m : ℕ) → (ℕ → ℕ → Bool) → (rules entries : List ℕ) → Bool
right n m up rules entries = all_below (kind_right n m up rules entries) n
