-- A row of entries, those of one kind, as code works it out: what the parents give, one after another, and then the own rules.
--     merged          one more parent's entry, folded into what the parents so far give kind c
--     given           what the parents of kind c give it
--     narrowing       what they give, where the kinds left decide if they differ
--     agreed          no entry of a row says that the parents differ
--     ruled           the entry of kind c, where its own rule wins over what its parents give
-- Assumes nothing.
use Rattle.std.specs.Prelude.{Bool, true, false, ◌||◌, not, List, ℕ, ◌+◌, eqb, ltb}
use Rattle.inheritance.specs.Lookup.{join, meet, passing}
use Rattle.inheritance.specs.Step.{narrowed}
use Rattle.inheritance.specs.Entry.{entry_of, lookup_of}
use Rattle.tables.specs.Step.{read}
use Rattle.tables.specs.Tables.{all_below}

unfoldable pub merged : ℕ → ℕ → ℕ → ℕ
merged c a b = entry_of (join c (lookup_of a) (lookup_of b))

-- .. its parents below k, for mark j
unfoldable pub given : ℕ → (ℕ → ℕ → Bool) → List ℕ → ℕ → ℕ → ℕ → ℕ
given m up entries c k j = entry_of (meet c (up c) (read m entries j) k)

-- .. where they give e, and `lefts` are the kinds left at c
unfoldable pub narrowing : (n : ℕ) → (lefts : ℕ → Bool) → ℕ → ℕ → ℕ
narrowing n lefts c e = entry_of (narrowed c (passing lefts n) (lookup_of e))

-- of the entries from lo to below hi none says that the parents of c differ
unfoldable pub agreed : ℕ → (lo hi : ℕ) → (ℕ → ℕ) → Bool
agreed c lo hi f = all_below (λ j. ltb j lo || not (eqb (f j) (257 + c))) hi

unfoldable pub ruled : ℕ → ℕ → ℕ → ℕ
ruled c rule e = elim (eqb rule 0) [ true ↦ e | false ↦ c + 1 ]
