-- What an edit changes in the rows, and what is known of the entries after it.
--     Untouched    what is known of the entries after a change at kind e: once the kinds that it can touch are visited, the others
--                  have their lookups
--     Reset        one bit of the rows is put in or taken out
-- Assumes nothing.
use Rattle.std.specs.Prelude.{◌≡◌, Bool, true, false, ◌&&◌, List, ℕ, ◌<◌, eqb}
use Rattle.inheritance.specs.Lookup.{Below}
use Rattle.relation.specs.declared.KindSet.{KindSet}
use Rattle.relation.specs.declared.Relation.{Relation}
use Rattle.relation.specs.Bit.{bit}
use Rattle.propagation.specs.Spread.{Visited}
use Rattle.settling.specs.Settled.{Awaiting}

unfoldable pub Untouched : (n m lo hi : ℕ) (up : ℕ → ℕ → Bool) (own : ℕ → Bool) (e : ℕ) (rules entries : List ℕ) → Type 0
Untouched n m lo hi up own e rules entries =
    (visited : KindSet) → ((k : ℕ) → k < n → Below n up own e k → Visited visited k) → Awaiting n m lo hi up rules visited entries

-- the bits of one row, with kind p put in or taken out
abbrev pub changed : (adding here before : Bool) → Bool
changed adding true before = adding
changed adding false before = before

pub record Reset (c p : ℕ) (value : Bool) (old new : Relation) : Type 0 where
  pub bits : (d q : ℕ) → q < 128 → bit new d q ≡ changed value (eqb d c && eqb q p) (bit old d q)
