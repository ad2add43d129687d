-- What an edit can touch (docs/SCOPE.md), on the tables before the edit or after it. An entry at (k, j) may differ only where the edit touches it.
-- These are limits of the four edits, by themselves and in a list. A return to a saved state is not held to them: it may alter any entry.
--     RuleTouches    the edit is of the rule of kind c for a mark
--     LinkTouches    the edit is of the link from child c to parent p
-- Assumes nothing.
use Rattle.std.specs.Prelude.{◌≡◌, ◌≢◌, false, ℕ, ◌+◌, ◌*◌, get_or}
use Rattle.inheritance.specs.Above.{Upto}
use Rattle.inheritance.specs.Lookup.{Below}
use Rattle.tables.specs.Tables.{Tables, up_of, own_of}

-- k is c, or is reached from c by going down links with no own rule for j at any kind after c; and j is the edited mark
pub record RuleTouches (n m : ℕ) (c mark : ℕ) (t : Tables) (k j : ℕ) : Type 0 where
  pub below : Below n (up_of n t.links) (own_of m t.rules j) c k
  pub the_mark : j ≡ mark

-- k is c or below it, past own rules too; k has no own rule for j, and the parent's entry for it is not 0
pub record LinkTouches (n m : ℕ) (c p : ℕ) (t : Tables) (k j : ℕ) : Type 0 where
  pub below : Upto n (up_of n t.links) k c
  pub no_own_rule : own_of m t.rules j k ≡ false
  pub parent_entry : get_or t.entries (p * m + j) 0 ≢ 0
