-- The tables of copies of a store.
--     CopiesLong    they have their lengths
-- Assumes nothing.
use Rattle.std.specs.Prelude.{◌≡◌, List, ℕ, ◌*◌, length}
use Rattle.stores.specs.Name.{names}

pub record CopiesLong (n m : ℕ) (links rules entries disputes : List ℕ) : Type 0 where
  pub links_length : length links ≡ names * (n * n)
  pub rules_length : length rules ≡ names * (n * m)
  pub entries_length : length entries ≡ names * (n * m)
  pub disputes_length : length disputes ≡ names * m
