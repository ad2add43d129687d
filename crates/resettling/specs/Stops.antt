-- The stops of a walk along the links.
--     Stops    the kinds below k are stops where they have their own rule for the mark
-- Assumes nothing.
use Rattle.std.specs.Prelude.{◌≡◌, List, ℕ, ◌<◌}
use Rattle.relation.specs.declared.KindSet.{KindSet}
use Rattle.propagation.specs.Spread.{stop}
use Rattle.tables.specs.Tables.{own_of}

pub record Stops (k m : ℕ) (rules : List ℕ) (mark : ℕ) (stops : KindSet) : Type 0 where
  pub at : (c : ℕ) → c < k → stop stops c ≡ own_of m rules mark c
