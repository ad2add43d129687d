-- What `turn` leaves: the rows turned round.
--     Turned     kind c is in row p of `turned` just where it is below n and kind p is in row c of `r`
-- Assumes nothing.
use Rattle.std.specs.Prelude.{◌≡◌, ◌&&◌, ℕ, ◌<◌, ltb}
use Rattle.relation.specs.declared.Relation.{Relation}
use Rattle.relation.specs.Bit.{bit}

pub record Turned (n : ℕ) (r turned : Relation) : Type 0 where
  pub bits : (p c : ℕ) → p < 128 → c < 128 → bit turned p c ≡ (ltb c n && bit r c p)
