-- What is taken out of a set.
--     Taken     the first kind of the set, if it is below `end`: it is gone from the set; or none is below `end`
-- Assumes nothing.
use Rattle.std.specs.Prelude.{ℕ, ◌<◌, eqb, MatchOption, Option}
use Rattle.relation.specs.declared.KindSet.{KindSet}
use Rattle.relation.specs.Bit.{holds, Loses}
use Rattle.relation.specs.First.{First}

abbrev pub Taken : ℕ → KindSet → KindSet → Option ℕ → Type 0
Taken end old new answer =
    MatchOption answer (First (holds old) 0 end end) (λ p. First (holds old) 0 end p × (p < end) × Loses old new (λ q. eqb q p))
