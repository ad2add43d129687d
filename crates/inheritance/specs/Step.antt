-- One step of the lookup, as code takes it: from what holds of the direct parents. StepLaws has it that it is `lookup`.
--     narrowed     what the direct parents of c share, where os are the kinds left at c: only where they differ these decide
--     step         the lookup at c, where `at` gives the lookups of its direct parents, and `lefts` are the kinds left at c
-- Assumes nothing.
use Rattle.std.specs.Prelude.{Bool, true, false, List, ℕ}
use Rattle.inheritance.specs.declared.Lookup.{Lookup}
use Rattle.inheritance.specs.declared.Lookup.TheVariants.{Rule, Dispute}
use Rattle.inheritance.specs.Checked.{kind}
use Rattle.inheritance.specs.Lookup.{passing, same, meet, decided}

unfoldable pub narrowed : ℕ → (os : List ℕ) → Lookup → Lookup
narrowed c os v = elim (same v (Dispute (kind c))) [ true ↦ decided os v | false ↦ v ]

unfoldable pub step : ℕ → (up : ℕ → ℕ → Bool) → (own : ℕ → Bool) → (lefts : ℕ → Bool) → (ℕ → Lookup) → ℕ → Lookup
step n up own lefts at c = elim (own c) [ true ↦ Rule (kind c) | false ↦ narrowed c (passing lefts n) (meet c (up c) at n) ]
