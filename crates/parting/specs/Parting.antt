-- The kinds left at a kind, gathered place after place.
--     Orderly       the places below n have different kinds below n
--     hidden        the kind at place i is above the kind at an earlier common place, if i is one too
--     LeftKinds     the places below i are gone through: a set has the kinds left
--     LeftGathered  .. and another the places that the kinds at common places reach
--     pair_of       the first two kinds of a list, as parties answers them
-- Assumes nothing.
use Rattle.std.specs.Prelude.{◌≡◌, Result, Bool, ◌&&◌, not, List, [], ◌∷◌, ℕ, ◌<◌, ltb, get_or}
use Rattle.inheritance.specs.declared.Kind.{Kind}
use Rattle.inheritance.specs.Checked.{kind}
use Rattle.inheritance.specs.Lookup.{some_below}
use Rattle.relation.specs.declared.KindSet.{KindSet}
use Rattle.relation.specs.declared.Relation.{Relation}
use Rattle.relation.specs.Bit.{bit, holds}
use Rattle.tables.specs.declared.Refusal.{Refusal}
use Rattle.deciding.specs.Deciding.{common}

pub record Orderly (n : ℕ) (order : List ℕ) : Type 0 where
  pub kinds : (i : ℕ) → i < n → get_or order i 0 < n
  pub once : (i k : ℕ) → i < n → k < n → get_or order i 0 ≡ get_or order k 0 → i ≡ k

-- .. of the places below k
unfoldable pub hidden : (order : List ℕ) → (reach ruled : Relation) → (c j k i : ℕ) → Bool
hidden order reach ruled c j k i = some_below (λ p. common reach ruled c j p && bit reach (get_or order p 0) i) k

-- the places below i are gone through: the set has the kinds left at them
abbrev pub LeftKinds : (n : ℕ) → (order : List ℕ) → (reach ruled : Relation) → (c j i : ℕ) → KindSet → Type 0
LeftKinds n order reach ruled c j i set =
    (k : ℕ) → k < n → holds set (get_or order k 0) ≡ (ltb k i && (common reach ruled c j k && not (hidden order reach ruled c j k k)))

pub record LeftGathered (n : ℕ) (order : List ℕ) (reach ruled : Relation) (c j i : ℕ) (set above : KindSet) : Type 0 where
  pub kinds : LeftKinds n order reach ruled c j i set
  pub places : (q : ℕ) → q < 128 → holds above q ≡ hidden order reach ruled c j i q

-- where there are fewer than two, there is no dispute
abbrev pub pair_of : List ℕ → Result (Kind × Kind) Refusal
pair_of [] = Result.Err Refusal.NoDispute
pair_of (a ∷ []) = Result.Err Refusal.NoDispute
pair_of (a ∷ b ∷ os) = Result.Ok (kind a, kind b)
