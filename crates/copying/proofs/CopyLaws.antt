-- How many places of two tables differ.
--     differing_end    none, where one of them has no places
-- Assumes nothing.
use Rattle.std.proofs.Common.{◌≡◌, ℕ, List, [], ◌∷◌, refl, ◌⊎◌, inl, inr}
use Rattle.tables.specs.Tables.{differing}

pub differing_end : (xs ys : List ℕ) → ((xs ≡ []) ⊎ (ys ≡ [])) → differing xs ys ≡ 0
unfolding differing
differing_end xs ys (inl e) = rw e refl
differing_end [] ys (inr e) = refl
differing_end (x ∷ xs) ys (inr e) = rw e refl
