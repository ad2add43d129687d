-- A list after a store.
--     set_at     what stands at j after a store at k
-- Assumes nothing.
use mathlib.Core.Path.{◌≡◌, ap, ◌∙◌}
use mathlib.Core.Logic.{◌≢◌, ◌⊎◌, inl, inr}
use mathlib.Core.List.{List}
use Prim.Native.Nat.{ℕ, ◌<◌}
use native.Mathlib.Decide.{ℕ_discrete}
use lib.ListN.{length, get_or, set}
use lib.Seq.{get_or-set_same, get_or-set_other}

abbrev pub SetAt : List ℕ → ℕ → ℕ → ℕ → Type 0
SetAt v k a j = ((j ≡ k) × (get_or (set v k a) j 0 ≡ a)) ⊎ ((j ≢ k) × (get_or (set v k a) j 0 ≡ get_or v j 0))

pub set_at : (v : List ℕ) (k a : ℕ) → k < length v → (j : ℕ) → SetAt v k a j
set_at v k a lt j = go (ℕ_discrete j k)
  where
    go : Dec (j ≡ k) → SetAt v k a j
    go (yes e) = inl (e, ap (λ (i : ℕ). get_or (set v k a) i 0) e ∙ get_or-set_same v k a 0 lt)
    go (no ne) = inr (ne, get_or-set_other v k j a 0 ne)
