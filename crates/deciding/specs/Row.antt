-- A row of entries, those of one kind.
--     Row         a row of 64 entries; those of the marks from lo to below hi are as f says, the others do not count
--     Changed     the entry x of each mark i from lo to below hi has become g i x, and the others are as they were
-- Assumes nothing.
use Rattle.std.specs.Prelude.{◌≡◌, List, ℕ, ◌<◌, ◌≤◌, length, get_or}

pub record Row (lo hi : ℕ) (f : ℕ → ℕ) (out : List ℕ) : Type 0 where
  pub long : length out ≡ 64
  pub at : (j : ℕ) → lo ≤ j → j < hi → get_or out j 0 ≡ f j

pub record Changed (lo hi : ℕ) (g : ℕ → ℕ → ℕ) (old new : List ℕ) : Type 0 where
  pub long : length new ≡ 64
  pub at : (i : ℕ) → lo ≤ i → i < hi → get_or new i 0 ≡ g i (get_or old i 0)
  pub before : (i : ℕ) → i < lo → get_or new i 0 ≡ get_or old i 0
  pub after : (i : ℕ) → hi ≤ i → get_or new i 0 ≡ get_or old i 0
