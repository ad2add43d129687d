-- Entries written after a change.
--     Written     the entries of kind c for the marks from lo to below hi became as f says, and nothing else changed
-- Assumes nothing.
use Rattle.std.specs.Prelude.{◌≡◌, ◌≢◌, List, ℕ, ◌+◌, ◌*◌, ◌<◌, ◌≤◌, length, get_or}
use Rattle.tables.specs.Tables.{differing}

pub record Written (m lo hi c : ℕ) (f : ℕ → ℕ) (old new : List ℕ) (count : ℕ) : Type 0 where
  pub size : length new ≡ length old
  pub at : (j : ℕ) → lo ≤ j → j < hi → get_or new (c * m + j) 0 ≡ f j
  pub kept : (i : ℕ) → ((j : ℕ) → lo ≤ j → j < hi → i ≢ c * m + j) → get_or new i 0 ≡ get_or old i 0
  pub counted : (start : List ℕ) → length start ≡ length old
      → ((j : ℕ) → lo ≤ j → j < hi → get_or start (c * m + j) 0 ≡ get_or old (c * m + j) 0)
      → differing start new ≡ differing start old + count
