-- Dispute counts as code keeps them.
--     counted_in    the count of a mark with one entry more; counted_anew: after one of its entries changed
--     Counting      the entries of kind c are counted in for the marks below j, and for the others those of the kinds before it
--     Counted       the counts are those of the entries, of at most 128 kinds
-- Assumes nothing.
use Rattle.std.specs.Prelude.{◌≡◌, List, ℕ, ◌+◌, ◌-◌, ◌*◌, ◌<◌, ◌≤◌, length, get_or}
use Rattle.inheritance.specs.Above.{one_if}
use Rattle.tables.specs.Tables.{is_dispute, disputes_at, disputes_of}

abbrev pub counted_in : (count entry : ℕ) → ℕ
counted_in count entry = count + one_if (is_dispute entry)

abbrev pub counted_anew : (count was is : ℕ) → ℕ
counted_anew count was is = count + one_if (is_dispute is) - one_if (is_dispute was)

pub record Counting (c j m : ℕ) (entries counts : List ℕ) : Type 0 where
  pub size : length counts ≡ m
  pub done : (i : ℕ) → i < j → get_or counts i 0 ≡ disputes_at (c + 1) m entries i
  pub left : (i : ℕ) → j ≤ i → i < m → get_or counts i 0 ≡ disputes_at c m entries i

-- how many kinds there are follows from the length of the entries
pub record Counted (m : ℕ) (entries counts : List ℕ) : Type 0 where
  pub kinds : ℕ
  pub few : kinds ≤ 128
  pub size : length entries ≡ kinds * m
  pub counts_right : counts ≡ disputes_of kinds m entries
