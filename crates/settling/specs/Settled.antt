-- Working out entries after a change: kinds in their order backwards, those above a kind before it, each visited kind from the entries of its parents.
--     Settling            the kinds at the last t places are worked out; `count` entries differ so far from those at the start
--     Awaiting, Settled   what `settle` asks and ensures of the entries
--     AllSettled          every entry is its lookup, `count` of them differ from before, and the dispute counts are those of the entries
-- Assumes nothing.
use Rattle.std.specs.Prelude.{◌≡◌, ◌⊎◌, Bool, List, ℕ, ◌+◌, ◌*◌, ◌<◌, ◌≤◌, length, get_or}
use Rattle.relation.specs.declared.KindSet.{KindSet}
use Rattle.propagation.specs.Spread.{Visited}
use Rattle.tables.specs.Tables.{entry_at, entries_of, disputes_of, differing}

pub record Settling (n m lo hi : ℕ) (up : ℕ → ℕ → Bool) (rules : List ℕ) (visited : KindSet) (order : List ℕ) (t : ℕ) (start new : List ℕ) (count : ℕ) : Type 0 where
  pub size : length new ≡ length start
  pub done : (i j : ℕ) → i < n → lo ≤ j → j < hi → (Visited visited (get_or order i 0) → n ≤ i + t) → get_or new (get_or order i 0 * m + j) 0 ≡ entry_at n m up rules (get_or order i 0) j
  pub left : (i j : ℕ) → i < n → lo ≤ j → j < hi → i + t < n → get_or new (get_or order i 0 * m + j) 0 ≡ get_or start (get_or order i 0 * m + j) 0
  pub kept : (c j : ℕ) → c < n → j < m → (j < lo) ⊎ (hi ≤ j) → get_or new (c * m + j) 0 ≡ get_or start (c * m + j) 0
  pub counted : count ≡ differing start new

-- the entries of the kinds that are not visited are their lookups
abbrev pub Awaiting : (n m lo hi : ℕ) (up : ℕ → ℕ → Bool) (rules : List ℕ) (visited : KindSet) (entries : List ℕ) → Type 0
Awaiting n m lo hi up rules visited entries =
    (c j : ℕ) → c < n → lo ≤ j → j < hi → (Visited visited c → ⊥) → get_or entries (c * m + j) 0 ≡ entry_at n m up rules c j

pub record Settled (n m lo hi : ℕ) (up : ℕ → ℕ → Bool) (rules old new : List ℕ) (count : ℕ) : Type 0 where
  pub size : length new ≡ length old
  pub right : (c j : ℕ) → c < n → lo ≤ j → j < hi → get_or new (c * m + j) 0 ≡ entry_at n m up rules c j
  pub kept : (c j : ℕ) → c < n → j < m → (j < lo) ⊎ (hi ≤ j) → get_or new (c * m + j) 0 ≡ get_or old (c * m + j) 0
  pub counted : count ≡ differing old new

pub record AllSettled (n m : ℕ) (up : ℕ → ℕ → Bool) (rules old new disputes : List ℕ) (count : ℕ) : Type 0 where
  pub looked : new ≡ entries_of n m up rules
  pub counted : count ≡ differing old new
  pub recounted : disputes ≡ disputes_of n m new
