-- What the test of a row of entries leaves and answers.
--     plain               the entries of kind c for the marks below k are those that its own rules and f give, and none says that the parents differ
--     Checked             the row of kind c is worked out so, and r says whether its entries are plain
-- Assumes nothing.
use Rattle.std.specs.Prelude.{◌≡◌, Bool, ◌&&◌, not, List, ℕ, ◌+◌, ◌*◌, eqb, get_or}
use Rattle.tables.specs.Tables.{all_below}
use Rattle.deciding.specs.Row.{Row}
use Rattle.merging.specs.Merged.{ruled}

unfoldable pub plain : (m c : ℕ) → (rules entries : List ℕ) → (ℕ → ℕ) → ℕ → Bool
plain m c rules entries f k =
    all_below (λ j. eqb (ruled c (get_or rules (c * m + j) 0) (f j)) (get_or entries (c * m + j) 0) && not (eqb (ruled c (get_or rules (c * m + j) 0) (f j)) (257 + c))) k

pub record Checked (m c : ℕ) (rules entries : List ℕ) (f : ℕ → ℕ) (out : List ℕ) (r : Bool) : Type 0 where
  pub row : Row 0 m (λ j. ruled c (get_or rules (c * m + j) 0) (f j)) out
  pub answer : r ≡ plain m c rules entries f m
