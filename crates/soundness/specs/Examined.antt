-- What the tests of soundness leave and answer.
--     LinksExamined       r says whether every link byte is 0 or 1 and no kind is above itself; then the kinds are arranged. The rows have the links
--                         where every byte is 0 or 1
--     Examined            r says whether the tables are sound; then the rows have the links, and all is ready to settle
-- Assumes nothing.
use Rattle.std.specs.Prelude.{◌≡◌, Bool, true, List, ℕ, length}
use Rattle.arranging.specs.Arranged.{Arranged}
use Rattle.arranging.specs.declared.Order.{Order}
use Rattle.loading.specs.Loaded.{Loaded}
use Rattle.tables.specs.Tables.{lent, all_below, byte_right, links_right, sound}
use Rattle.ruling.specs.declared.Prepared.{Prepared}
use Rattle.ruling.specs.Ready.{Ready}

pub record LinksExamined (n : ℕ) (links : List ℕ) (order : Order) (r : Bool) : Type 0 where
  pub loaded : all_below (byte_right links) (length links) ≡ true → Loaded n links order.rows
  pub arranged : r ≡ true → Arranged n order.rows order.kinds order.reach
  pub answer : r ≡ links_right n links

pub record Examined (n m : ℕ) (links rules entries disputes : List ℕ) (p : Prepared) (r : Bool) : Type 0 where
  pub loaded : r ≡ true → Loaded n links p.order.rows
  pub prepared : r ≡ true → Ready n m rules p
  pub answer : (tally : List ℕ) → r ≡ sound n m (lent links rules entries tally disputes)
