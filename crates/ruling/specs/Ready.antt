-- What is prepared before entries are worked out.
--     Ready    the kinds of a book stand in order along its links, which are in the rows, and the rule kinds of each mark are gathered
-- Assumes nothing.
use Rattle.std.specs.Prelude.{List, ℕ}
use Rattle.arranging.specs.Arranged.{Arranged}
use Rattle.ruling.specs.declared.Prepared.{Prepared}
use Rattle.ruling.specs.Ruling.{Ruled}

pub record Ready (n m : ℕ) (rules : List ℕ) (p : Prepared) : Type 0 where
  pub arranged : Arranged n p.order.rows p.order.kinds p.order.reach
  pub rule_kinds : Ruled n m rules p.order.kinds p.ruled
