-- `is_within` meets its contract, by `none_outside` and `all_within`. Assumes nothing.
use borrow.Author.Tests.{eq-eqb, eqb-true}
use lib.Bits.{xor_lt, or_lt}
use Rattle.relation.proofs.Subsets.{none_outside, all_within}
use Rattle.relation.proofs.is_within.Goals as goal

pub returns : goal.returns
returns c = (
  λ is. none_outside _ _ (eqb-true _ 0 is),
  λ within. eq-eqb _ 0 (all_within _ _ (xor_lt 64 _ _ (or_lt 64 _ _ c.ranges.w.fits c.ranges.other.fits) c.ranges.other.fits) within),
)
