-- `KindSet::is_subset` meets its contract: each word is within the other's. Assumes nothing.
use mathlib.Core.Bool.{and-eq-true_iff}
use Rattle.relation.proofs.Subsets.{words_within, low_within, high_within}
use Rattle.relation.proofs.KindSet.is_subset.Goals as goal

pub returns : goal.returns
returns c = (
  λ is.
      let (low, high) = (and-eq-true_iff c.is_within.result c.is_within-2.result).0 is in
      words_within c.args.self c.args.other (c.is_within.ensures.0 low) (c.is_within-2.ensures.0 high),
  λ within. (and-eq-true_iff c.is_within.result c.is_within-2.result).1 (c.is_within.ensures.1 (low_within c.args.self c.args.other within), c.is_within-2.ensures.1 (high_within c.args.self c.args.other within)),
)
