-- The three laws of the lookup are this.
use Rattle.inheritance.proofs.LookupLaws.{lookup_none_iff, lookup_rule_iff, lookup_dispute_iff}
use Rattle.promises.proofs.lookup_means_left.Goals as goal

pub returns : goal.returns
returns c = λ n up own k l. record {
  none = lookup_none_iff n up own k l;
  rule = λ o. lookup_rule_iff n up own k o l;
  dispute = lookup_dispute_iff n up own k l;
}
