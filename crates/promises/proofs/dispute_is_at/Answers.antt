-- The two laws of where a dispute is are this.
use Rattle.inheritance.proofs.LookupLaws.{lookup_agreed, lookup_apart}
use Rattle.promises.proofs.dispute_is_at.Goals as goal

pub returns : goal.returns
returns c = λ n up own acyclic k l two. record {
  agreed = λ x. lookup_agreed n up own acyclic k x l two;
  differ = lookup_apart n up own acyclic k l two;
}
