-- The equation holds of the lookup, and of nothing else.
use Rattle.inheritance.proofs.LookupLaws.{unfold_lookup, unique}
use Rattle.promises.proofs.lookup_is_unique.Goals as goal

pub returns : goal.returns
returns c = λ n up own acyclic. (unfold_lookup n up own acyclic, unique n up own acyclic)
