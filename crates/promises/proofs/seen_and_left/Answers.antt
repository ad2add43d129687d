-- The laws are `seen_test` and `left_test`.
use Rattle.inheritance.proofs.LeftLaws.{seen_test, left_test}
use Rattle.promises.proofs.seen_and_left.Goals as goal

pub returns : goal.returns
returns c = λ n up own k o o-in. (seen_test n up own k o o-in, λ k-in. left_test n up own k o k-in o-in)
