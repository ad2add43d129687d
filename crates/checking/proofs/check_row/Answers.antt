-- `checking::check_row` meets its contract: what is checked is what the one parent, the two, or all of them give. Assumes nothing.
use Rattle.std.proofs.Common.{refl, ◌∙◌, arith}
use Rattle.relation.proofs.Taking.{rest_row, rest_some, rest_none, rest_more}
use Rattle.merging.proofs.MergeLaws.{merge_same}
use Rattle.merging.proofs.Giving.{given_one, given_two}
use Rattle.checking.proofs.CheckLaws.{checked_as, checked_twice, none_taken}
use Rattle.checking.proofs.check_row.Goals as goal

pub returns-in_default-take_first : goal.returns-in_default-take_first
returns-in_default-take_first c =
    let most = c.requires.0.kinds in
    let (t, lt, gone) = c.in-Some.ensures in
    let all = rest_row _ _ c.row-rest.ensures in
    let one = rest_some most all t lt in
    let none = rest_none most (rest_more most all one gone) (omega arith) c.in_default-take_first.ensures in
    (checked_as _ _ _ _ _ _ (λ j h. merge_same _ _ _ refl ∙ given_one _ _ _ _ one lt none j) c.check.ensures.0, c.check.ensures.1)

pub returns-then-is_none : goal.returns-then-is_none
returns-then-is_none c =
    let most = c.requires.0.kinds in
    let (t, lt, gone) = c.in-Some.ensures in
    let (t', lt', gone') = c.in-Some-take_first.ensures in
    let all = rest_row _ _ c.row-rest.ensures in
    let one = rest_some most all t lt in
    let others = rest_more most all one gone in
    let two = rest_some most others t' lt' in
    let last = none_taken _ c.take_first-in-Some-2.new.self c.take_first-in-Some-2.result c.is_none.ensures c.if-is_none.true c.take_first-in-Some-2.ensures in
    let none = rest_none most (rest_more most others two gone') (omega arith) last in
    (checked_as _ _ _ _ _ _ (λ j h. given_two _ _ _ _ one lt two lt' none j) c.check-then-is_none.ensures.0, c.check-then-is_none.ensures.1)

pub returns : goal.returns
returns c = (checked_twice _ _ _ _ _ _ c.merge_parents.ensures c.check-2.ensures.0, c.check-2.ensures.1)
