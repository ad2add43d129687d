-- `parting::left_pair` meets its contract. Assumes nothing.
use Rattle.std.proofs.Common.{◌≡◌, refl, arith}
use Rattle.tables.specs.declared.Refusal.{Refusal}
use Rattle.parting.proofs.PartingLaws.{gathered_left, pair_none, pair_one, pair_two, passed_pair}
use Rattle.parting.proofs.left_pair.Goals as goal

pub returns-in_err-one : goal.returns-in_err-one
returns-in_err-one c m rows rules a p hj =
    let why : c.in_err-one.field-0.0 ≡ Refusal.NoDispute = grind arith in
    passed_pair _ _ c.from_residual.ensures.1 why
    (pair_none _ _ _ (gathered_left c.args.prepared.now _ _ _ a p c.requires.0 c.requires.1 hj (rw (c.from.ensures, c.from-2.ensures) at c.gather_left-left.ensures)) (rw c.in_err-one.ensures.ok_part at c.first.ensures))

pub returns-in_err-other : goal.returns-in_err-other
returns-in_err-other c m rows rules a p hj =
    let why : c.in_err-other.field-0.0 ≡ Refusal.NoDispute = grind arith in
    let one = rw c.in_ok-one.ensures.ok_part at c.first.ensures in
    passed_pair _ _ c.from_residual-in_err-other.ensures.1 why
    (pair_one _ _ _ (gathered_left c.args.prepared.now _ _ _ a p c.requires.0 c.requires.1 hj (rw (c.from.ensures, c.from-2.ensures) at c.gather_left-left.ensures)) one.0 one.1 (rw c.in_err-other.ensures.ok_part at c.first-2.ensures) refl)

pub returns : goal.returns
returns c m rows rules a p hj =
    let one = rw c.in_ok-one.ensures.ok_part at c.first.ensures in
    let other = rw c.in_ok-other.ensures.ok_part at c.first-2.ensures in
    pair_two _ _ _ (gathered_left c.args.prepared.now _ _ _ a p c.requires.0 c.requires.1 hj (rw (c.from.ensures, c.from-2.ensures) at c.gather_left-left.ensures)) one.0 one.1 other.0 other.1
