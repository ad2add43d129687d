-- `reruling::apply_rule` meets its contract, by the laws on the rule stored. Assumes nothing.
use mathlib.Core.Path.{refl}
use native.Mathlib.Omega.{arith}
use Rattle.deciding.proofs.Preparing.{kind_place, place_found}
use Rattle.reruling.proofs.ReruleLaws.{rule_prepared, rule_applied}
use Rattle.reruling.proofs.apply_rule.Goals as goal

pub unwrap-at-requires : goal.unwrap-at-requires
unwrap-at-requires c =
    (place_found _ _ _ _ c.requires.ready_and_counted.0.arranged c.args.size.kinds _ c.requires.in_range.1 _ (rw (c.row.ensures, c.from.ensures) at c.min.ensures)).0

pub rerule-requires : goal.rerule-requires
rerule-requires c =
    let p = c.requires.in_range in
    let ready = c.requires.ready_and_counted.0 in
    let first = (place_found _ _ _ _ ready.arranged c.args.size.kinds _ p.1 _ (rw (c.row.ensures, c.from.ensures) at c.min.ensures)).1 _ c.unwrap-at.ensures in (
      omega (arith, p.2, c.args.size.marks),
      omega (arith, (kind_place _ _ _ _ ready.arranged c.args.size.kinds _ p.1 first).0, c.args.size.kinds),
    )

pub resettle_rule-count-requires-clause-ready : goal.resettle_rule-count-requires-clause-ready
resettle_rule-count-requires-clause-ready c =
    let p = c.requires.in_range in
    let ready = c.requires.ready_and_counted.0 in
    let first = (place_found _ _ _ _ ready.arranged c.args.size.kinds _ p.1 _ (rw (c.row.ensures, c.from.ensures) at c.min.ensures)).1 _ c.unwrap-at.ensures in
    rule_prepared _ _ c.requires.sized.0 _ _ c.args.handling p.1 p.2 _ c.place.ensures ready first c.rerule.ensures

pub returns : goal.returns
returns c =
    let s = c.requires.sized.0 in
    let p = c.requires.in_range in
    let ready = c.requires.ready_and_counted.0 in
    let first = (place_found _ _ _ _ ready.arranged c.args.size.kinds _ p.1 _ (rw (c.row.ensures, c.from.ensures) at c.min.ensures)).1 _ c.unwrap-at.ensures in
    record {
      applied = rule_applied _ _ s _ _ c.args.handling p.1 p.2 _ c.place.ensures c.resettle_rule-count.ensures.0 c.resettle_rule-count.ensures.1 c.count_edit.ensures;
      order = refl;
      ready = rule_prepared _ _ s _ _ c.args.handling p.1 p.2 _ c.place.ensures ready first c.rerule.ensures;
    }
