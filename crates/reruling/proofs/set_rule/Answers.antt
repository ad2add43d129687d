-- `reruling::set_rule` meets its contract, by the laws on the edit. Assumes nothing.
use mathlib.Core.Path.{refl}
use Rattle.tables.specs.Tables.{Tables, lent}
use Rattle.resettling.proofs.KnownLaws.{fits_sized, fits_tally, counts}
use Rattle.reruling.proofs.ReruleLaws.{rule_within, rule_untouched, rule_absent, rule_done}
use Rattle.reruling.proofs.set_rule.Goals as goal

pub bounds-rules-place : goal.bounds-rules-place
bounds-rules-place c =
    let a = c.args in
    let t : Tables = lent a.links.now a.rules.now a.entries.now a.tally.now a.disputes.now in
    let k = c.requires.known in
    let p = c.requires.in_range in
    rule_within _ _ (fits_sized _ _ t k.fits).0 _ _ a.handling p.1 p.2 _ c.place.ensures

pub returns-then-handling-rules : goal.returns-then-handling-rules
returns-then-handling-rules c =
    let a = c.args in
    let t : Tables = lent a.links.now a.rules.now a.entries.now a.tally.now a.disputes.now in
    let k = c.requires.known in
    let p = c.requires.in_range in
    record { outcome = rule_absent _ _ t _ _ a.handling k p.2 _ c.place.ensures a.caller.0 c.if-handling-rules.true; order = refl; tracked = k.tracked }

pub apply_rule-count-requires : goal.apply_rule-count-requires
apply_rule-count-requires c =
    let a = c.args in
    let t : Tables = lent a.links.now a.rules.now a.entries.now a.tally.now a.disputes.now in
    let k = c.requires.known in
    let p = c.requires.in_range in
    record {
      sized = ((fits_sized _ _ t k.fits).0, fits_tally _ _ t k.fits);
      in_range = p;
      ready_and_counted = (k.tracked.prepared, counts k);
      rule_untouched = rule_untouched _ _ t _ _ a.handling k p.2;
    }

pub returns : goal.returns
returns c =
    let a = c.args in
    let t : Tables = lent a.links.now a.rules.now a.entries.now a.tally.now a.disputes.now in
    let k = c.requires.known in
    let p = c.requires.in_range in
    let done = c.apply_rule-count.ensures in
    record {
      outcome = rule_done _ _ t _ _ a.handling k p.2 _ c.place.ensures a.caller.0 c.if-handling-rules.false done.applied;
      order = done.order;
      tracked = record { loaded = rw done.order k.tracked.loaded; prepared = done.ready };
    }
