-- `renewing::refreshing::refresh_tables` meets its contract: where the links have no fault every entry is settled. Assumes nothing.
use mathlib.Core.Path.{◌≡◌, refl, sym, ◌∙◌}
use mathlib.Core.Bool.{true}
use Rattle.tables.specs.Tables.{Tables, lent, shaped}
use Rattle.settling.proofs.WholeLaws.{settle_ready}
use Rattle.renewing.proofs.RefreshLaws.{refresh_done, refresh_refused, refresh_unsound}
use Rattle.renewing.proofs.refreshing.refresh_tables.Goals as goal

pub returns-then-not-is_shaped : goal.returns-then-not-is_shaped
returns-then-not-is_shaped c =
    let a = c.args in
    let t : Tables = lent a.links.now a.rules.now a.entries.now a.tally.now a.disputes.now in
    refresh_refused _ _ t (sym c.is_shaped.ensures ∙ c.if-not-is_shaped.true)

pub invariant_of-size : goal.invariant_of-size
invariant_of-size c =
    let a = c.args in
    let t : Tables = lent a.links.now a.rules.now a.entries.now a.tally.now a.disputes.now in
    let r = (settle_ready _ _ t (sym c.is_shaped.ensures ∙ c.if-not-is_shaped.false) t.entries refl refl).0 in
    record { kinds = r.kinds; marks = r.marks }

pub examine_links-linked-requires : goal.examine_links-linked-requires
examine_links-linked-requires c =
    let a = c.args in
    let t : Tables = lent a.links.now a.rules.now a.entries.now a.tally.now a.disputes.now in
    let is-shaped : shaped a.n a.m t ≡ true = sym c.is_shaped.ensures ∙ c.if-not-is_shaped.false in
    let r = settle_ready _ _ t is-shaped t.entries refl refl in
    record { links = (r.0.kinds, r.1); blank = (c.empty-prepared.ensures.rows, c.empty-prepared.ensures.reach) }

pub returns-then-not-linked : goal.returns-then-not-linked
returns-then-not-linked c =
    let a = c.args in
    let t : Tables = lent a.links.now a.rules.now a.entries.now a.tally.now a.disputes.now in
    let is-shaped : shaped a.n a.m t ≡ true = sym c.is_shaped.ensures ∙ c.if-not-is_shaped.false in
    refresh_unsound _ _ t is-shaped (sym c.examine_links-linked.ensures.answer ∙ c.if-not-linked.true)

pub settle_all-count-requires : goal.settle_all-count-requires
settle_all-count-requires c =
    let a = c.args in
    let t : Tables = lent a.links.now a.rules.now a.entries.now a.tally.now a.disputes.now in
    let is-shaped : shaped a.n a.m t ≡ true = sym c.is_shaped.ensures ∙ c.if-not-is_shaped.false in
    let r = settle_ready _ _ t is-shaped _ refl refl in
    record { sized = (r.0, r.2, r.3); arranged = c.examine_links-linked.ensures.arranged c.if-not-linked.false }

pub returns : goal.returns
returns c =
    let a = c.args in
    let t : Tables = lent a.links.now a.rules.now a.entries.now a.tally.now a.disputes.now in
    let is-shaped : shaped a.n a.m t ≡ true = sym c.is_shaped.ensures ∙ c.if-not-is_shaped.false in
    refresh_done _ _ t is-shaped c.examine_links-linked.ensures c.if-not-linked.false c.settle_all-count.ensures.settled
