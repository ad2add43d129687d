-- `inspecting::inspect` meets its contract: where the links have no fault the entries are compared with the lookups. Assumes nothing.
use mathlib.Core.Path.{◌≡◌, refl, sym, ◌∙◌, ap}
use mathlib.Core.Bool.{true}
use Rattle.tables.specs.Reply.{given}
use Rattle.books.specs.Lent.{tables_read}
use Rattle.tables.specs.Tables.{Tables, shaped}
use Rattle.settling.proofs.WholeLaws.{settle_ready}
use Rattle.soundness.proofs.Soundness.{examined_entries}
use Rattle.inspecting.proofs.InspectLaws.{part_length, places_fit, inspect_refused, inspect_links, inspect_entries}
use Rattle.inspecting.proofs.inspect.Goals as goal

pub returns-then-not-is_shaped : goal.returns-then-not-is_shaped
returns-then-not-is_shaped c =
    let a = c.args in
    let t : Tables = tables_read a.tables.now in
    inspect_refused _ _ t (sym c.is_shaped.ensures ∙ c.if-not-is_shaped.true)

pub invariant_of-size : goal.invariant_of-size
invariant_of-size c =
    let t : Tables = tables_read c.args.tables.now in
    let r = (settle_ready _ _ t (sym c.is_shaped.ensures ∙ c.if-not-is_shaped.false) t.entries refl refl).0 in
    record { kinds = r.kinds; marks = r.marks }

pub examine_links-linked-requires : goal.examine_links-linked-requires
examine_links-linked-requires c =
    let a = c.args in
    let t : Tables = tables_read a.tables.now in
    let is-shaped : shaped a.tables.now.n a.tables.now.m t ≡ true = sym c.is_shaped.ensures ∙ c.if-not-is_shaped.false in
    let r = settle_ready _ _ t is-shaped t.entries refl refl in
    record { links = (r.0.kinds, r.1); blank = (c.empty-prepared.ensures.rows, c.empty-prepared.ensures.reach) }

pub close-requires : goal.close-requires
close-requires c =
    let a = c.args in
    let t : Tables = tables_read a.tables.now in
    let is-shaped : shaped a.tables.now.n a.tables.now.m t ≡ true = sym c.is_shaped.ensures ∙ c.if-not-is_shaped.false in
    let r = settle_ready _ _ t is-shaped t.entries refl refl in
    r.0.kinds

pub link_fault-requires : goal.link_fault-requires
link_fault-requires c =
    let a = c.args in
    let t : Tables = tables_read a.tables.now in
    let is-shaped : shaped a.tables.now.n a.tables.now.m t ≡ true = sym c.is_shaped.ensures ∙ c.if-not-is_shaped.false in
    let fits = places_fit _ _ t is-shaped in
    let r = settle_ready _ _ t is-shaped t.entries refl refl in
    (r.0.kinds, fits.0)

pub returns-then-not-linked : goal.returns-then-not-linked
returns-then-not-linked c =
    let a = c.args in
    let t : Tables = tables_read a.tables.now in
    let is-shaped : shaped a.tables.now.n a.tables.now.m t ≡ true = sym c.is_shaped.ensures ∙ c.if-not-is_shaped.false in
    let x = c.examine_links-linked.ensures in
    ap given c.link_fault.ensures ∙ inspect_links _ _ t is-shaped x.loaded c.close.ensures (sym x.answer ∙ c.if-not-linked.true)

pub slice_bounds-scratch-end : goal.slice_bounds-scratch-end
slice_bounds-scratch-end c =
    let a = c.args in
    let t : Tables = tables_read a.tables.now in
    let is-shaped : shaped a.tables.now.n a.tables.now.m t ≡ true = sym c.is_shaped.ensures ∙ c.if-not-is_shaped.false in
    (places_fit _ _ t is-shaped).1

pub slice_bounds-lookups-end : goal.slice_bounds-lookups-end
slice_bounds-lookups-end c =
    let a = c.args in
    let t : Tables = tables_read a.tables.now in
    let is-shaped : shaped a.tables.now.n a.tables.now.m t ≡ true = sym c.is_shaped.ensures ∙ c.if-not-is_shaped.false in
    sym (part_length _ 8192 0 (places_fit _ _ t is-shaped).1)

pub slice_bounds-counted-end : goal.slice_bounds-counted-end
slice_bounds-counted-end c =
    let a = c.args in
    let t : Tables = tables_read a.tables.now in
    let is-shaped : shaped a.tables.now.n a.tables.now.m t ≡ true = sym c.is_shaped.ensures ∙ c.if-not-is_shaped.false in
    (places_fit _ _ t is-shaped).2

pub slice_bounds-counts-end : goal.slice_bounds-counts-end
slice_bounds-counts-end c =
    let a = c.args in
    let t : Tables = tables_read a.tables.now in
    let is-shaped : shaped a.tables.now.n a.tables.now.m t ≡ true = sym c.is_shaped.ensures ∙ c.if-not-is_shaped.false in
    sym (part_length _ 64 0 (places_fit _ _ t is-shaped).2)

pub settle_all-requires : goal.settle_all-requires
settle_all-requires c =
    let a = c.args in
    let t : Tables = tables_read a.tables.now in
    let is-shaped : shaped a.tables.now.n a.tables.now.m t ≡ true = sym c.is_shaped.ensures ∙ c.if-not-is_shaped.false in
    let fits = places_fit _ _ t is-shaped in
    let r = settle_ready _ _ t is-shaped _ (part_length _ 8192 0 fits.1) (part_length _ 64 0 fits.2) in
    record { sized = (r.0, r.2, r.3); arranged = c.examine_links-linked.ensures.arranged c.if-not-linked.false }

pub entry_fault-requires-clause-lookups_as_entries : goal.entry_fault-requires-clause-lookups_as_entries
entry_fault-requires-clause-lookups_as_entries c =
    let a = c.args in
    let t : Tables = tables_read a.tables.now in
    let is-shaped : shaped a.tables.now.n a.tables.now.m t ≡ true = sym c.is_shaped.ensures ∙ c.if-not-is_shaped.false in
    let fits = places_fit _ _ t is-shaped in
    (c.settle_all.auto.entries ∙ part_length _ 8192 0 fits.1, fits.1)

pub entry_fault-requires-clause-counts_as_disputes : goal.entry_fault-requires-clause-counts_as_disputes
entry_fault-requires-clause-counts_as_disputes c =
    let a = c.args in
    let t : Tables = tables_read a.tables.now in
    let is-shaped : shaped a.tables.now.n a.tables.now.m t ≡ true = sym c.is_shaped.ensures ∙ c.if-not-is_shaped.false in
    let fits = places_fit _ _ t is-shaped in
    (c.settle_all.auto.disputes ∙ part_length _ 64 0 fits.2, fits.2)

pub returns : goal.returns
returns c =
    let a = c.args in
    let t : Tables = tables_read a.tables.now in
    let is-shaped : shaped a.tables.now.n a.tables.now.m t ≡ true = sym c.is_shaped.ensures ∙ c.if-not-is_shaped.false in
    let r = settle_ready _ _ t is-shaped t.entries refl refl in
    let x = c.examine_links-linked.ensures in
    let linked = c.if-not-linked.false in
    let done = c.settle_all.ensures.settled in
    ap given c.entry_fault.ensures
    ∙ inspect_entries _ _ t is-shaped (sym x.answer ∙ linked) (done.looked ∙ examined_entries r.0.kinds r.1 x linked _ _) done.recounted
