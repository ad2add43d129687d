-- `relinking::apply_link` meets its contract, by the steps of `RelinkLaws`. Assumes nothing.
use mathlib.Core.Path.{ap}
use Prim.Native.Nat.{ℕ}
use native.Mathlib.Omega.{arith}
use lib.Arith.{digits_lt}
use lib.ListN.{set}
use Rattle.inheritance.specs.Above.{one_if}
use Rattle.tables.specs.Tables.{Tables, lent}
use Rattle.resettling.proofs.KnownLaws.{has, counts, fits_sized, fits_tally}
use Rattle.relinking.proofs.RelinkLaws.{link_loaded, link_prepared, link_untouched, link_done}
use Rattle.relinking.proofs.apply_link.Goals as goal

pub bounds-links-link_place : goal.bounds-links-link_place
bounds-links-link_place c =
    let p = c.requires.in_range in
    omega (arith, c.link_place.ensures, (has c.requires.known).lengths.links_length, digits_lt p.1 p.2)

pub relink-requires : goal.relink-requires
relink-requires c =
    let p = c.requires.in_range in
    ((has c.requires.known).sizes.rules_size, p.1, p.2)

pub resettle_link-count-requires : goal.resettle_link-count-requires
resettle_link-count-requires c =
    let a = c.args in
    let t : Tables = lent a.links.now a.rules.now a.entries.now a.tally.now a.disputes.now in
    let k = c.requires.known in
    let p = c.requires.in_range in
    record {
      sized_and_counted = ((fits_sized _ _ t k.fits).0, p.1, counts k);
      ready = link_prepared _ _ t _ _ a.adding k p.1 p.2 c.requires.acyclic_after c.relink.ensures;
      untouched = link_untouched _ _ t _ _ a.adding k p.1 p.2 c.requires.acyclic_after c.relink.ensures;
    }

pub count_edit-requires : goal.count_edit-requires
count_edit-requires c =
    let a = c.args in
    let t : Tables = lent a.links.now a.rules.now a.entries.now a.tally.now a.disputes.now in
    let k = c.requires.known in
    let p = c.requires.in_range in
    omega (arith, fits_tally _ _ t k.fits, p.0)

pub returns : goal.returns
returns c =
    let a = c.args in
    let t : Tables = lent a.links.now a.rules.now a.entries.now a.tally.now a.disputes.now in
    let k = c.requires.known in
    let p = c.requires.in_range in
    let stored = ap (λ (i : ℕ). set a.links.now i (one_if a.adding)) c.link_place.ensures in
    rw c.from.ensures (record {
      outcome = link_done _ _ t _ _ a.adding k p.1 p.2 c.requires.acyclic_after c.relink.ensures a.caller.0
          stored c.resettle_link-count.ensures.0 c.resettle_link-count.ensures.1 c.count_edit.ensures;
      tracked = record {
        loaded = rw c.link_place.ensures (link_loaded _ _ t _ _ a.adding k p.1 p.2 c.requires.acyclic_after c.relink.ensures);
        prepared = link_prepared _ _ t _ _ a.adding k p.1 p.2 c.requires.acyclic_after c.relink.ensures;
      };
    })
