-- `relinking::set_link` meets its contract, by the steps of `LinkingLaws`. Assumes nothing.
use mathlib.Core.Path.{sym, ap, ◌∙◌}
use Prim.Native.Nat.{ℕ}
use native.Mathlib.Omega.{arith}
use Rattle.tables.specs.Calls.{leaves}
use Rattle.tables.specs.Reply.{Reply}
use Rattle.tables.specs.Tables.{Tables, lent}
use Rattle.tables.proofs.ReplyLaws.{passed_on}
use Rattle.resettling.proofs.KnownLaws.{known_place, known_place_found}
use Rattle.relinking.proofs.LinkingLaws.{judged_links, link_judged, link_acyclic, link_allowed}
use Rattle.relinking.proofs.set_link.Goals as goal

pub row-requires : goal.row-requires
row-requires c = omega (arith, c.from.ensures, c.requires.in_range.1, c.args.size.kinds)

pub unwrap-at-requires : goal.unwrap-at-requires
unwrap-at-requires c = (known_place_found c.requires.known _ c.requires.in_range.1 (rw (c.row.ensures, c.from.ensures) at c.min.ensures)).0

pub judge-requires : goal.judge-requires
judge-requires c =
    let k = c.requires.known in
    let p = c.requires.in_range in
    let first = (known_place_found k _ p.1 (rw (c.row.ensures, c.from.ensures) at c.min.ensures)).1 _ c.unwrap-at.ensures in
    let few = c.args.size.kinds in
    (omega (arith, p.1), omega (arith, p.2), omega (arith, (known_place k _ p.1 first).0))

pub apply_link-requires-clause-acyclic_after : goal.apply_link-requires-clause-acyclic_after
apply_link-requires-clause-acyclic_after c =
    let a = c.args in
    let t : Tables = lent a.links.now a.rules.now a.entries.now a.tally.now a.disputes.now in
    let k = c.requires.known in
    let p = c.requires.in_range in
    let first = (known_place_found k _ p.1 (rw (c.row.ensures, c.from.ensures) at c.min.ensures)).1 _ c.unwrap-at.ensures in
    link_acyclic _ _ t _ _ a.adding k p.1 p.2 (sym (judged_links _ _ t _ _ a.adding k p.1 p.2 first) ∙ sym c.in_ok-judge.ensures)

pub returns-in_err-judge : goal.returns-in_err-judge
returns-in_err-judge c =
    let a = c.args in
    let t : Tables = lent a.links.now a.rules.now a.entries.now a.tally.now a.disputes.now in
    let k = c.requires.known in
    let p = c.requires.in_range in
    let first = (known_place_found k _ p.1 (rw (c.row.ensures, c.from.ensures) at c.min.ensures)).1 _ c.unwrap-at.ensures in
    let refusal = sym (judged_links _ _ t _ _ a.adding k p.1 p.2 first) ∙ sym c.in_err-judge.ensures in
    record {
      outcome = ap (λ (reply : Reply ℕ). leaves reply t) (passed_on _ _ c.from_residual.ensures.1) ∙ link_judged _ _ t _ _ a.adding k p.1 p.2 a.caller.0 refusal;
      tracked = k.tracked;
    }

pub returns : goal.returns
returns c =
    let a = c.args in
    let t : Tables = lent a.links.now a.rules.now a.entries.now a.tally.now a.disputes.now in
    let k = c.requires.known in
    let p = c.requires.in_range in
    let first = (known_place_found k _ p.1 (rw (c.row.ensures, c.from.ensures) at c.min.ensures)).1 _ c.unwrap-at.ensures in
    let allowed = sym (judged_links _ _ t _ _ a.adding k p.1 p.2 first) ∙ sym c.in_ok-judge.ensures in
    record {
      outcome = c.apply_link.ensures.outcome ∙ link_allowed _ _ t _ _ a.adding k p.1 p.2 allowed a.caller.0;
      tracked = c.apply_link.ensures.tracked;
    }
