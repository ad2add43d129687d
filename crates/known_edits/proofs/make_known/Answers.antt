-- `known_edits::make_known` meets its contract, by the steps of `KnownEdits`. Assumes nothing.
use mathlib.Core.Path.{sym, ap, ◌∙◌}
use Prim.Native.Nat.{ℕ}
use Rattle.std.specs.Prelude.{Result}
use Rattle.tables.specs.Lists.{change_of}
use Rattle.tables.specs.Calls.{leaves}
use Rattle.tables.specs.Reply.{Reply}
use Rattle.books.specs.Lent.{tables_of}
use Rattle.resettling.proofs.KnownLaws.{has}
use Rattle.tables.specs.Tables.{Tables}
use Rattle.tables.proofs.ReplyLaws.{passed_on}
use Rattle.known_edits.proofs.KnownEdits.{change_refused, change_rule, change_link, made_known}
use Rattle.known_edits.proofs.make_known.Goals as goal

pub returns-in_err-assignment-clause-outcome : goal.returns-in_err-assignment-clause-outcome
returns-in_err-assignment-clause-outcome c =
    let a = c.args in
    let k = c.requires.known in
    let t : Tables = tables_of a.book.now in
    ap (λ (reply : Reply ℕ). leaves reply t) (passed_on _ _ c.from_residual.ensures.1) ∙ change_refused _ _ t _ k.fits c.requires.caller a.change (sym c.in_err-assignment.ensures)

pub invariant_of-size : goal.invariant_of-size
invariant_of-size c = let s = (has c.requires.known).sizes in record { kinds = s.kinds; marks = s.marks }

pub set_rule-requires : goal.set_rule-requires
set_rule-requires c =
    let a = c.args in
    let k = c.requires.known in
    let t : Tables = tables_of a.book.now in
    let is = change_rule _ _ t _ k.fits c.requires.caller a.change (sym c.in_ok-assignment.ensures ∙ ap Result.Ok c.in-Rule.is) in
    record { known = k; in_range = (c.requires.caller, is.1, is.2) }

pub invariant_of-size-in-Link : goal.invariant_of-size-in-Link
invariant_of-size-in-Link c = let s = (has c.requires.known).sizes in record { kinds = s.kinds; marks = s.marks }

pub set_link-requires : goal.set_link-requires
set_link-requires c =
    let a = c.args in
    let k = c.requires.known in
    let t : Tables = tables_of a.book.now in
    let is = change_link _ _ t _ k.fits c.requires.caller a.change (sym c.in_ok-assignment.ensures ∙ ap Result.Ok c.in-Link.is) in
    record { known = k; in_range = (c.requires.caller, is.1, is.2) }

pub returns-in-Rule-clause-outcome : goal.returns-in-Rule-clause-outcome
returns-in-Rule-clause-outcome c =
    let a = c.args in
    let k = c.requires.known in
    let t : Tables = tables_of a.book.now in
    let is = change_rule _ _ t _ k.fits c.requires.caller a.change (sym c.in_ok-assignment.ensures ∙ ap Result.Ok c.in-Rule.is) in
    c.set_rule.ensures.outcome ∙ is.0

pub returns-in-Rule-clause-known : goal.returns-in-Rule-clause-known
returns-in-Rule-clause-known c =
    let a = c.args in
    let k = c.requires.known in
    let t : Tables = tables_of a.book.now in
    let is = change_rule _ _ t _ k.fits c.requires.caller a.change (sym c.in_ok-assignment.ensures ∙ ap Result.Ok c.in-Rule.is) in
    made_known k a.caller.0 (change_of a.change) (c.set_rule.ensures.outcome ∙ is.0) c.set_rule.ensures.tracked

pub returns-in-Link-clause-outcome : goal.returns-in-Link-clause-outcome
returns-in-Link-clause-outcome c =
    let a = c.args in
    let k = c.requires.known in
    let t : Tables = tables_of a.book.now in
    let is = change_link _ _ t _ k.fits c.requires.caller a.change (sym c.in_ok-assignment.ensures ∙ ap Result.Ok c.in-Link.is) in
    c.set_link.ensures.outcome ∙ is.0

pub returns-in-Link-clause-known : goal.returns-in-Link-clause-known
returns-in-Link-clause-known c =
    let a = c.args in
    let k = c.requires.known in
    let t : Tables = tables_of a.book.now in
    let is = change_link _ _ t _ k.fits c.requires.caller a.change (sym c.in_ok-assignment.ensures ∙ ap Result.Ok c.in-Link.is) in
    made_known k a.caller.0 (change_of a.change) (c.set_link.ensures.outcome ∙ is.0) c.set_link.ensures.tracked
