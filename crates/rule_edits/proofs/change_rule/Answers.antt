-- `rule_edits::change_rule` meets its contract, by the steps of `RuleEditLaws`. Assumes nothing.
use mathlib.Core.Path.{sym, ap, ◌∙◌}
use Prim.Native.Nat.{ℕ}
use Rattle.books.proofs.AskLaws.{asked_by}
use Rattle.tables.specs.Calls.{leaves}
use Rattle.tables.specs.Reply.{Reply}
use Rattle.tables.specs.Tables.{Tables, lent}
use Rattle.resettling.proofs.KnownLaws.{fits_sized}
use Rattle.tables.proofs.ReplyLaws.{passed_on}
use Rattle.rule_edits.proofs.RuleEditLaws.{first_refused, rule_refused, rule_passed}
use Rattle.rule_edits.proofs.change_rule.Goals as goal

pub returns-in_err-by : goal.returns-in_err-by
returns-in_err-by c =
    let a = c.args in
    let t : Tables = lent a.links.now a.rules.now a.entries.now a.tally.now a.disputes.now in
    ap (λ (reply : Reply ℕ). leaves reply t) (passed_on _ _ c.from_residual.ensures.1) ∙ first_refused _ _ t _ _ _ _ (sym c.in_err-by.ensures)

pub returns-in_err-kind : goal.returns-in_err-kind
returns-in_err-kind c =
    let a = c.args in
    let t : Tables = lent a.links.now a.rules.now a.entries.now a.tally.now a.disputes.now in
    let by = asked_by _ _ t _ (sym c.in_ok-by.ensures) in
    ap (λ (reply : Reply ℕ). leaves reply t) (passed_on _ _ c.from_residual-in_err-kind.ensures.1)
    ∙ rule_refused _ _ t _ _ _ _ by.fits by.caller_in_range (sym c.in_err-kind.ensures)

pub invariant_of-size : goal.invariant_of-size
invariant_of-size c =
    let a = c.args in
    let t : Tables = lent a.links.now a.rules.now a.entries.now a.tally.now a.disputes.now in
    let s = (fits_sized _ _ t (asked_by _ _ t _ (sym c.in_ok-by.ensures)).fits).0 in
    record { kinds = s.kinds; marks = s.marks }

pub returns : goal.returns
returns c =
    let a = c.args in
    let t : Tables = lent a.links.now a.rules.now a.entries.now a.tally.now a.disputes.now in
    let by = asked_by _ _ t _ (sym c.in_ok-by.ensures) in
    c.edit_rule.ensures
    ∙ rw (by.the_caller, c.unwrap_or-stored.ensures) (rule_passed _ _ t _ _ _ _ by.fits by.caller_in_range (sym c.in_ok-kind.ensures))
