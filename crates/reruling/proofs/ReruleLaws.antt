-- The change of a rule, step by step.
--     rule_within, rule_sized    the place of the rule, and the tables once it is stored
--     rule_prepared              what is prepared, once the kind is put among the rule kinds or taken out
--     rule_applied               what is settled and counted then
--     rule_untouched             what is known of the entries of sound tables once the rule is stored
--     rule_absent, rule_done     refusal 6; what an accepted edit leaves and answers
-- Assumes nothing.
use mathlib.Core.Path.{◌≡◌, refl, ◌∙◌}
use mathlib.Core.Bool.{Bool, true, false, ◌&&◌, not}
use mathlib.Core.List.{List}
use Prim.Native.Nat.{ℕ, ◌+◌, ◌*◌, ◌<◌}
use lib.Arith.{digits_lt}
use lib.Dec.{eqb}
use lib.ListN.{length, get_or, set, length-set}
use Rattle.counting.specs.Counting.{Counted}
use Rattle.relation.specs.declared.Relation.{Relation}
use Rattle.relation.specs.Bit.{bit}
use Rattle.relation.specs.First.{First}
use Rattle.ruling.specs.declared.Prepared.{Prepared}
use Rattle.ruling.specs.Ready.{Ready}
use Rattle.deciding.proofs.Preparing.{kind_place, prepared_set}
use Rattle.settling.specs.Settled.{Settled}
use Rattle.settling.proofs.Editing.{rule_awaiting, rule_settled}
use Rattle.tables.specs.Calls.{leaves, check}
use Rattle.tables.specs.Reply.{refused, given}
use Rattle.tables.specs.Tables.{Tables, lent, Sized, tallied}
use Rattle.resettling.specs.Edits.{Untouched, changed, Reset}
use Rattle.resettling.specs.Known.{Known}
use Rattle.resettling.proofs.KnownLaws.{has, acyclic, looked, given_accepted}
use Rattle.reruling.specs.Reruled.{stored, rule_edit, RuleUntouched, Applied}

-- the rule is stored at place i
module _ (n m : ℕ) {rules entries : List ℕ} (s : Sized n m rules entries) (kind mark handling : ℕ) (kind_in : kind < n) (mark-in : mark < m) (i : ℕ) (at : i ≡ kind * m + mark) where
  pub rule_within : i < length rules
  rule_within = rw (at, s.rules_size) (digits_lt kind_in mark-in)

  pub rule_sized : Sized n m (set rules i handling) entries
  rule_sized = record {
    kinds = s.kinds;
    marks = s.marks;
    rules_size = length-set rules i handling ∙ s.rules_size;
    entries_size = s.entries_size;
  }

  -- `new` are the rows of the rule kinds after the change
  pub rule_prepared : {d : Prepared} {new : Relation} {place : ℕ} → Ready n m rules d → First (bit d.order.reach kind) 0 128 place
      → Reset mark place (not (eqb handling 0)) d.ruled new → Ready n m (set rules i handling) (record d { ruled = new })
  rule_prepared {d} {new} {place} p first r =
      let (within, is) = kind_place n d.order.rows d.order.kinds d.order.reach p.arranged s.kinds kind kind_in first in
      rw at
      (prepared_set m rules kind mark handling mark-in n s.rules_size d new place within is p
      (λ before here. changed (not (eqb handling 0)) here before) (λ b. refl) (λ b. refl) r.bits)

  pub rule_applied : {caller : ℕ} {up : ℕ → ℕ → Bool} {new before tally disputes : List ℕ} {count : ℕ} → Settled n m mark (mark + 1) up (set rules i handling) entries new count
      → Counted m new disputes → tally ≡ tallied caller before
      → Applied n m caller kind mark up (stored m rules kind mark handling) (set rules i handling) entries new before tally disputes count
  rule_applied settled counts counted = record { rule = rw at refl; settled = rw at at settled; counted = counted; counts = counts }

-- ---- the edit, on tables that are known to be sound

module _ (n m : ℕ) (t : Tables) (kind mark handling : ℕ) where
  module _ {d : Prepared} (k : Known n m t d) (mark-in : mark < m) where
    abbrev rows : Relation
    rows = d.order.rows

    pub rule_untouched : RuleUntouched n m kind mark (bit rows) (stored m t.rules kind mark handling) t.entries
    unfolding Untouched
    rule_untouched =
        rule_awaiting n m (bit rows) t.rules t.entries (has k).sizes.entries_size (acyclic k) (looked k) kind mark handling mark-in

    module _ (i : ℕ) (at : i ≡ kind * m + mark) (by : ℕ) where
      pub rule_absent : (eqb handling 0 && eqb (get_or t.rules i 0) 0) ≡ true → leaves (refused 6) t ≡ rule_edit n m t by kind mark handling
      unfolding rule_edit check
      rule_absent e = rw (k.is_sound, ← at, e) refl

      pub rule_done : {rules entries tally disputes : List ℕ} {count : ℕ} → (eqb handling 0 && eqb (get_or t.rules i 0) 0) ≡ false
          → Applied n m by kind mark (bit rows) (stored m t.rules kind mark handling) rules t.entries entries t.tally tally disputes count
          → leaves (given count) (lent t.links rules entries tally disputes) ≡ rule_edit n m t by kind mark handling
      unfolding rule_edit check
      rule_done e a =
          let there : (eqb handling 0 && eqb (get_or t.rules (kind * m + mark) 0) 0) ≡ false = rw at at e in
          rw (k.is_sound, there, a.rule, a.counted)
          (given_accepted n m t by t.links (stored m t.rules kind mark handling) rows (has k).lengths k.tracked.loaded (acyclic k)
          (rule_settled n m (bit rows) t.rules t.entries (has k).sizes.entries_size (acyclic k) (looked k) kind mark handling mark-in a.settled)
          a.counts)
