-- `merging::merge` meets its contract: each way out is a law of `merged`. Assumes nothing.
use Rattle.std.proofs.Common.{◌≡◌, ℕ, ◌+◌, sym, ap, ◌∙◌, arith}
use Rattle.inheritance.specs.declared.Kind.{Kind}
use Rattle.inheritance.specs.declared.Lookup.{Lookup}
use Rattle.inheritance.specs.declared.Lookup.TheVariants.{Rule, Dispute}
use Rattle.inheritance.specs.Entry.{entry_of, lookup_of}
use Rattle.inheritance.proofs.EntryLaws.{entry_lookup}
use Rattle.merging.proofs.MergeLaws.{merge_none, merge_agrees, merge_apart}
use Rattle.merging.proofs.merge.Goals as goal

-- the entry of a rule, and of a dispute
rule_entry : (b : ℕ) (v : Lookup) (k : Kind) → v ≡ Rule k → v ≡ lookup_of b → k.0 + 1 ≡ b
rule_entry b v k is told = sym (ap entry_of is) ∙ ap entry_of told ∙ entry_lookup b

dispute_entry : (b : ℕ) (v : Lookup) (k : Kind) → v ≡ Dispute k → v ≡ lookup_of b → k.0 + 257 ≡ b
dispute_entry b v k is told =
    let e = sym (ap entry_of is) ∙ ap entry_of told ∙ entry_lookup b in
    omega (arith, e)

pub overflow_add-k : goal.overflow_add-k
overflow_add-k c = omega (arith, rule_entry _ _ _ c.in-Rule.is c.from.ensures)

pub overflow_add-k-in-Dispute : goal.overflow_add-k-in-Dispute
overflow_add-k-in-Dispute c = omega (arith, dispute_entry _ _ _ c.in-Dispute.is c.from.ensures)

pub returns-in-None : goal.returns-in-None
returns-in-None c = sym (merge_none _ _ _ (sym c.in-None.is ∙ c.from.ensures))

pub returns-then-a-k : goal.returns-then-a-k
returns-then-a-k c = sym (merge_agrees _ _ _ (rule_entry _ _ _ c.in-Rule.is c.from.ensures) c.if-a-k.true)

pub returns-else-a-k : goal.returns-else-a-k
returns-else-a-k c =
    let e = rule_entry _ _ _ c.in-Rule.is c.from.ensures in
    sym (merge_apart _ _ _ e (λ none. omega (arith, e, none)) c.if-a-k.false)

pub returns-then-a-k-2 : goal.returns-then-a-k-2
returns-then-a-k-2 c = sym (merge_agrees _ _ _ (dispute_entry _ _ _ c.in-Dispute.is c.from.ensures) c.if-a-k-2.true)

pub returns-else-a-k-2 : goal.returns-else-a-k-2
returns-else-a-k-2 c =
    let e = dispute_entry _ _ _ c.in-Dispute.is c.from.ensures in
    sym (merge_apart _ _ _ e (λ none. omega (arith, e, none)) c.if-a-k-2.false)
