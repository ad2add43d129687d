-- `finding::answer` meets its contract: both places that it reads are within the tables, and at each return the lookup and the
-- tests that led there say which case of `lookup_answer` holds. Assumes nothing.
use mathlib.Core.Path.{◌≡◌, sym, ◌∙◌, ap}
use Prim.Native.Nat.{ℕ}
use borrow.Author.Tests.{lt-ltb, le-ltb}
use Rattle.inheritance.specs.declared.Lookup.{Lookup}
use Rattle.tables.specs.Calls.{finding_of}
use Rattle.inheritance.specs.Entry.{lookup_of}
use Rattle.finding.proofs.FindLaws.{lookup_answer, finding_lookup}
use Rattle.std.proofs.Common.{◌≤◌}
use Rattle.finding.proofs.answer.Goals as goal

is_answer : (n : ℕ) (rule : ℕ → ℕ) (entry : ℕ) (v : Lookup) → n ≤ 128 → v ≡ lookup_of entry → finding_of n rule entry ≡ lookup_answer n rule v
is_answer n rule entry v few is = finding_lookup n rule entry few ∙ ap (lookup_answer n rule) (sym is)

pub returns-in-None : goal.returns-in-None
returns-in-None c = sym (is_answer _ _ _ _ c.requires.sizes.kinds (rw c.place.ensures at c.in-None.ensures))

pub returns-then-o-n : goal.returns-then-o-n
returns-then-o-n c =
    (rw c.place-then-o-n.ensures at c.handled.ensures)
    ∙ sym (is_answer _ _ _ _ c.requires.sizes.kinds (rw c.place.ensures at c.in-Rule.ensures) ∙ simp (lt-ltb _ _ c.if-o-n.true))

pub returns-else-o-n : goal.returns-else-o-n
returns-else-o-n c = sym (is_answer _ _ _ _ c.requires.sizes.kinds (rw c.place.ensures at c.in-Rule.ensures) ∙ simp (le-ltb _ _ c.if-o-n.false))

pub returns-then-x-n : goal.returns-then-x-n
returns-then-x-n c = sym (is_answer _ _ _ _ c.requires.sizes.kinds (rw c.place.ensures at c.in-Dispute.ensures) ∙ simp (lt-ltb _ _ c.if-x-n.true))

pub returns-else-x-n : goal.returns-else-x-n
returns-else-x-n c = sym (is_answer _ _ _ _ c.requires.sizes.kinds (rw c.place.ensures at c.in-Dispute.ensures) ∙ simp (le-ltb _ _ c.if-x-n.false))
