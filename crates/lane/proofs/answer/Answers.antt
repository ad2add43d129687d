-- `lane::answer` meets its contract: both places that it reads are within the tables, and its tests are those of find,
-- so that the tests that led to a return say which answer is packed there. Assumes nothing.
use mathlib.Core.Path.{◌≡◌, refl, sym, ap, ◌∙◌}
use Prim.Native.Nat.{ℕ, ◌+◌, ◌-◌, ◌*◌, ◌<◌, ◌≤◌}
use native.Mathlib.Nat.{add-mul}
use native.Mathlib.Omega.{arith}
use lib.ListN.{get_or}
use borrow.Author.Tests.{leb-true}
use Rattle.tables.specs.Calls.{handled, finding_of}
use Rattle.tables.specs.Controller.{words16, packed}
use lib.Arith.{digits_lt}
use Rattle.tables.proofs.ShapeLaws.{and_iff}
use Rattle.tables.proofs.FindingLaws.{handled_none, handled_some, finding_rule}
use Rattle.tables.proofs.ByteLaws.{joined_within}
use Rattle.lane.proofs.PackedLaws.{packed_plain, packed_bad}
use Rattle.std.proofs.Common.{true}
use mathlib.Core.Bool.{◌&&◌}
use lib.Dec.{leb}
use Rattle.lane.proofs.answer.Goals as goal

rule-here : {e n : ℕ} → (leb 1 e && leb e n) ≡ true → (1 ≤ e) × (e ≤ n)
rule-here {e} {n} both =
    let tests = (and_iff (leb 1 e) (leb e n)).0 both in
    (leb-true _ _ tests.0, leb-true _ _ tests.1)

-- the row before that of e is that of e - 1
row_before : (e m j : ℕ) → 1 ≤ e → e * m + j ≡ m + ((e - 1) * m + j)
row_before e m j h = let one_more : (e - 1) + 1 ≡ e = omega arith in omega (arith, ap (λ (x : ℕ). x * m) one_more, add-mul (e - 1) 1 m)

pub word-entry-requires : goal.word-entry-requires
word-entry-requires c =
    let a = c.args in
    let within = c.requires in
    joined_within 256 a.entries.now c.place.result (omega (arith, c.place.ensures, within.sizes.entries_size, digits_lt within.kind_in_range within.mark_in_range))

pub word-handling-requires : goal.word-handling-requires
word-handling-requires c =
    let a = c.args in
    let here : (1 ≤ c.word-entry.result) × (c.word-entry.result ≤ a.n) = rule-here c.if-entry-n.true in
    let before : c.place-row_after.result ≡ a.m + ((c.word-entry.result - 1) * a.m + a.j.0) = c.place-row_after.ensures ∙ row_before _ _ _ here.0 in
    let within = c.requires in
    let below : c.word-entry.result - 1 < a.n = omega arith in
    joined_within 256 a.rules.now _ (omega (arith, before, within.sizes.rules_size, digits_lt below within.mark_in_range))

pub returns-then-handling-eq0 : goal.returns-then-handling-eq0
returns-then-handling-eq0 c =
    let a = c.args in
    let own : ℕ → ℕ = λ (o : ℕ). get_or (words16 a.rules.now) (o * a.m + a.j.0) 0 in
    let e = c.word-entry.result in
    let is-read : finding_of a.n own (get_or (words16 a.entries.now) (a.k.0 * a.m + a.j.0) 0) ≡ finding_of a.n own e = rw (← c.place.ensures, ← c.word-entry.ensures) refl in
    let here : (1 ≤ c.word-entry.result) × (c.word-entry.result ≤ a.n) = rule-here c.if-entry-n.true in
    let before : c.place-row_after.result ≡ a.m + ((c.word-entry.result - 1) * a.m + a.j.0) = c.place-row_after.ensures ∙ row_before _ _ _ here.0 in
    let place_is : (e - 1) * a.m + a.j.0 ≡ c.place-row_after.result - a.m = omega (arith, before) in
    let is-rule : finding_of a.n own (get_or (words16 a.entries.now) (a.k.0 * a.m + a.j.0) 0) ≡ handled (e - 1) c.word-handling.result =
    is-read
    ∙ finding_rule a.n own e here.0 here.1
    ∙ ap (handled (e - 1)) (ap (λ (i : ℕ). get_or (words16 a.rules.now) i 0) place_is ∙ sym c.word-handling.ensures) in
    sym (ap packed (is-rule ∙ handled_none _ _ c.if-handling-eq0.true))

pub returns-else-handling-eq0 : goal.returns-else-handling-eq0
returns-else-handling-eq0 c =
    let a = c.args in
    let own : ℕ → ℕ = λ (o : ℕ). get_or (words16 a.rules.now) (o * a.m + a.j.0) 0 in
    let e = c.word-entry.result in
    let is-read : finding_of a.n own (get_or (words16 a.entries.now) (a.k.0 * a.m + a.j.0) 0) ≡ finding_of a.n own e = rw (← c.place.ensures, ← c.word-entry.ensures) refl in
    let here : (1 ≤ c.word-entry.result) × (c.word-entry.result ≤ a.n) = rule-here c.if-entry-n.true in
    let before : c.place-row_after.result ≡ a.m + ((c.word-entry.result - 1) * a.m + a.j.0) = c.place-row_after.ensures ∙ row_before _ _ _ here.0 in
    let place_is : (e - 1) * a.m + a.j.0 ≡ c.place-row_after.result - a.m = omega (arith, before) in
    let is-rule : finding_of a.n own (get_or (words16 a.entries.now) (a.k.0 * a.m + a.j.0) 0) ≡ handled (e - 1) c.word-handling.result =
    is-read
    ∙ finding_rule a.n own e here.0 here.1
    ∙ ap (handled (e - 1)) (ap (λ (i : ℕ). get_or (words16 a.rules.now) i 0) place_is ∙ sym c.word-handling.ensures) in
    let h = c.word-handling.result in
    let some : 0 < h = omega (arith, c.if-handling-eq0.false) in
    rw (is-rule ∙ handled_some _ h some) (omega (arith, here))

pub returns-then-entry-n-2 : goal.returns-then-entry-n-2
returns-then-entry-n-2 c =
    let a = c.args in
    let own : ℕ → ℕ = λ (o : ℕ). get_or (words16 a.rules.now) (o * a.m + a.j.0) 0 in
    let e = c.word-entry.result in
    let is-read : finding_of a.n own (get_or (words16 a.entries.now) (a.k.0 * a.m + a.j.0) 0) ≡ finding_of a.n own e = rw (← c.place.ensures, ← c.word-entry.ensures) refl in
    sym (ap packed is-read ∙ packed_plain a.n e own c.requires.sizes.kinds c.if-entry-n-2.true)

pub returns-else-entry-n-2 : goal.returns-else-entry-n-2
returns-else-entry-n-2 c =
    let a = c.args in
    let own : ℕ → ℕ = λ (o : ℕ). get_or (words16 a.rules.now) (o * a.m + a.j.0) 0 in
    let e = c.word-entry.result in
    let is-read : finding_of a.n own (get_or (words16 a.entries.now) (a.k.0 * a.m + a.j.0) 0) ≡ finding_of a.n own e = rw (← c.place.ensures, ← c.word-entry.ensures) refl in
    sym (ap packed is-read ∙ packed_bad a.n e own c.if-entry-n.false c.if-entry-n-2.false)
