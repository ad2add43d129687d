-- The answer to an entry, by the lookup that it stands for.
--     lookup_answer            the answer to a lookup
--     finding_lookup    on a book of at most 128 kinds it is find's answer to the entry
-- Assumes nothing.
use mathlib.Core.Path.{◌≡◌, refl, ◌∙◌}
use mathlib.Core.Bool.{Bool, true, false, cond}
use Prim.Native.Nat.{ℕ, ◌+◌, ◌-◌, ◌≤◌, ◌<◌}
use native.Mathlib.Omega.{arith}
use lib.Dec.{ltb, leb, eqb}
use borrow.Author.Tests.{leb-true, leb-false, eqb-true, eqb-false, le-leb, lt-leb, lt-ltb, le-ltb}
use Rattle.inheritance.specs.declared.Lookup.{Lookup}
use Rattle.tables.specs.Reply.{Reply, refused, given, Finding}
use Rattle.tables.specs.Calls.{handled, finding_of}
use Rattle.inheritance.specs.Entry.{lookup_of}
use Rattle.inheritance.proofs.EntryLaws.{lookup_rule, lookup_dispute}
use Rattle.tables.proofs.FindingLaws.{finding_none, finding_rule, finding_dispute, finding_bad}

abbrev pub lookup_answer : ℕ → (rule : ℕ → ℕ) → Lookup → Reply Finding
lookup_answer n rule Lookup.None = given Finding.none
lookup_answer n rule (Lookup.Rule o) = cond (ltb o.0 n) (handled o.0 (rule o.0)) (refused 10)
lookup_answer n rule (Lookup.Dispute x) = cond (ltb x.0 n) (given (Finding.dispute x.0)) (refused 10)

pub finding_lookup : (n : ℕ) (rule : ℕ → ℕ) (e : ℕ) → n ≤ 128 → finding_of n rule e ≡ lookup_answer n rule (lookup_of e)
finding_lookup n rule e few = go (eqb e 0) (leb e 256) (leb e n) (leb e (256 + n)) refl refl refl refl
  where
    go : (t0 t1 t2 t3 : Bool) → eqb e 0 ≡ t0 → leb e 256 ≡ t1 → leb e n ≡ t2 → leb e (256 + n) ≡ t3
        → finding_of n rule e ≡ lookup_answer n rule (lookup_of e)
    go true t1 t2 t3 h0 h1 h2 h3 =
        let none : e ≡ 0 = eqb-true e 0 h0 in
        finding_none n rule e none ∙ rw none (unfold lookup_of in refl)
    go false true true t3 h0 h1 h2 h3 =
        let some : 0 < e = omega (arith, eqb-false) in
        let low : e ≤ n = leb-true e n h2 in
        rw (finding_rule n rule e some low, lookup_rule e some (leb-true e 256 h1), lt-ltb (e - 1) n (omega arith)) refl
    go false true false t3 h0 h1 h2 h3 =
        let some : 0 < e = omega (arith, eqb-false) in
        let past : n < e = leb-false e n h2 in
        let low : e ≤ 256 = leb-true e 256 h1 in
        rw (finding_bad n rule e past (rw (lt-leb 257 e (omega arith)) refl), lookup_rule e some low, le-ltb (e - 1) n (omega arith)) refl
    go false false t2 true h0 h1 h2 h3 =
        let low : 257 ≤ e = leb-false e 256 h1 in
        let high : e ≤ 256 + n = leb-true e (256 + n) h3 in
        rw (finding_dispute n rule e (omega arith) low high, lookup_dispute e low, lt-ltb (e - 257) n (omega arith)) refl
    go false false t2 false h0 h1 h2 h3 =
        let low : 257 ≤ e = leb-false e 256 h1 in
        let past : 256 + n < e = leb-false e (256 + n) h3 in
        rw (finding_bad n rule e (omega arith) (rw (le-leb 257 e low, h3) refl), lookup_dispute e low, le-ltb (e - 257) n (omega arith)) refl
