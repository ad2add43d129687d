-- The 16-bit entries of lookups.
--     entry_lookup                                     every number is the entry of the lookup that it stands for
--     Coded                                            the other way round: a lookup that its entry stands for. A rule is one where its kind is below 256
--     coded_none, coded_rule, coded_dispute, coded_read    which are
--     lookup_rule, lookup_dispute                      what a number from 1 to 256, and from 257 on, stands for
-- Assumes nothing.
use mathlib.Core.Path.{◌≡◌, refl, ◌∙◌, ap}
use mathlib.Core.Bool.{Bool, true, false}
use Prim.Native.Nat.{ℕ, zero, suc, ◌+◌, ◌-◌, ◌<◌, ◌≤◌}
use native.Mathlib.Numerals.{add-one}
use native.Mathlib.Omega.{arith}
use borrow.Author.Tests.{lt-ltb, le-ltb, ltb-false}
use lib.Dec.{ltb}
use Rattle.inheritance.specs.declared.Lookup.{Lookup}
use Rattle.inheritance.specs.declared.Lookup.TheVariants.{None, Rule, Dispute}
use Rattle.inheritance.specs.Checked.{kind}
use Rattle.inheritance.specs.Entry.{entry_of, lookup_of}

pub lookup_none : (e : ℕ) → e ≡ 0 → lookup_of e ≡ None
unfolding lookup_of
lookup_none zero is = refl
lookup_none (suc e) is = absurd (omega arith)

pub lookup_rule : (e : ℕ) → 1 ≤ e → e ≤ 256 → lookup_of e ≡ Rule (kind (e - 1))
unfolding lookup_of
lookup_rule zero low high = absurd (omega arith)
lookup_rule (suc e) low high = let same : suc e - 1 ≡ e = omega arith in rw (lt-ltb e 256 high, lookup_of, same) refl

pub lookup_dispute : (e : ℕ) → 257 ≤ e → lookup_of e ≡ Dispute (kind (e - 257))
unfolding lookup_of
lookup_dispute zero low = absurd (omega arith)
lookup_dispute (suc e) low = let same : suc e - 257 ≡ e - 256 = omega arith in rw (le-ltb e 256 (omega arith), lookup_of, same) refl

pub entry_lookup : (e : ℕ) → entry_of (lookup_of e) ≡ e
unfolding lookup_of
entry_lookup zero = refl
entry_lookup (suc e) = go (ltb e 256) refl
  where
    go : (b : Bool) → ltb e 256 ≡ b → entry_of (elim b [ true ↦ Rule (kind e) | false ↦ Dispute (kind (e - 256)) ]) ≡ suc e
    go true t = add-one e
    go false t = let h = ltb-false e 256 t in omega arith

abbrev pub Coded : Lookup → Type 0
Coded v = lookup_of (entry_of v) ≡ v

pub coded_read : (e : ℕ) → Coded (lookup_of e)
coded_read e = ap lookup_of (entry_lookup e)

pub coded_none : Coded None
unfolding lookup_of
coded_none = refl

pub coded_rule : (k : ℕ) → k < 256 → Coded (Rule (kind k))
coded_rule k h = lookup_rule (k + 1) (omega arith) (omega arith) ∙ ap (λ (x : ℕ). Rule (kind x)) (omega arith)

pub coded_dispute : (k : ℕ) → Coded (Dispute (kind k))
coded_dispute k = lookup_dispute (257 + k) (omega arith) ∙ ap (λ (x : ℕ). Dispute (kind x)) (omega arith)
