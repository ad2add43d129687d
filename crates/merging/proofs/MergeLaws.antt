-- What code computes when it merges one more parent's entry, and when an own rule wins.
--     merge_none, merge_first     the parent gives nothing; it is the first that gives something
--     merge_agrees, merge_apart   no other parent gave anything else, or one did
--     no_rule, own_rule           the kind has no own rule, or has one
-- Assumes nothing.
use mathlib.Core.Path.{◌≡◌, refl, sym, ◌∙◌, ap}
use mathlib.Core.Logic.{◌≢◌, ⊎_elim}
use mathlib.Core.Bool.{Bool, true, false, ◌||◌, true≢false, not-eq-not}
use Prim.Native.Nat.{ℕ, ◌+◌}
use borrow.Author.Tests.{eqb-true, eqb-false, eq-eqb, ne_eqb}
use lib.Dec.{eqb}
use Rattle.inheritance.specs.declared.Lookup.{Lookup}
use Rattle.inheritance.specs.declared.Lookup.TheVariants.{None}
use Rattle.inheritance.specs.Lookup.{same, join}
use Rattle.inheritance.proofs.AboveLaws.{or_cases}
use Rattle.inheritance.proofs.MeetLaws.{same_true, join_none, join_same, join_differ}
use Rattle.inheritance.specs.Entry.{entry_of, lookup_of}
use Rattle.inheritance.proofs.EntryLaws.{entry_lookup}
use Rattle.merging.specs.Merged.{merged, ruled}

neither : (s t : Bool) → (s || t) ≡ false → (s ≡ false) × (t ≡ false)
neither false false e = (refl, refl)
neither false true e = absurd (true≢false e)
neither true t e = absurd (true≢false e)

pub merge_none : (c a b : ℕ) → None ≡ lookup_of b → merged c a b ≡ a
unfolding merged join
merge_none c a b none = ap (λ (v : Lookup). entry_of (join c (lookup_of a) v)) (sym none) ∙ entry_lookup a

pub merge_first : (c b : ℕ) → merged c 0 b ≡ b
unfolding merged lookup_of
merge_first c b = ap entry_of (join_none c (lookup_of b)) ∙ entry_lookup b

pub merge_same : (c a b : ℕ) → a ≡ b → merged c a b ≡ b
unfolding merged
merge_same c a b same = ap (λ (x : ℕ). entry_of (join c (lookup_of x) (lookup_of b))) same ∙ ap entry_of (join_same c (lookup_of b)) ∙ entry_lookup b

not_none : (a : ℕ) → a ≢ 0 → lookup_of a ≢ None
unfolding lookup_of
not_none a some e = some (sym (entry_lookup a) ∙ ap entry_of e)

merge_differs : (c a b : ℕ) → a ≢ 0 → b ≢ 0 → a ≢ b → merged c a b ≡ 257 + c
unfolding merged
merge_differs c a b some some' apart = ap entry_of (join_differ c (lookup_of a) (lookup_of b) (not_none a some) (not_none b some') differ)
  where
    differ : same (lookup_of a) (lookup_of b) ≡ false
    differ = (not-eq-not {b = false}).0 (λ t. apart (sym (entry_lookup a) ∙ ap entry_of (same_true (lookup_of a) (lookup_of b) t) ∙ entry_lookup b))

-- .. where b stands for a lookup that is not none, and the code compares with its number
module _ (c a b : ℕ) {number : ℕ} (is : number ≡ b) where
  pub merge_agrees : (eqb a 0 || eqb a number) ≡ true → merged c a b ≡ b
  merge_agrees e = ⊎_elim (λ t. ap (λ (x : ℕ). merged c x b) (eqb-true a 0 t) ∙ merge_first c b) (λ t. merge_same c a b (eqb-true a number t ∙ is)) (or_cases (eqb a 0) (eqb a number) e)

  pub merge_apart : b ≢ 0 → (eqb a 0 || eqb a number) ≡ false → merged c a b ≡ 257 + c
  merge_apart some e = merge_differs c a b (eqb-false a 0 none.0) some (λ same. eqb-false a number none.1 (same ∙ sym is))
    where
      none : (eqb a 0 ≡ false) × (eqb a number ≡ false)
      none = neither (eqb a 0) (eqb a number) e

module _ (c rule e : ℕ) where
  ruled_by : {b : Bool} → eqb rule 0 ≡ b → ruled c rule e ≡ (elim b [ true ↦ e | false ↦ c + 1 ])
  unfolding ruled
  ruled_by q = ap (λ (b : Bool). let x : ℕ = elim b [ true ↦ e | false ↦ c + 1 ] in x) q

  pub no_rule : rule ≡ 0 → e ≡ ruled c rule e
  no_rule q = sym (ruled_by (eq-eqb rule 0 q))

  pub own_rule : rule ≢ 0 → c + 1 ≡ ruled c rule e
  own_rule ne = sym (ruled_by (ne_eqb rule 0 ne))
