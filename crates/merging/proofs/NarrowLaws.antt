-- What the kinds left make of an entry, as code finds it.
--     agreed_none, agreed_more, row_agreed   no entry of a row says that the parents differ: for no mark yet; for one more; nothing is decided then
--     apart_narrows             what is decided by the kinds left narrows the entry
--     apart_ruled               an own rule is kept
-- Assumes nothing.
use mathlib.Core.Path.{◌≡◌, refl, sym, ◌∙◌, ap}
use mathlib.Core.Bool.{Bool, true, false, ◌&&◌, ◌||◌, not, not-eq-not}
use mathlib.Core.List.{List}
use mathlib.Core.Logic.{◌≢◌, by_cases}
use Prim.Native.Nat.{ℕ, ◌+◌, ◌<◌, ◌≤◌}
use native.Mathlib.Decide.{ℕ_discrete}
use native.Mathlib.Omega.{arith}
use borrow.Author.Tests.{eqb-false, lt-ltb, le-ltb, not-true}
use lib.Dec.{eqb, ltb}
use lib.ListN.{get_or}
use Rattle.inheritance.specs.declared.Lookup.{Lookup}
use Rattle.inheritance.specs.declared.Lookup.TheVariants.{Dispute}
use Rattle.inheritance.specs.Checked.{kind}
use Rattle.inheritance.specs.Lookup.{same, passing, decided}
use Rattle.inheritance.specs.Step.{narrowed}
use Rattle.inheritance.proofs.MeetLaws.{same_true, same_refl}
use Rattle.inheritance.specs.Entry.{entry_of, lookup_of}
use Rattle.tables.proofs.TableLaws.{below_suc, below_true, true_below}
use Rattle.inheritance.proofs.EntryLaws.{entry_lookup, coded_dispute}
use Rattle.deciding.specs.Deciding.{apart}
use Rattle.deciding.proofs.ApartLaws.{apart_at, apart_keeps}
use Rattle.deciding.specs.Row.{Row}
use Rattle.merging.specs.Merged.{narrowing, agreed, ruled}

-- a row that is as f says
module _ (lo c : ℕ) (f : ℕ → ℕ) where
  abbrev kept : ℕ → Bool
  kept j = ltb j lo || not (eqb (f j) (257 + c))

  pub agreed_none : true ≡ agreed c lo lo f
  unfolding agreed
  agreed_none = sym (true_below kept lo (λ i h. rw (lt-ltb i lo h)))

  pub agreed_more : {j e : ℕ} {all : Bool} → lo ≤ j → all ≡ agreed c lo j f → e ≡ f j → (all && not (eqb e (257 + c))) ≡ agreed c lo (j + 1) f
  unfolding agreed
  agreed_more {j} h is at = rw (below_suc, is, at, le-ltb j lo h) refl

  pub row_agreed : {hi : ℕ} {out : List ℕ} (decisions : ℕ → Lookup) → agreed c lo hi f ≡ true → Row lo hi f out → Row lo hi (λ j. apart c (get_or out j 0) (decisions j)) out
  unfolding agreed
  row_agreed {hi} {out} decisions all r = record { long = r.long; at = λ j a b. apart_keeps c (get_or out j 0) (decisions j) (other j a b) }
    where
      other : (j : ℕ) → lo ≤ j → j < hi → get_or out j 0 ≢ 257 + c
      other j a b same =
          let t : kept j ≡ true = below_true kept hi all j b in
          eqb-false _ _ (not-true _ (ap (λ (x : Bool). x || not (eqb (f j) (257 + c))) (sym (le-ltb j lo a)) ∙ t)) (sym (r.at j a b) ∙ same)

module _ (n : ℕ) (lefts : ℕ → Bool) (c : ℕ) where
  narrowed_by : (v : Lookup) {b : Bool} → same v (Dispute (kind c)) ≡ b
      → narrowed c (passing lefts n) v ≡ (elim b [ true ↦ decided (passing lefts n) v | false ↦ v ])
  unfolding narrowed
  narrowed_by v e = ap (λ (b : Bool). let w : Lookup = elim b [ true ↦ decided (passing lefts n) v | false ↦ v ] in w) e

  narrow_keeps : (e : ℕ) → e ≢ 257 + c → narrowing n lefts c e ≡ e
  unfolding narrowing
  narrow_keeps e ne =
      ap entry_of (narrowed_by (lookup_of e) ((not-eq-not {b = false}).0 (λ t. ne (sym (entry_lookup e) ∙ ap entry_of (same_true (lookup_of e) _ t))))) ∙ entry_lookup e

  narrow_decides : narrowing n lefts c (257 + c) ≡ entry_of (decided (passing lefts n) (Dispute (kind c)))
  unfolding narrowing
  narrow_decides =
      ap (λ (v : Lookup). entry_of (narrowed c (passing lefts n) v)) (coded_dispute c)
      ∙ ap entry_of (narrowed_by (Dispute (kind c)) (same_refl (Dispute (kind c))))

  pub apart_narrows : (e : ℕ) (v : Lookup) → v ≡ decided (passing lefts n) (Dispute (kind c)) → apart c e v ≡ narrowing n lefts c e
  apart_narrows e v d = by_cases (ℕ_discrete e (257 + c))
      (λ q. sym (apart_at c e v q) ∙ ap entry_of d ∙ sym narrow_decides ∙ ap (narrowing n lefts c) (sym q))
      (λ ne. sym (apart_keeps c e v ne) ∙ sym (narrow_keeps e ne))

pub apart_ruled : (c rule e : ℕ) (v : Lookup) → c < 128 → apart c (ruled c rule e) v ≡ ruled c rule (apart c e v)
unfolding ruled
apart_ruled c rule e v h = go (eqb rule 0)
  where
    go : (b : Bool) → apart c (elim b [ true ↦ e | false ↦ c + 1 ]) v ≡ (elim b [ true ↦ apart c e v | false ↦ c + 1 ])
    go true = refl
    go false = sym (apart_keeps c (c + 1) v (λ q. omega arith))
