-- An edit of a link on tables that are known to be sound, step by step.
--     judged_links                 what the rows and the places reached say is what the links say
--     link_judged                  refusals 7, 8 and 9
--     link_acyclic, link_allowed   where none of them is given: no kind is then above itself, and what comes after
-- Assumes nothing.
use mathlib.Core.Path.{◌≡◌, refl, sym, ◌∙◌, ap, ap₂}
use mathlib.Core.Bool.{Bool, true, false, ◌||◌}
use Prim.Native.Nat.{ℕ, ◌<◌}
use native.Mathlib.Omega.{arith}
use borrow.Author.Tests.{eq-eqb, eqb-true}
use lib.Dec.{eqb}
use Rattle.std.specs.Prelude.{Result}
use Rattle.inheritance.specs.Above.{above, Acyclic}
use Rattle.inheritance.proofs.AboveLaws.{above_same}
use Rattle.inheritance.proofs.Bools.{same_bool}
use Rattle.relation.specs.declared.Relation.{Relation}
use Rattle.relation.specs.Bit.{bit}
use Rattle.relation.specs.First.{First}
use Rattle.soundness.proofs.Soundness.{rows_links}
use Rattle.tables.specs.declared.Refusal.{Refusal}
use Rattle.tables.specs.Calls.{Outcome, leaves, check, accepted}
use Rattle.tables.specs.Reply.{refused, refusal_number}
use Rattle.tables.specs.Tables.{Tables, up_of}
use Rattle.tables.proofs.EditLaws.{added_acyclic, taken_acyclic}
use Rattle.ruling.specs.declared.Prepared.{Prepared}
use Rattle.resettling.specs.Known.{Known}
use Rattle.resettling.proofs.KnownLaws.{has, known_place}
use Rattle.relinking.specs.Relinked.{linked, judged, link_checked, link_edit}

-- ---- refusals 7, 8 and 9

checked_judged : (adding linked cycle : Bool) (t : Tables) (next : Outcome ℕ) {why : Refusal} → judged adding linked cycle ≡ Result.Err why
    → leaves (refused (refusal_number why)) t ≡ link_checked adding linked cycle t next
unfolding check
checked_judged true true cycle t next {why} e = let w : Refusal.Linked ≡ why = cc in rw (← w) refl
checked_judged true false true t next {why} e = let w : Refusal.Cycle ≡ why = cc in rw (← w) refl
checked_judged true false false t next e = let z : ◌≡◌ {A = ℕ} 0 1 = cc in absurd (omega arith)
checked_judged false true cycle t next e = let z : ◌≡◌ {A = ℕ} 0 1 = cc in absurd (omega arith)
checked_judged false false cycle t next {why} e = let w : Refusal.NotLinked ≡ why = cc in rw (← w) refl

checked_allowed : (adding linked cycle : Bool) (t : Tables) (next : Outcome ℕ) → judged adding linked cycle ≡ Result.Ok tt
    → link_checked adding linked cycle t next ≡ next
unfolding check
checked_allowed true true cycle t next e = let z : ◌≡◌ {A = ℕ} 0 1 = cc in absurd (omega arith)
checked_allowed true false true t next e = let z : ◌≡◌ {A = ℕ} 0 1 = cc in absurd (omega arith)
checked_allowed true false false t next e = refl
checked_allowed false true cycle t next e = refl
checked_allowed false false cycle t next e = let z : ◌≡◌ {A = ℕ} 0 1 = cc in absurd (omega arith)

no_cycle : (linked cycle : Bool) → judged true linked cycle ≡ Result.Ok tt → cycle ≡ false
no_cycle true cycle e = let z : ◌≡◌ {A = ℕ} 0 1 = cc in absurd (omega arith)
no_cycle false true e = let z : ◌≡◌ {A = ℕ} 0 1 = cc in absurd (omega arith)
no_cycle false false e = refl

-- ---- the edit, on tables that are known to be sound

eqb_turned : (x y : ℕ) → eqb x y ≡ eqb y x
eqb_turned x y = same_bool _ _ (λ e. eq-eqb y x (sym (eqb-true x y e))) (λ e. eq-eqb x y (sym (eqb-true y x e)))

module _ (n m : ℕ) (t : Tables) (c p : ℕ) (adding : Bool) where
  abbrev there : Bool
  there = up_of n t.links c p

  abbrev cycle : Bool
  cycle = eqb p c || above n (up_of n t.links) p c

  module _ {d : Prepared} (k : Known n m t d) (c-in : c < n) (p-in : p < n) where
    abbrev rows : Relation
    rows = d.order.rows

    abbrev reach : Relation
    reach = d.order.reach

    pub judged_links : {place : ℕ} → First (bit reach c) 0 128 place → judged adding (bit rows c p) (bit reach p place) ≡ judged adding there cycle
    judged_links {place} first =
        let same = rows_links n t.links rows (has k).sizes.kinds k.tracked.loaded in
        let (within, is) = known_place k c c-in first in
        ap₂ (judged adding) (same c p c-in p-in)
        (k.tracked.prepared.arranged.reaches p place p-in within
        ∙ ap₂ ◌||◌ (ap (λ (x : ℕ). eqb x p) is ∙ eqb_turned c p)
        (ap (above n (bit rows) p) is ∙ above_same n (bit rows) (up_of n t.links) same p c p-in c-in))

    pub link_judged : (by : ℕ) {why : Refusal} → judged adding there cycle ≡ Result.Err why
        → leaves (refused (refusal_number why)) t ≡ link_edit n m t by c p adding
    unfolding link_edit check
    link_judged by e = rw k.is_sound (checked_judged adding there cycle t _ e)

    module _ (allowed : judged adding there cycle ≡ Result.Ok tt) where
      pub link_acyclic : Acyclic n (up_of n (linked n t.links c p adding))
      link_acyclic = go adding allowed
        where
          go : (b : Bool) → judged b there cycle ≡ Result.Ok tt → Acyclic n (up_of n (linked n t.links c p b))
          go true e = added_acyclic n m t (has k) c p c-in p-in (no_cycle there cycle e)
          go false e = taken_acyclic n m t (has k) c p c-in p-in

      pub link_allowed : (by : ℕ) → accepted n m t by (linked n t.links c p adding) t.rules ≡ link_edit n m t by c p adding
      unfolding link_edit check
      link_allowed by = rw k.is_sound (sym (checked_allowed adding there cycle t _ allowed))
