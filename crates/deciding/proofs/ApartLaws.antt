-- An entry where the parents may differ.
--     apart_at, apart_keeps     `apart` as the code goes: the entry says a dispute at c, or another
--     eight_more                one more of the entries from a place on does not say a dispute at c
--     eight_kept                eight entries of which none says a dispute at c are what is decided
-- Assumes nothing.
use mathlib.Core.Path.{◌≡◌, sym, ◌∙◌, ap, ap₂}
use mathlib.Core.Bool.{Bool, true, false, ◌&&◌, not}
use mathlib.Core.List.{List}
use mathlib.Core.Logic.{◌≢◌}
use Prim.Native.Nat.{ℕ, ◌+◌, ◌-◌, ◌<◌, ◌≤◌}
use native.Mathlib.Omega.{arith}
use borrow.Author.Tests.{eq-eqb, ne_eqb, eqb-false, not-true}
use lib.Dec.{eqb}
use lib.ListN.{length, get_or, take, drop}
use Rattle.std.proofs.lemmas.List.{get_or-take, get_or-drop, length-take}
use Rattle.inheritance.specs.declared.Lookup.{Lookup}
use Rattle.inheritance.specs.Entry.{entry_of}
use Rattle.tables.specs.Tables.{all_below}
use Rattle.tables.proofs.TableLaws.{below_suc, below_true}
use Rattle.deciding.specs.Deciding.{apart}

module _ (c e : ℕ) (v : Lookup) where
  apart_by : {b : Bool} → eqb e (257 + c) ≡ b → apart c e v ≡ (elim b [ true ↦ entry_of v | false ↦ e ])
  unfolding apart
  apart_by q = ap (λ (b : Bool). let x : ℕ = elim b [ true ↦ entry_of v | false ↦ e ] in x) q

  pub apart_at : e ≡ 257 + c → entry_of v ≡ apart c e v
  apart_at q = sym (apart_by (eq-eqb e (257 + c) q))

  pub apart_keeps : e ≢ 257 + c → e ≡ apart c e v
  apart_keeps ne = sym (apart_by (ne_eqb e (257 + c) ne))

-- the entries from `from` on, of which one more is looked at
pub eight_more : (from k c : ℕ) (out : List ℕ) {i : ℕ} {all : Bool} → i < length (take k (drop from out)) → all ≡ all_below (λ j. not (eqb (get_or out (from + j) 0) (257 + c))) i
    → (all && not (eqb (get_or (take k (drop from out)) i 0) (257 + c))) ≡ all_below (λ j. not (eqb (get_or out (from + j) 0) (257 + c))) (i + 1)
eight_more from k c out {i} {all} h so =
    ap₂ (λ (b : Bool) (e : ℕ). b && not (eqb e (257 + c))) so (get_or-take k (drop from out) i 0 (omega (arith, h, length-take k (drop from out))) ∙ get_or-drop from out i 0) ∙ sym (below_suc _ i)

pub eight_kept : (from c : ℕ) (out : List ℕ) (decisions : ℕ → Lookup) → all_below (λ k. not (eqb (get_or out (from + k) 0) (257 + c))) 8 ≡ true
    → (i : ℕ) → from ≤ i → i < from + 8 → get_or out i 0 ≡ apart c (get_or out i 0) (decisions i)
eight_kept from c out decisions all i a b = apart_keeps c (get_or out i 0) (decisions i) other
  where
    place : from + (i - from) ≡ i
    place = omega arith

    other : get_or out i 0 ≢ 257 + c
    other same =
        let t : not (eqb (get_or out (from + (i - from)) 0) (257 + c)) ≡ true = below_true (λ k. not (eqb (get_or out (from + k) 0) (257 + c))) 8 all (i - from) (omega arith) in
        eqb-false _ _ (not-true _ t) (ap (λ (p : ℕ). get_or out p 0) place ∙ same)
