-- What refusals 14 and 15 have tested, and what a return is where they let it through or refuse it.
--     named, unnamed    where there is a name with a number, and where not
--     asked_under       what `asked_state` has tested where it lets a return through
--     state_passes      the refusals of such a return
--     state_refuses     .. and of one that is refused
-- Assumes nothing.
use mathlib.Core.Path.{◌≡◌, refl, sym}
use mathlib.Core.Bool.{Bool, true, false, cond, not}
use mathlib.Core.List.{List}
use Prim.Native.Nat.{ℕ, ◌<◌, ◌≤◌}
use native.Mathlib.Omega.{arith}
use lib.Dec.{eqb, ltb}
use lib.ListN.{get_or}
use borrow.Author.Tests.{ltb-true, ltb-false, lt-ltb}
use Rattle.std.specs.Prelude.{Option, Some, None, Result}
use Rattle.std.proofs.lemmas.Option.{cond_some}
use Rattle.inheritance.proofs.GivenLaws.{none_if}
use Rattle.tables.specs.declared.Refusal.{Refusal}
use Rattle.tables.specs.Calls.{Outcome, leaves, check}
use Rattle.tables.specs.Reply.{refused, refusal_number}
use Rattle.tables.specs.Tables.{Tables}
use Rattle.stores.specs.declared.Name.{Name}
use Rattle.stores.specs.Name.{names, name, name_below, asked_state}

abbrev name_or : Bool → ℕ → Option Name
name_or below number = cond below (Some (name number)) None

module _ (number : ℕ) where
  pub named : {k : Name} → name_below number ≡ Some k → (k ≡ name number) × (number < names)
  named e = let (low, same) = cond_some (ltb number names) _ _ e in (sym same, ltb-true number names low)

  pub unnamed : name_below number ≡ None → names ≤ number
  unnamed e = ltb-false number names (none_if (ltb number names) _ e)

-- k is the name with a number, and a state was saved under it
pub record AskedUnder (flags : List ℕ) (number : ℕ) (k : Name) : Type 0 where
  pub the_name : k ≡ name number
  pub name_in_range : number < names
  pub saved : eqb (get_or flags number 0) 0 ≡ false

module _ (flags : List ℕ) (number : ℕ) where
  pub asked_under : {k : Name} → asked_state flags (name_below number) ≡ Result.Ok k → AskedUnder flags number k
  asked_under {k} e = go (ltb number names) refl e
    where
      state : ltb number names ≡ true → (q : Bool) → eqb (get_or flags number 0) 0 ≡ q
          → cond q (Result.Err Refusal.Unsaved) (Result.Ok (name number)) ≡ Result.Ok k → AskedUnder flags number k
      state low true is e = let z : ◌≡◌ {A = ℕ} 0 1 = cc in absurd (omega arith)
      state low false is e = record { the_name = cc; name_in_range = ltb-true number names low; saved = is }

      go : (p : Bool) → ltb number names ≡ p → asked_state flags (name_or p number) ≡ Result.Ok k → AskedUnder flags number k
      go false is e = let z : ◌≡◌ {A = ℕ} 0 1 = cc in absurd (omega arith)
      go true is e = state is (eqb (get_or flags number 0) 0) refl e

  module _ (t : Tables) (next : Outcome ℕ) where
    pub state_passes : {k : Name} → AskedUnder flags number k → check 14 (ltb number names) t (check 15 (not (eqb (get_or flags number 0) 0)) t next) ≡ next
    unfolding check
    state_passes a = rw (lt-ltb number names a.name_in_range, a.saved) refl

    pub state_refuses : {why : Refusal} → asked_state flags (name_below number) ≡ Result.Err why
        → check 14 (ltb number names) t (check 15 (not (eqb (get_or flags number 0) 0)) t next) ≡ leaves (refused (refusal_number why)) t
    unfolding check
    state_refuses {why} e = go (ltb number names) e
      where
        state : (q : Bool) → cond q (Result.Err Refusal.Unsaved) (Result.Ok (name number)) ≡ Result.Err why
            → check 15 (not q) t next ≡ leaves (refused (refusal_number why)) t
        state true e = let w : Refusal.Unsaved ≡ why = cc in rw (← w) refl
        state false e = let z : ◌≡◌ {A = ℕ} 0 1 = cc in absurd (omega arith)

        go : (p : Bool) → asked_state flags (name_or p number) ≡ Result.Err why
            → check 14 p t (check 15 (not (eqb (get_or flags number 0) 0)) t next) ≡ leaves (refused (refusal_number why)) t
        go false e = let w : Refusal.Name ≡ why = cc in rw (← w) refl
        go true e = state (eqb (get_or flags number 0) 0) e
