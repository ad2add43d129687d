-- A call that answers and leaves what its definition says has the outcome of the request: one law for each request.
-- Assumes nothing.
use mathlib.Core.Path.{◌≡◌, sym, ap, ap₂}
use mathlib.Core.List.{List}
use Prim.Native.Nat.{ℕ}
use Rattle.tables.specs.declared.Edit.{Edit}
use Rattle.tables.specs.Lists.{Change, edit_outcome, make_list}
use Rattle.tables.specs.Books.{Answer, gives, told, answer_to}
use Rattle.tables.specs.Books.Request.{open_book, edit, edit_all, find, parties, inspect, refresh}
use Rattle.tables.specs.Books.Answer.{opening, editing, finding, pairing, inspecting, listing}
use Rattle.tables.specs.Calls as calls
use Rattle.tables.specs.Calls.{leaves}
use Rattle.tables.specs.Reply.{Reply, Finding, Fault, TwoKinds, Listing}
use Rattle.tables.specs.Tables.{Tables}
use Rattle.tables.proofs.CallLaws.{find_keeps, parties_keeps, inspect_keeps}

module _ (n m : ℕ) (t : Tables) where
  module _ {t' : Tables} where
    pub open_carried : {reply : Reply (Unit {0})} → leaves reply t' ≡ calls.open_book n m t → gives (opening reply) t' ≡ answer_to n m t open_book
    unfolding answer_to
    open_carried done = ap (told opening) done

    module _ {reply : Reply ℕ} where
      pub edit_carried : (by : ℕ) (e : Change) → leaves reply t' ≡ edit_outcome n m t by e → gives (editing reply) t' ≡ answer_to n m t (edit by e)
      unfolding answer_to
      edit_carried by e done = ap (told editing) done

      pub refresh_carried : leaves reply t' ≡ calls.refresh n m t → gives (editing reply) t' ≡ answer_to n m t refresh
      unfolding answer_to
      refresh_carried done = ap (told editing) done

    -- the list, which no value of a call holds: `make_list` is its part of the dispatcher
    pub list_carried : (by : ℕ) (es : List Edit) {reply : Reply Listing} → leaves reply t' ≡ make_list n m t by es → gives (listing reply) t' ≡ answer_to n m t (edit_all by es)
    unfolding answer_to
    list_carried by es done = ap (told listing) done

  -- a call that writes to no table
  kept : {A : Type 0} (answer : Reply A → Answer) {reply given : Reply A} {t' : Tables} → reply ≡ given → t' ≡ t → gives (answer reply) t ≡ gives (answer given) t'
  kept {A} answer is same = ap₂ (λ (r : Reply A) (u : Tables). gives (answer r) u) is (sym same)

  pub find_carried : (kind mark : ℕ) {reply : Reply Finding} → reply ≡ (calls.find n m t kind mark).reply → gives (finding reply) t ≡ answer_to n m t (find kind mark)
  unfolding answer_to
  find_carried kind mark is = kept finding is (find_keeps n m t kind mark)

  pub parties_carried : (kind mark : ℕ) {reply : Reply TwoKinds} → reply ≡ (calls.parties n m t kind mark).reply → gives (pairing reply) t ≡ answer_to n m t (parties kind mark)
  unfolding answer_to
  parties_carried kind mark is = kept pairing is (parties_keeps n m t kind mark)

  pub inspect_carried : {reply : Reply Fault} → reply ≡ (calls.inspect n m t).reply → gives (inspecting reply) t ≡ answer_to n m t inspect
  unfolding answer_to
  inspect_carried is = kept inspecting is (inspect_keeps n m t)
