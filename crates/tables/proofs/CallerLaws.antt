-- What it means that an edit names its caller, on any tables.
--     caller_refused    an edit that names no caller, on tables that have their lengths, is refused by 13, whatever else it names and the tables hold
--     caller_known      an edit that names a caller is never refused by 13
--     others_kept       an edit moves no other caller's number of the tally, accepted or refused
--     tally_kept        a call that names no caller and is no open leaves the tally
--     list_caller_refused, list_others_kept    the first and the third of these, of a list of edits
-- Assumes nothing.
use mathlib.Core.Path.{◌≡◌, refl, ap, ◌∙◌}
use mathlib.Core.Bool.{Bool, true, false}
use mathlib.Core.List.{List}
use mathlib.Core.Logic.{◌≢◌}
use Prim.Native.Nat.{ℕ, ◌≤◌, ◌<◌}
use borrow.Author.Tests.{eqb-false, lt-ltb, le-leb, le-ltb}
use lib.Dec.{eqb, ltb}
use lib.ListN.{length, get_or}
use lib.Seq.{get_or-set_other}
use Rattle.tables.specs.declared.Edit.{Edit}
use Rattle.tables.specs.Caller.{callers}
use Rattle.tables.specs.Reply.{refused}
use Rattle.tables.specs.Tables.{Tables, shaped, tallied}
use Rattle.tables.specs.Calls as calls
use Rattle.tables.specs.Calls.{Outcome, leaves, check, by_caller}
use Rattle.tables.specs.Lists.{Change, edit_outcome, begin_list, make_list}
use Rattle.tables.specs.Books.{Request, answer_to}
use Rattle.tables.specs.Lists.Change.{add_rule, take_rule, add_link, take_link}
use Rattle.tables.specs.Books.Request.{open_book, edit, edit_all, find, parties, inspect, refresh}
use Rattle.tables.proofs.CallLaws.{given_not_refused, check_cases, check_holds, find_keeps, parties_keeps, inspect_keeps}
use Rattle.tables.proofs.ListLaws.{edit_cases, run_stays, list_keeps}

module _ (n m : ℕ) (t : Tables) (caller : ℕ) where
  none_such : {A : Type 0} (next : Outcome A) → shaped n m t ≡ true → callers ≤ caller → by_caller n m t caller next ≡ leaves (refused 13) t
  unfolding check
  none_such next fits past = rw (fits, le-ltb caller callers past) refl

  pub caller_refused : (e : Change) → shaped n m t ≡ true → callers ≤ caller → edit_outcome n m t caller e ≡ leaves (refused 13) t
  unfolding edit_outcome calls.add_rule calls.take_rule calls.add_link calls.take_link
  caller_refused (add_rule k j h) = none_such _
  caller_refused (take_rule k j) = none_such _
  caller_refused (add_link c p) = none_such _
  caller_refused (take_link c p) = none_such _

  pub list_caller_refused : (es : List Edit) → shaped n m t ≡ true → length es ≤ 4096 → callers ≤ caller → make_list n m t caller es ≡ leaves (refused 13) t
  unfolding make_list begin_list check
  list_caller_refused es fits short past = rw (fits, le-leb (length es) 4096 short, le-ltb caller callers past) (run_stays n m caller (refused 13) (λ e u. refl) es t)

  -- ---- never by 13

  abbrev Not13 : Outcome ℕ → Type 0
  Not13 o = o.reply ≢ refused 13

  -- a check of another number
  past : (number : ℕ) (b : Bool) (next : Outcome ℕ) → eqb number 13 ≡ false → Not13 next → Not13 (check number b t next)
  past number b next other rest = check_cases number t next Not13 b (λ e. eqb-false number 13 other (let same : number ≡ 13 = cc in same)) (λ _. rest)

  known : (next : Outcome ℕ) → caller < callers → Not13 next → Not13 (by_caller n m t caller next)
  unfolding check
  known next low rest = past 1 (shaped n m t) (check 13 (ltb caller callers) t next) refl (rw (lt-ltb caller callers low) rest)

  accepted_not : (links rules : List ℕ) → Not13 (calls.accepted n m t caller links rules)
  unfolding calls.accepted
  accepted_not links rules = given_not_refused _ 13

  pub caller_known : (e : Change) → caller < callers → (edit_outcome n m t caller e).reply ≢ refused 13
  unfolding edit_outcome calls.add_rule calls.take_rule calls.add_link calls.take_link
  caller_known (add_rule k j h) low = known _ low (past 2 _ _ refl (past 3 _ _ refl (past 4 _ _ refl (past 5 _ _ refl (accepted_not _ _)))))
  caller_known (take_rule k j) low = known _ low (past 2 _ _ refl (past 3 _ _ refl (past 5 _ _ refl (past 6 _ _ refl (accepted_not _ _)))))
  caller_known (add_link c p) low = known _ low (past 2 _ _ refl (past 5 _ _ refl (past 7 _ _ refl (past 9 _ _ refl (accepted_not _ _)))))
  caller_known (take_link c p) low = known _ low (past 2 _ _ refl (past 5 _ _ refl (past 8 _ _ refl (accepted_not _ _))))

-- ---- the tally

module _ (n m : ℕ) (t : Tables) where
  module _ (by c : ℕ) (other : c ≢ by) where
    abbrev Same : Tables → Type 0
    Same t' = get_or t'.tally c 0 ≡ get_or t.tally c 0

    accepted_same : (links rules : List ℕ) → Same (calls.accepted n m t by links rules).tables
    unfolding calls.accepted tallied
    accepted_same links rules = get_or-set_other t.tally by c _ 0 other

    pub others_kept : (e : Change) → Same (edit_outcome n m t by e).tables
    others_kept = edit_cases n m t by (λ o. Same o.tables) (λ number. refl) (λ links rules _. accepted_same links rules)

  abbrev Kept : Tables → Type 0
  Kept t' = t'.tally ≡ t.tally

  pub tally_kept : (r : Request) → r ≢ open_book → ((by : ℕ) (e : Change) → r ≢ edit by e) → ((by : ℕ) (es : List Edit) → r ≢ edit_all by es)
      → Kept (answer_to n m t r).tables
  unfolding answer_to calls.refresh
  tally_kept open_book no-open no-edit no-list = absurd (no-open refl)
  tally_kept (edit by e) no-open no-edit no-list = absurd (no-edit by e refl)
  tally_kept (edit_all by es) no-open no-edit no-list = absurd (no-list by es refl)
  tally_kept (find k j) no-open no-edit no-list = ap (λ (t' : Tables). t'.tally) (find_keeps n m t k j)
  tally_kept (parties k j) no-open no-edit no-list = ap (λ (t' : Tables). t'.tally) (parties_keeps n m t k j)
  tally_kept inspect no-open no-edit no-list = ap (λ (t' : Tables). t'.tally) (inspect_keeps n m t)
  tally_kept refresh no-open no-edit no-list = check_holds 1 t _ Kept _ refl λ _. check_holds 5 t _ Kept _ refl λ _. refl

pub list_others_kept : (n m : ℕ) (t : Tables) (by c : ℕ) → c ≢ by → (es : List Edit) → get_or (make_list n m t by es).tables.tally c 0 ≡ get_or t.tally c 0
list_others_kept n m t by c other = list_keeps n m t by (λ u. get_or u.tally c 0 ≡ get_or t.tally c 0) (λ u e so_far. others_kept n m u by c other e ∙ so_far) refl
