-- The tally of a book after one call: each caller's number is the count of that caller's edits accepted since the last accepted open, or
-- 4,294,967,295 where there were more, if it was so before the call.
--     request_counts           of every request
--     none_more, one_more      of a call that answers as an edit does, refused or accepted
-- Assumes nothing.
use mathlib.Core.Path.{◌≡◌, refl, sym, ap, ◌∙◌}
use mathlib.Core.Bool.{Bool, true, false}
use mathlib.Core.List.{List}
use mathlib.Core.Logic.{◌≢◌, by_cases}
use Prim.Native.Nat.{ℕ, ◌+◌, ◌<◌, min}
use native.Mathlib.Decide.{dec_lt, ℕ_discrete}
use native.Mathlib.Omega.{arith}
use borrow.Author.Tests.{eq-eqb, ne_eqb}
use lib.ListN.{get_or, set}
use lib.Seq.{get_or-set_same, get_or-set_other}
use Rattle.tables.specs.declared.Edit.{Edit}
use Rattle.tables.specs.Caller.{callers}
use Rattle.tables.specs.Reply.{Reply, refused, given, Listing, whole}
use Rattle.tables.specs.Tables.{Tables, saturated, tallied}
use Rattle.tables.specs.Calls as calls
use Rattle.tables.specs.Calls.{Outcome, leaves}
use Rattle.tables.specs.Lists.{Change, edit_outcome, counting, make_list}
use Rattle.tables.specs.Books.{Request, Answer, answer_to, opening, editing, listing, edits_made, with_edits, counted_by}
use Rattle.tables.specs.Books.Request.{open_book, edit, edit_all, find, parties, inspect, refresh}
use Rattle.tables.proofs.BookLaws.{zeros_at, Consistent, edit_consistent}
use Rattle.tables.proofs.CallLaws.{check_cases, find_keeps, parties_keeps, inspect_keeps}
use Rattle.tables.proofs.ListLaws.{edit_cases, run_cases, list_cases}
use Rattle.tables.proofs.TableLaws.{saturated_next, saturated_full}

abbrev most : ℕ
most = 4294967295

saturated_min : (x count : ℕ) → x ≡ min most count → saturated x ≡ min most (count + 1)
saturated_min x count e = by_cases (dec_lt x most) (λ h. omega (arith, saturated_next x h)) (λ h. omega (arith, saturated_full x (omega arith)))

-- ---- edits that someone made

-- by the caller, or by another
abbrev more_by : (same : Bool) (made count : ℕ) → ℕ
more_by same made count = elim same [ true ↦ count + made | false ↦ count ]

module _ (caller by : ℕ) where
  others_uncounted : by ≢ caller → (made count : ℕ) → with_edits caller by made count ≡ count
  others_uncounted other made count = ap (λ (same : Bool). more_by same made count) (ne_eqb by caller other)

  own_counted : by ≡ caller → (made count : ℕ) → with_edits caller by made count ≡ count + made
  own_counted same made count = ap (λ (same : Bool). more_by same made count) (eq-eqb by caller same)

  -- none, and some and then some more
  edits_none : (count : ℕ) → with_edits caller by 0 count ≡ count
  edits_none count = by_cases (ℕ_discrete by caller) (λ same. omega (arith, own_counted same 0 count)) (λ other. others_uncounted other 0 count)

  edits_add : (made more count : ℕ) → with_edits caller by more (with_edits caller by made count) ≡ with_edits caller by (made + more) count
  edits_add made more count = by_cases (ℕ_discrete by caller)
      (λ same. omega (arith, own_counted same more (with_edits caller by made count), own_counted same made count, own_counted same (made + more) count))
      (λ other. others_uncounted other more _ ∙ others_uncounted other made count ∙ sym (others_uncounted other (made + more) count))

-- ---- one call

module _ (n m : ℕ) (t : Tables) (s : Consistent n m t) (caller count : ℕ) (so_far : get_or t.tally caller 0 ≡ min most count) where
  module _ (by : ℕ) where
    -- the caller's number after an edit
    abbrev EditCounts : Outcome ℕ → Type 0
    EditCounts o = get_or o.tables.tally caller 0 ≡ min most (with_edits caller by (edits_made (editing o.reply)) count)

    -- a refused edit
    pub none_more : get_or t.tally caller 0 ≡ min most (with_edits caller by 0 count)
    none_more = so_far ∙ ap (min most) (sym (edits_none caller by count))

    -- an accepted edit, whatever else it leaves
    pub one_more : by < callers → get_or (tallied by t.tally) caller 0 ≡ min most (with_edits caller by 1 count)
    unfolding tallied
    one_more known = by_cases (ℕ_discrete by caller)
        (λ same.
        ap (λ (c : ℕ). get_or (set t.tally c (saturated (get_or t.tally c 0))) caller 0) same
        ∙ get_or-set_same t.tally caller _ 0 (omega (arith, known, s.lengths.tally_length))
        ∙ saturated_min (get_or t.tally caller 0) count so_far ∙ ap (min most) (sym (own_counted caller by same 1 count)))
        (λ other. get_or-set_other t.tally by caller _ 0 (λ same. other (sym same)) ∙ so_far ∙ ap (min most) (sym (others_uncounted caller by other 1 count)))

    accepted_counts : (n' m' : ℕ) (links rules : List ℕ) → by < callers → EditCounts (calls.accepted n' m' t by links rules)
    unfolding calls.accepted
    accepted_counts n' m' links rules = one_more

    edit_counts : (n' m' : ℕ) (e : Change) → EditCounts (edit_outcome n' m' t by e)
    edit_counts n' m' = edit_cases n' m' t by EditCounts (λ number. none_more) (λ links rules p. accepted_counts n' m' links rules p.known)

-- ---- a list of edits

-- an edit that is counted in is one made more, a refused one none
made_more : (accepted changed : ℕ) (reply : Reply ℕ) → accepted + edits_made (editing reply) ≡ edits_made (listing (given (counting accepted changed reply)))
made_more accepted changed (given count) = refl
made_more accepted changed (refused number) = omega arith

module _ (n m : ℕ) (t : Tables) (s : Consistent n m t) (caller count : ℕ) (so_far : get_or t.tally caller 0 ≡ min most count) where
  module _ (by n' m' : ℕ) where
    -- where a list stands: the edits that its reply says were made are counted
    abbrev ListCounts : Outcome Listing → Type 0
    ListCounts o = Consistent n m o.tables × (get_or o.tables.tally caller 0 ≡ min most (with_edits caller by (edits_made (listing o.reply)) count))

    list_counts : (es : List Edit) → ListCounts (make_list n' m' t by es)
    list_counts es =
        let begun : ListCounts (leaves (given (whole 0 0)) t) = (s, none_more n m t s caller count so_far by) in
        list_cases n' m' t by es ListCounts (λ number. begun) λ _.
        run_cases n' m' by ListCounts
        (λ accepted changed u e (s', so-far'). (
          edit_consistent n m u s' n' m' by e,
          edit_counts n m u s' caller (with_edits caller by accepted count) so-far' by n' m' e
              ∙ ap (min most) (edits_add caller by accepted (edits_made (editing (edit_outcome n' m' u by e).reply)) count
              ∙ ap (λ (made : ℕ). with_edits caller by made count) (made_more accepted changed (edit_outcome n' m' u by e).reply)),
        ))
        (λ accepted changed u so-far'. so-far') es _ begun

  -- the caller's number after a call
  abbrev Counts : Request → Answer → Tables → Type 0
  Counts r answer left = get_or left.tally caller 0 ≡ min most (counted_by caller r answer count)

  pub request_counts : (n' m' : ℕ) (r : Request) → Counts r (answer_to n' m' t r).answer (answer_to n' m' t r).tables
  unfolding answer_to calls.open_book calls.inspect calls.refresh
  request_counts n' m' open_book = check_cases 1 t _ (λ o. Counts open_book (opening o.reply) o.tables) _ so_far λ _. zeros_at callers caller
  request_counts n' m' (edit by e) = edit_counts n m t s caller count so_far by n' m' e
  request_counts n' m' (edit_all by es) = (list_counts by n' m' es).1
  request_counts n' m' (find k j) = rw (find_keeps n' m' t k j) so_far
  request_counts n' m' (parties k j) = rw (parties_keeps n' m' t k j) so_far
  request_counts n' m' inspect = rw (inspect_keeps n' m' t) so_far
  request_counts n' m' refresh =
      let P : Outcome ℕ → Type 0 = λ o. Counts refresh (editing o.reply) o.tables in
      check_cases 1 t _ P _ so_far λ _. check_cases 5 t _ P _ so_far λ _. so_far
