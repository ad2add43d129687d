-- What a call answers and leaves does not depend on what the tally holds, but for the tally itself.
--     request_alike    of the ten calls that the store is not lent to: the same answer, and such tables again
--     save_alike, return_alike    of a save and of a return
-- Assumes nothing.
use mathlib.Core.Path.{◌≡◌, refl, sym, ap, ◌∙◌, subst}
use mathlib.Core.Bool.{Bool, true, false, ◌&&◌}
use mathlib.Core.List.{List}
use Prim.Native.Nat.{ℕ}
use lib.Dec.{ltb}
use lib.ListN.{length}
use Rattle.tables.specs.declared.Edit.{Edit}
use Rattle.tables.specs.Reply.{Reply, refused, given, Listing, whole, stopped}
use Rattle.tables.specs.Tables.{Tables, sized, shaped, sound, tallied}
use Rattle.tables.specs.Calls as calls
use Rattle.tables.specs.Calls.{Outcome, leaves, check}
use Rattle.tables.specs.Lists.{Change, edit_outcome, change_in, if_change, record_outcome, counting, onward, next_edit, begin_list, make_list}
use Rattle.tables.specs.Books.{Request, Answer, Result, told, answer_to, opening, editing, finding, pairing, inspecting, listing}
use Rattle.tables.specs.Lists.Change.{add_rule, take_rule, add_link, take_link}
use Rattle.tables.specs.Books.Request.{open_book, edit, edit_all, find, parties, inspect, refresh}
use Rattle.tables.proofs.ListLaws.{run_relates}
use Rattle.tables.proofs.TableLaws.{length_tallied}
use Rattle.stores.specs.Name.{names}
use Rattle.stores.specs.Store.{Store, stored, state_at, saving, save, return_to}
use Rattle.stores.specs.StoreSteps.{with_tally, SameButTally}

-- the same reply, and such tables
pub record LikeOutcomes {A : Type 0} (o o' : Outcome A) : Type 0 where
  pub reply_same : o.reply ≡ o'.reply
  pub tables_like : SameButTally o.tables o'.tables

-- where the tests are the same, the refusals are alike, so only the rest counts
check_alike : {A : Type 0} (number : ℕ) (t u : Tables) (next next' : Outcome A) (b b' : Bool) → b ≡ b' → SameButTally t u → LikeOutcomes next next'
    → LikeOutcomes (check number b t next) (check number b' u next')
check_alike number t u next next' b b' same like rest = subst (λ (x : Bool). LikeOutcomes (check number b t next) (check number x u next')) same (go b)
  where
    go : (b : Bool) → LikeOutcomes (check number b t next) (check number b u next')
    go true = unfold check in rest
    go false = unfold check in record { reply_same = refl; tables_like = like }

-- ---- one call, where the tally alone is another

module _ (t : Tables) (tally : List ℕ) (lengths : length t.tally ≡ length tally) where
  abbrev other : Tables
  other = with_tally t tally

  itself : SameButTally t other
  itself = record { same = refl; tally_length = lengths }

  shape_same : (n m : ℕ) → shaped n m t ≡ shaped n m other
  shape_same n m = ap (λ (k : ℕ). sized 1 1 n m (length t.links) (length t.rules) (length t.entries) k (length t.disputes)) lengths

  -- every other test reads no tally
  module _ {A : Type 0} {next next' : Outcome A} where
    first : (n m : ℕ) → LikeOutcomes next next' → LikeOutcomes (check 1 (shaped n m t) t next) (check 1 (shaped n m other) other next')
    first n m = check_alike 1 t other next next' _ _ (shape_same n m) itself

    first_both : (n m : ℕ) (b : Bool) → LikeOutcomes next next'
        → LikeOutcomes (check 1 (shaped n m t && b) t next) (check 1 (shaped n m other && b) other next')
    first_both n m b = check_alike 1 t other next next' _ _ (ap (λ (x : Bool). x && b) (shape_same n m)) itself

    past : (number : ℕ) (b : Bool) → LikeOutcomes next next' → LikeOutcomes (check number b t next) (check number b other next')
    past number b = check_alike number t other next next' b b refl itself

  -- a call that writes to no table
  leaves_alike : {A : Type 0} (reply : Reply A) → LikeOutcomes (leaves reply t) (leaves reply other)
  leaves_alike reply = record { reply_same = refl; tables_like = itself }

  tallied_lengths : (by : ℕ) → length (tallied by t.tally) ≡ length (tallied by tally)
  tallied_lengths by = length_tallied by t.tally ∙ lengths ∙ sym (length_tallied by tally)

  accepted_alike : (n m by : ℕ) (links rules : List ℕ) → LikeOutcomes (calls.accepted n m t by links rules) (calls.accepted n m other by links rules)
  unfolding calls.accepted
  accepted_alike n m by links rules = record { reply_same = refl; tables_like = record { same = refl; tally_length = tallied_lengths by } }

  edit_alike : (n m by : ℕ) (e : Change) → LikeOutcomes (edit_outcome n m t by e) (edit_outcome n m other by e)
  unfolding edit_outcome calls.add_rule calls.take_rule calls.add_link calls.take_link sound
  edit_alike n m by (add_rule k j h) = first n m (past 13 _ (past 2 _ (past 3 _ (past 4 _ (past 5 _ (accepted_alike n m by _ _))))))
  edit_alike n m by (take_rule k j) = first n m (past 13 _ (past 2 _ (past 3 _ (past 5 _ (past 6 _ (accepted_alike n m by _ _))))))
  edit_alike n m by (add_link c p) = first n m (past 13 _ (past 2 _ (past 5 _ (past 7 _ (past 9 _ (accepted_alike n m by _ _))))))
  edit_alike n m by (take_link c p) = first n m (past 13 _ (past 2 _ (past 5 _ (past 8 _ (accepted_alike n m by _ _)))))

  -- the start of a list of edits
  begin_alike : (n m by records : ℕ) → LikeOutcomes (begin_list n m t by records) (begin_list n m other by records)
  unfolding begin_list sound
  begin_alike n m by records = first_both n m _ (past 13 _ (past 5 _ (leaves_alike _)))

  open_alike : (n m : ℕ) → LikeOutcomes (calls.open_book n m t) (calls.open_book n m other)
  unfolding calls.open_book
  open_alike n m = first n m (record { reply_same = refl; tables_like = record { same = refl; tally_length = refl } })

  find_alike : (n m k j : ℕ) → LikeOutcomes (calls.find n m t k j) (calls.find n m other k j)
  unfolding calls.find
  find_alike n m k j = first n m (past 2 _ (past 3 _ (leaves_alike _)))

  parties_alike : (n m k j : ℕ) → LikeOutcomes (calls.parties n m t k j) (calls.parties n m other k j)
  unfolding calls.parties sound
  parties_alike n m k j = first n m (past 2 _ (past 3 _ (past 5 _ (past 11 _ (leaves_alike _)))))

  inspect_alike : (n m : ℕ) → LikeOutcomes (calls.inspect n m t) (calls.inspect n m other)
  unfolding calls.inspect calls.fault_of
  inspect_alike n m = first n m (leaves_alike _)

  refresh_alike : (n m : ℕ) → LikeOutcomes (calls.refresh n m t) (calls.refresh n m other)
  unfolding calls.refresh
  refresh_alike n m = first n m (past 5 _ (record { reply_same = refl; tables_like = record { same = refl; tally_length = lengths } }))

  saves_same : (n m : ℕ) (s : Store) (name : ℕ) → save n m t s name ≡ save n m other s name
  unfolding save saving
  saves_same n m s name =
      ap (λ (x : Bool). check 1 (x && stored n m s) s (check 14 (ltb name names) s (leaves (given tt) (saving n m t s name)))) (shape_same n m)

  returns_alike : (n m : ℕ) (s : Store) (by name : ℕ) → LikeOutcomes (return_to n m t s by name) (return_to n m other s by name)
  unfolding return_to state_at sound
  returns_alike n m s by name =
      first_both n m _ (past 13 _ (past 14 _ (past 15 _ (past 5 _
      (record { reply_same = refl; tables_like = record { same = refl; tally_length = tallied_lengths by } })))))

-- ---- a list of edits

module _ (n m by : ℕ) where
  change_alike : (t u : Tables) → SameButTally t u → (c : Reply Change) → LikeOutcomes (if_change n m t by c) (if_change n m u by c)
  change_alike t u like (given c) =
      subst (λ (x : Tables). LikeOutcomes (edit_outcome n m t by c) (edit_outcome n m x by c)) (sym like.same)
      (edit_alike t u.tally like.tally_length n m by c)
  change_alike t u like (refused number) = record { reply_same = refl; tables_like = like }

  -- by where the list stands, which is the same of both
  onward_alike : (e : Edit) (t u : Tables) → SameButTally t u → (reply : Reply Listing) → LikeOutcomes (onward n m by e t reply) (onward n m by e u reply)
  unfolding record_outcome
  onward_alike e t u like (given (whole accepted changed)) =
      let rest = change_alike t u like (change_in e) in
      record { reply_same = ap (λ (r : Reply ℕ). given (counting accepted changed r)) rest.reply_same; tables_like = rest.tables_like }
  onward_alike e t u like (given (stopped accepted changed number)) = record { reply_same = refl; tables_like = like }
  onward_alike e t u like (refused number) = record { reply_same = refl; tables_like = like }

  turn_alike : (e : Edit) (o o' : Outcome Listing) → LikeOutcomes o o' → LikeOutcomes (next_edit n m by e o) (next_edit n m by e o')
  unfolding next_edit
  turn_alike e o o' like =
      subst (λ (r : Reply Listing). LikeOutcomes (onward n m by e o.tables o.reply) (onward n m by e o'.tables r)) like.reply_same
      (onward_alike e o.tables o'.tables like.tables_like o.reply)

-- ---- requests

pub record LikeResults (r r' : Result) : Type 0 where
  pub answer_same : r.answer ≡ r'.answer
  pub tables_like : SameButTally r.tables r'.tables

told_alike : {A : Type 0} (answer : Reply A → Answer) (o o' : Outcome A) → LikeOutcomes o o' → LikeResults (told answer o) (told answer o')
told_alike answer o o' like = record { answer_same = ap answer like.reply_same; tables_like = like.tables_like }

module _ (t : Tables) (tally : List ℕ) (lengths : length t.tally ≡ length tally) where
  list_alike : (n m by : ℕ) (es : List Edit) → LikeOutcomes (make_list n m t by es) (make_list n m (with_tally t tally) by es)
  unfolding make_list
  list_alike n m by es = run_relates (next_edit n m by) LikeOutcomes (turn_alike n m by) es _ _ (begin_alike t tally lengths n m by (length es))

  answer_alike : (n m : ℕ) (r : Request) → LikeResults (answer_to n m t r) (answer_to n m (with_tally t tally) r)
  unfolding answer_to
  answer_alike n m open_book = told_alike opening _ _ (open_alike t tally lengths n m)
  answer_alike n m (edit by e) = told_alike editing _ _ (edit_alike t tally lengths n m by e)
  answer_alike n m (edit_all by es) = told_alike listing _ _ (list_alike n m by es)
  answer_alike n m (find k j) = told_alike finding _ _ (find_alike t tally lengths n m k j)
  answer_alike n m (parties k j) = told_alike pairing _ _ (parties_alike t tally lengths n m k j)
  answer_alike n m inspect = told_alike inspecting _ _ (inspect_alike t tally lengths n m)
  answer_alike n m refresh = told_alike editing _ _ (refresh_alike t tally lengths n m)

-- ---- the laws

module _ (n m : ℕ) (t u : Tables) (like : SameButTally t u) where
  pub request_alike : (r : Request) → LikeResults (answer_to n m t r) (answer_to n m u r)
  request_alike r =
      subst (λ (x : Tables). LikeResults (answer_to n m t r) (answer_to n m x r)) (sym like.same) (answer_alike t u.tally like.tally_length n m r)

  pub save_alike : (s : Store) (name : ℕ) → save n m t s name ≡ save n m u s name
  save_alike s name = saves_same t u.tally like.tally_length n m s name ∙ ap (λ (x : Tables). save n m x s name) (sym like.same)

  pub return_alike : (s : Store) (by name : ℕ) → LikeOutcomes (return_to n m t s by name) (return_to n m u s by name)
  return_alike s by name =
      subst (λ (x : Tables). LikeOutcomes (return_to n m t s by name) (return_to n m x s by name)) (sym like.same)
      (returns_alike t u.tally like.tally_length n m s by name)
