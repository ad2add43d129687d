-- Refusals that a call on sound tables never answers by.
--     never_5, never_10    where the tables that a call is lent are sound, or do not fit its n and m, it answers neither by 5 nor by 10
--     sound_or_unfit       so it is for calls of any n and m on a book that has its lengths and is sound
--     list_never_stops     on any tables, a list stops at no edit by 1, 5, 10 or 13
-- Assumes nothing.
use mathlib.Core.Path.{◌≡◌, refl, sym, ap, ◌∙◌, subst}
use mathlib.Core.Bool.{Bool, true, false, ◌&&◌, ◌||◌, true≢false, and-eq-true_iff}
use mathlib.Core.Logic.{◌≢◌}
use mathlib.Core.List.{List}
use Prim.Native.Nat.{ℕ, ◌<◌}
use borrow.Author.Tests.{ltb-true, lt-ltb}
use lib.Dec.{eqb}
use Rattle.tables.specs.declared.Edit.{Edit}
use Rattle.tables.specs.Caller.{callers}
use Rattle.tables.specs.Reply.{Reply, refused, given, Listing, whole, stopped}
use Rattle.tables.specs.Tables.{Tables, shaped, links_right, sound, up_of}
use Rattle.tables.specs.Calls as calls
use Rattle.tables.specs.Calls.{Outcome, check, by_caller}
use Rattle.tables.specs.Lists.{Change, edit_outcome, counting, counted_in, begin_list, make_list}
use Rattle.tables.specs.Books.{Request, Call, Answer, RefusedBy, answer_to, outcome}
use Rattle.tables.specs.Lists.Change.{add_rule, take_rule, add_link, take_link}
use Rattle.tables.specs.Books.Request.{open_book, edit, edit_all, find, parties, inspect, refresh}
use Rattle.tables.proofs.BookLaws.{Consistent, consistent_shaped, consistent_sound, tested_consistent, same_size, edit_consistent}
use Rattle.tables.proofs.CallLaws.{check_cases, given_not_refused, entry_found}
use Rattle.tables.proofs.EditLaws.{passed}
use Rattle.tables.proofs.ListLaws.{run_cases, list_cases}
use Rattle.tables.proofs.SoundLaws.{mean_bytes, means_free}

-- ---- replies

-- 5 and 10; of an edit in a list that has begun, 1 and 13 too
abbrev rare : (begun : Bool) → ℕ → Bool
rare begun number = eqb number 5 || eqb number 10 || (eqb number 1 || eqb number 13) && begun

-- no refusal by one of these
abbrev Never : (begun : Bool) {A : Type 0} → Reply A → Type 0
Never begun reply = (number : ℕ) → reply ≡ refused number → rare begun number ≡ false

gives_never : (begun : Bool) {A : Type 0} {reply : Reply A} {a : A} → reply ≡ given a → Never begun reply
gives_never begun e number is = absurd (given_not_refused _ number (sym e ∙ is))

abbrev NeverIn : Answer → Type 0
NeverIn answer = (¬ RefusedBy 5 answer) × (¬ RefusedBy 10 answer)

never_in : {A : Type 0} (reply : Reply A) → Never false reply → (reply ≢ refused 5) × (reply ≢ refused 10)
never_in reply never = (λ five. true≢false (never 5 five), λ ten. true≢false (never 10 ten))

-- ---- checks

module _ {A : Type 0} (begun : Bool) (number : ℕ) (t : Tables) (next : Outcome A) (b : Bool) where
  -- a check of another number
  past : rare begun number ≡ false → (b ≡ true → Never begun next.reply) → Never begun (check number b t next).reply
  past other rest = check_cases number t next (λ o. Never begun o.reply) b (λ r is. let same : number ≡ r = cc in ap (rare begun) (sym same) ∙ other) rest

  -- a check that is passed
  through : b ≡ true → Never begun next.reply → Never begun (check number b t next).reply
  unfolding check
  through e rest = rw e rest

-- ---- edits

module _ (n m : ℕ) (t : Tables) (right : shaped n m t ≡ true → sound n m t ≡ true) (by : ℕ) where
  -- `first`: of the checks that every edit begins with
  module _ (begun : Bool) (first : (next : Outcome ℕ) → (shaped n m t ≡ true → Never begun next.reply) → Never begun (by_caller n m t by next).reply) where
    edit_rare : (e : Change) → Never begun (edit_outcome n m t by e).reply
    unfolding edit_outcome calls.add_rule calls.take_rule calls.add_link calls.take_link calls.accepted
    edit_rare (add_rule k j h) = first _ λ fits.
        past begun 2 t _ _ refl λ _. past begun 3 t _ _ refl λ _. past begun 4 t _ _ refl λ _. through begun 5 t _ _ (right fits) (gives_never begun refl)
    edit_rare (take_rule k j) = first _ λ fits.
        past begun 2 t _ _ refl λ _. past begun 3 t _ _ refl λ _. through begun 5 t _ _ (right fits) (past begun 6 t _ _ refl λ _. gives_never begun refl)
    edit_rare (add_link c p) = first _ λ fits.
        past begun 2 t _ _ refl λ _. through begun 5 t _ _ (right fits) (past begun 7 t _ _ refl λ _. past begun 9 t _ _ refl λ _. gives_never begun refl)
    edit_rare (take_link c p) = first _ λ fits.
        past begun 2 t _ _ refl λ _. through begun 5 t _ _ (right fits) (past begun 8 t _ _ refl λ _. gives_never begun refl)

  edit_never : (e : Change) → Never false (edit_outcome n m t by e).reply
  edit_never = edit_rare false λ next rest. past false 1 t _ _ refl λ fits. past false 13 t _ _ refl λ _. rest fits

  begun_never : shaped n m t ≡ true → by < callers → (e : Change) → Never true (edit_outcome n m t by e).reply
  begun_never fits known = edit_rare true λ next rest. through true 1 t _ _ fits (through true 13 t _ _ (lt-ltb by callers known) (rest fits))

-- ---- lists

module _ (n m by : ℕ) where
  -- where a list has begun, its caller is known and its book has its lengths and is sound; it stops at no edit by one of the rare numbers
  abbrev Standing : Tables → Reply Listing → Type 0
  Standing u (given (whole accepted changed)) = Consistent n m u × (by < callers)
  Standing u (given (stopped accepted changed number)) = rare true number ≡ false
  Standing u (refused number) = Unit {0}

  abbrev Stands : Outcome Listing → Type 0
  Stands o = Standing o.tables o.reply

  edit_stands : (accepted changed : ℕ) (u : Tables) (e : Change) → Consistent n m u × (by < callers) → Stands (counted_in accepted changed (edit_outcome n m u by e))
  edit_stands accepted changed u e (s, known) =
      go _ (edit_outcome n m u by e).reply (edit_consistent n m u s n m by e) (begun_never n m u (λ _. consistent_sound s) by (consistent_shaped s) known e)
    where
      go : (left : Tables) (reply : Reply ℕ) → Consistent n m left → Never true reply → Standing left (given (counting accepted changed reply))
      go left (given count) s' never = (s', known)
      go left (refused number) s' never = never number refl

  list_stands : (t : Tables) (es : List Edit) → Stands (make_list n m t by es)
  list_stands t es = list_cases n m t by es Stands (λ number. tt) λ begins.
      run_cases n m by Stands edit_stands (λ accepted changed u _. refl) es _ (tested_consistent n m t begins.fits begins.is_sound, begins.known)

  -- on any tables: these are tested before the first edit, and every edit keeps what was tested
  pub list_never_stops : (t : Tables) (es : List Edit) (accepted changed number : ℕ) → (make_list n m t by es).reply ≡ given (stopped accepted changed number)
      → (number ≢ 1) × (number ≢ 5) × (number ≢ 10) × (number ≢ 13)
  list_never_stops t es accepted changed number is =
      let usual : rare true number ≡ false = subst (Standing (make_list n m t by es).tables) is (list_stands t es) in
      let none : (r : ℕ) → rare true r ≡ true → number ≢ r = λ r is-rare same. true≢false (sym is-rare ∙ ap (rare true) (sym same) ∙ usual) in
      (none 1 refl, none 5 refl, none 10 refl, none 13 refl)

-- ---- calls

module _ (n m : ℕ) (t : Tables) (right : shaped n m t ≡ true → sound n m t ≡ true) where
  links_sound : shaped n m t ≡ true → links_right n t.links ≡ true
  links_sound fits =
      let before = (passed n m t fits (right fits)).before in
      (and-eq-true_iff _ _).1 (mean_bytes n t.links before.bytes, means_free n (up_of n t.links) before.acyclic)

  list_never : (by : ℕ) (es : List Edit) → Never false (make_list n m t by es).reply
  unfolding make_list begin_list
  list_never by es =
      run_cases n m by (λ o. Never false o.reply) (λ accepted changed u c _. gives_never false refl) (λ accepted changed u _. gives_never false refl) es _
      (past false 1 t _ _ refl λ fits. past false 13 t _ _ refl λ _. through false 5 t _ _ (right ((and-eq-true_iff (shaped n m t) _).0 fits).0) (gives_never false refl))

  answer_never : (r : Request) → NeverIn (answer_to n m t r).answer
  unfolding answer_to calls.open_book calls.find calls.parties calls.inspect calls.refresh
  answer_never open_book = never_in _ (past false 1 t _ _ refl λ _. gives_never false refl)
  answer_never (edit by e) = never_in _ (edit_never n m t right by e)
  answer_never (edit_all by es) = never_in _ (list_never by es)
  answer_never (find k j) = never_in _ (
      past false 1 t _ _ refl λ fits. past false 2 t _ _ refl λ hk. past false 3 t _ _ refl λ hj.
      gives_never false (entry_found n m t k j fits (ltb-true _ _ hk) (ltb-true _ _ hj) (right fits)))
  answer_never (parties k j) = never_in _ (
      past false 1 t _ _ refl λ fits. past false 2 t _ _ refl λ _. past false 3 t _ _ refl λ _. through false 5 t _ _ (right fits)
      (past false 11 t _ _ refl λ _. gives_never false refl))
  answer_never inspect = never_in _ (past false 1 t _ _ refl λ _. gives_never false refl)
  answer_never refresh = never_in _ (past false 1 t _ _ refl λ fits. through false 5 t _ _ (links_sound fits) (gives_never false refl))

-- ---- the laws

module _ (call : Call) (t : Tables) (right : shaped call.n call.m t ≡ true → sound call.n call.m t ≡ true) where
  pub never_5 : ¬ RefusedBy 5 (outcome call t).answer
  never_5 = (answer_never call.n call.m t right call.request).0

  pub never_10 : ¬ RefusedBy 10 (outcome call t).answer
  never_10 = (answer_never call.n call.m t right call.request).1

-- such tables, for a call of any n and m, are those of a book that has its lengths and is sound
pub sound_or_unfit : (n m : ℕ) (t : Tables) → Consistent n m t → (n' m' : ℕ) → shaped n' m' t ≡ true → sound n' m' t ≡ true
sound_or_unfit n m t s n' m' fits =
    let (n-same, m-same) = same_size n m t s n' m' fits in
    rw (n-same, m-same) (consistent_sound s)
