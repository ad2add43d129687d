-- What a list of calls leaves of a book and of its store.
--     call_keeps, save_keeps, return_keeps    the ten calls and a return leave the store, a save leaves the book
--     lengths_kept                 no call changes the length of a table, whatever it is lent and answers; run_lengths: nor does a list of calls
--     shaped_same, stored_same     so a book and its store have their lengths for some n and m after it exactly if they had them before
--     state_is_last_saved          after a list the state with a name is the one that the last accepted save under it found
--     tally_long                   .. and the tables that it found have a tally of the book's length
-- Assumes nothing.
use mathlib.Core.Path.{◌≡◌, refl, sym, ap, ◌∙◌, subst}
use mathlib.Core.Bool.{Bool, true, false, ◌&&◌}
use mathlib.Core.List.{List, [], ◌∷◌}
use Prim.Native.Nat.{ℕ, ◌*◌, ◌<◌}
use native.Mathlib.Omega.{arith}
use borrow.Author.Tests.{eqb-true, eqb-false}
use lib.Dec.{eqb}
use lib.ListN.{length, get_or}
use Rattle.tables.specs.Caller.{callers}
use Rattle.tables.specs.Tables.{Tables, lent, sized, shaped, LengthsOf, up_of, entries_of, disputes_of, tallied}
use Rattle.tables.specs.Calls as calls
use Rattle.tables.specs.Lists.{Change, edit_outcome, run}
use Rattle.tables.specs.Books.{Request, Call, answer_to, is_given}
use Rattle.tables.specs.Books.Request.{open_book, edit, edit_all, find, parties, inspect, refresh}
use Rattle.tables.proofs.BookLaws.{one_size}
use Rattle.tables.proofs.CallLaws.{check_holds, find_keeps, parties_keeps, inspect_keeps}
use Rattle.tables.proofs.DisputeLaws.{length_disputes}
use Rattle.tables.proofs.ListLaws.{run_keeps, Passes, edit_cases, list_keeps}
use Rattle.tables.proofs.ShapeLaws.{sized_facts, zeros_lengths}
use Rattle.tables.proofs.SoundLaws.{length_entries_of}
use Rattle.tables.proofs.TableLaws.{length_tallied}
use Rattle.stores.specs.Name.{names}
use Rattle.stores.specs.Store as store
use Rattle.stores.specs.Store.{Store, stored, state_at, saving}
use Rattle.stores.specs.StoreSteps.{StateIs, SaveMade}
use Rattle.stores.specs.StoredBooks.{StoredBook, StoredCall, after_call, saved_by, saved_last}
use Rattle.stores.specs.StoredBooks.StoredCall.{on_tables, save, return_to}
use Rattle.stores.proofs.StoreLaws.{StoreLengths, stored_facts, save_cases, return_cases, saving_lengths, saving_saves, state_lengths}

-- ---- lengths

abbrev lengths : Tables → List ℕ
lengths t = length t.links ∷ length t.rules ∷ length t.entries ∷ length t.tally ∷ length t.disputes ∷ []

abbrev store_lengths : Store → List ℕ
store_lengths s = length s.flags ∷ length s.links ∷ length s.rules ∷ length s.entries ∷ length s.disputes ∷ []

-- those of any tables that fit n and m, and of any store
lengths_are : (n m : ℕ) (t : Tables) → LengthsOf n m t → lengths t ≡ n * n ∷ n * m ∷ n * m ∷ callers ∷ m ∷ []
lengths_are n m t l =
    let once : (x size : ℕ) → x ≡ 1 * size → x ≡ size = λ x size e. omega arith in
    let rules = once (length t.rules) (n * m) l.rules_length in
    let entries = once (length t.entries) (n * m) l.entries_length in
    let disputes = once (length t.disputes) m l.disputes_length in
    λ i. l.links_length i ∷ rules i ∷ entries i ∷ l.tally_length i ∷ disputes i ∷ []

store_lengths_are : (n m : ℕ) (s : Store) → StoreLengths n m s
    → store_lengths s ≡ names ∷ names * (n * n) ∷ names * (n * m) ∷ names * (n * m) ∷ names * m ∷ []
store_lengths_are n m s l = λ i. l.flags_length i ∷ l.links_length i ∷ l.rules_length i ∷ l.entries_length i ∷ l.disputes_length i ∷ []

both_lengths : (n m : ℕ) (t t' : Tables) → LengthsOf n m t → LengthsOf n m t' → lengths t' ≡ lengths t
both_lengths n m t t' before after = lengths_are n m t' after ∙ sym (lengths_are n m t before)

-- ---- a call on the tables alone

module _ (n m : ℕ) (t : Tables) where
  abbrev Stays : Tables → Type 0
  Stays t' = lengths t' ≡ lengths t

  -- entries worked out anew, and their dispute counts, where the call's n and m fit the book
  worked_anew : (links rules tally : List ℕ) → shaped n m t ≡ true
      → length links ≡ length t.links → length rules ≡ length t.rules → length tally ≡ length t.tally
      → let entries = entries_of n m (up_of n links) rules in Stays (lent links rules entries tally (disputes_of n m entries))
  worked_anew links rules tally fits same-links same-rules same-tally =
      let book = sized_facts 1 1 n m _ _ _ _ _ fits in
      let entries = entries_of n m (up_of n links) rules in
      let same_entries : length entries ≡ length t.entries = omega (arith, length_entries_of n m (up_of n links) rules, book.entries_length) in
      let same-disputes : length (disputes_of n m entries) ≡ length t.disputes = omega (arith, length_disputes n m entries, book.disputes_length) in
      λ i. same-links i ∷ same-rules i ∷ same_entries i ∷ same-tally i ∷ same-disputes i ∷ []

  accepted_lengths : (by : ℕ) (links rules : List ℕ) → Passes n m t by links rules → Stays (calls.accepted n m t by links rules).tables
  unfolding calls.accepted
  accepted_lengths by links rules p = worked_anew links rules (tallied by t.tally) p.fits p.links_length p.rules_length (length_tallied by t.tally)

  edit_lengths : (by : ℕ) (e : Change) → Stays (edit_outcome n m t by e).tables
  edit_lengths by = edit_cases n m t by (λ o. Stays o.tables) (λ number. refl) (accepted_lengths by)

request_lengths : (n m : ℕ) (t : Tables) (r : Request) → lengths (answer_to n m t r).tables ≡ lengths t
unfolding answer_to calls.open_book calls.refresh
request_lengths n m t open_book = check_holds 1 t _ (Stays n m t) _ refl λ fits.
    let book = sized_facts 1 1 n m _ _ _ _ _ fits in both_lengths n m t (calls.zeros n m) book (zeros_lengths n m t book)
request_lengths n m t (edit by e) = edit_lengths n m t by e
request_lengths n m t (edit_all by es) = list_keeps n m t by (Stays n m t) (λ u e so_far. edit_lengths n m u by e ∙ so_far) refl es
request_lengths n m t (find k j) = ap lengths (find_keeps n m t k j)
request_lengths n m t (parties k j) = ap lengths (parties_keeps n m t k j)
request_lengths n m t inspect = ap lengths (inspect_keeps n m t)
request_lengths n m t refresh =
    check_holds 1 t _ (Stays n m t) _ refl λ fits. check_holds 5 t _ (Stays n m t) _ refl λ _. worked_anew n m t t.links t.rules t.tally fits refl refl refl

-- ---- save and return

save_lengths : (n m : ℕ) (t : Tables) (s : Store) (name : ℕ) → store_lengths (store.save n m t s name).tables ≡ store_lengths s
save_lengths n m t s name = save_cases n m t s name (λ o. store_lengths o.tables ≡ store_lengths s) (λ number. refl) λ p.
    store_lengths_are n m (saving n m t s name) (saving_lengths n m t s name p.fits p.held p.low)
    ∙ sym (store_lengths_are n m s (stored_facts n m s p.held))

return_lengths : (n m : ℕ) (t : Tables) (s : Store) (caller name : ℕ) → lengths (store.return_to n m t s caller name).tables ≡ lengths t
return_lengths n m t s caller name = return_cases n m t s caller name (λ o. lengths o.tables ≡ lengths t) (λ number. refl) λ p.
    let tally = tallied caller t.tally in
    both_lengths n m t (state_at n m s name tally) (sized_facts 1 1 n m _ _ _ _ _ p.fits)
    (state_lengths n m t s name p.fits p.held p.low tally (length_tallied caller t.tally))

-- ---- what a call is not lent for writing

pub call_keeps : (call : Call) (b : StoredBook) → (after_call (on_tables call) b).store ≡ b.store
unfolding after_call
call_keeps call b = refl

pub save_keeps : (n m name : ℕ) (b : StoredBook) → (after_call (save n m name) b).tables ≡ b.tables
unfolding after_call
save_keeps n m name b = refl

pub return_keeps : (n m caller name : ℕ) (b : StoredBook) → (after_call (return_to n m caller name) b).store ≡ b.store
unfolding after_call
return_keeps n m caller name b = refl

-- ---- any call, and lists of calls

-- of the tables, and of the store
abbrev pub SameLengths : (before after : StoredBook) → Type 0
SameLengths b b' = (lengths b'.tables ≡ lengths b.tables) × (store_lengths b'.store ≡ store_lengths b.store)

pub lengths_kept : (c : StoredCall) (b : StoredBook) → SameLengths b (after_call c b)
unfolding after_call
lengths_kept (on_tables call) b = (request_lengths call.n call.m b.tables call.request, ap store_lengths (call_keeps call b))
lengths_kept (save n m name) b = (ap lengths (save_keeps n m name b), save_lengths n m b.tables b.store name)
lengths_kept (return_to n m caller name) b =
    (return_lengths n m b.tables b.store caller name, ap store_lengths (return_keeps n m caller name b))

pub run_lengths : (cs : List StoredCall) (b : StoredBook) → SameLengths b (run after_call cs b)
run_lengths cs b =
    run_keeps after_call (SameLengths b) (λ c u so_far. let next = lengths_kept c u in (next.0 ∙ so_far.0, next.1 ∙ so_far.1)) cs b (refl, refl)

module _ (b b' : StoredBook) (same : SameLengths b b') where
  pub tally_same : length b'.tables.tally ≡ length b.tables.tally
  tally_same = ap (λ (l : List ℕ). get_or l 3 0) same.0

  -- whether an n and an m fit depends on the lengths alone
  pub shaped_same : (n m : ℕ) → shaped n m b'.tables ≡ shaped n m b.tables
  shaped_same n m = ap (λ (l : List ℕ). sized 1 1 n m (get_or l 0 0) (get_or l 1 0) (get_or l 2 0) (get_or l 3 0) (get_or l 4 0)) same.0

  pub stored_same : (n m : ℕ) → stored n m b'.store ≡ stored n m b.store
  unfolding stored
  stored_same n m = ap (λ (l : List ℕ).
      eqb (get_or l 0 0) names && eqb (get_or l 1 0) (names * (n * n)) && eqb (get_or l 2 0) (names * (n * m)) && eqb (get_or l 3 0) (names * (n * m))
      && eqb (get_or l 4 0) (names * m)) same.1

-- ---- what was saved last

-- the tables that a save finds, if it saves, or else those saved before
abbrev found : (saves : Bool) → (t before : Tables) → Tables
found saves t before = elim saves [ true ↦ t | false ↦ before ]

module _ (n m : ℕ) (b : StoredBook) (fits : shaped n m b.tables ≡ true) (held : stored n m b.store ≡ true) (name : ℕ) (low : name < names) where
  abbrev Is : Store → Tables → Type 0
  Is s t = StateIs n m s name t

  -- a save whose n' and m' fit is put to the book itself
  saving_last : (n' m' other : ℕ) (u : Tables) → shaped n' m' b.tables ≡ true → other < names → Is b.store u
      → Is (saving n' m' b.tables b.store other) (found (eqb other name && true) b.tables u)
  saving_last n' m' other u fits' other-low before =
      let (n-same, m-same) = one_size n m n' m' b.tables (sized_facts 1 1 n m _ _ _ _ _ fits) (sized_facts 1 1 n' m' _ _ _ _ _ fits') in
      rw (n-same, m-same) (go (saving_saves n m b.tables b.store other fits held other-low) (eqb other name) refl)
    where
      after : Store
      after = saving n m b.tables b.store other

      go : SaveMade n m other b.tables b.store after → (same : Bool) → eqb other name ≡ same → Is after (found (same && true) b.tables u)
      go made true is = subst (λ (x : ℕ). StateIs n m after x b.tables) (eqb-true other name is) made.state_saved
      go made false is = λ tally. made.others_kept name (λ e. eqb-false other name is (sym e)) tally ∙ before tally

  save_last : (n' m' other : ℕ) (u : Tables) → Is b.store u
      → let o = store.save n' m' b.tables b.store other in Is o.tables (found (eqb other name && is_given o.reply) b.tables u)
  save_last n' m' other u before =
      save_cases n' m' b.tables b.store other (λ o. Is o.tables (found (eqb other name && is_given o.reply) b.tables u))
      (λ number. none_saved (eqb other name)) (λ p. saving_last n' m' other u p.fits p.low before)
    where
      none_saved : (same : Bool) → Is b.store (found (same && false) b.tables u)
      none_saved true = before
      none_saved false = before

  call_last : (c : StoredCall) (u : Tables) → Is b.store u → Is (after_call c b).store (saved_by name c b u)
  unfolding after_call saved_by
  call_last (on_tables call) u before = before
  call_last (save n' m' other) u before = save_last n' m' other u before
  call_last (return_to n' m' caller other) u before = before

pub state_is_last_saved : (n m : ℕ) (name : ℕ) (cs : List StoredCall) (b : StoredBook) (u : Tables) → shaped n m b.tables ≡ true → stored n m b.store ≡ true
    → name < names → StateIs n m b.store name u → StateIs n m (run after_call cs b).store name (saved_last name u cs b)
unfolding run saved_last
state_is_last_saved n m name [] b u fits held low before = before
state_is_last_saved n m name (c ∷ cs) b u fits held low before =
    let after = after_call c b in
    let same = lengths_kept c b in
    state_is_last_saved n m name cs after (saved_by name c b u) (shaped_same b after same n m ∙ fits) (stored_same b after same n m ∙ held) low
    (call_last n m b fits held name low c u before)

-- ---- .. has a tally of the book's length

found_long : (saves : Bool) (t before : Tables) → length before.tally ≡ length t.tally → length (found saves t before).tally ≡ length t.tally
found_long true t before long = refl
found_long false t before long = long

call_long : (name : ℕ) (c : StoredCall) (b : StoredBook) (u : Tables) → length u.tally ≡ length b.tables.tally
    → length (saved_by name c b u).tally ≡ length b.tables.tally
unfolding saved_by
call_long name (on_tables call) b u long = long
call_long name (save n m other) b u long =
    found_long (eqb other name && is_given (store.save n m b.tables b.store other).reply) b.tables u long
call_long name (return_to n m caller other) b u long = long

pub tally_long : (name : ℕ) (cs : List StoredCall) (b : StoredBook) (u : Tables) → length u.tally ≡ length b.tables.tally
    → length (saved_last name u cs b).tally ≡ length b.tables.tally
unfolding saved_last
tally_long name [] b u long = long
tally_long name (c ∷ cs) b u long =
    let kept = tally_same b (after_call c b) (lengths_kept c b) in
    tally_long name cs (after_call c b) (saved_by name c b u) (call_long name c b u long ∙ sym kept) ∙ kept
