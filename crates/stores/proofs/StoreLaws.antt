-- What save and return answer and leave, on any tables and any store.
--     save_refused, return_refused           a refused call writes to no table
--     save_shape, save_name                  the refusals of a save, in their order
--     save_accepted                          every other save is accepted, whatever the book holds
--     return_shape, return_caller, return_name, return_unsaved, return_unsound     the refusals of a return, in their order
--     return_accepted                        every other return is accepted, whatever the book holds that the state replaces
--     save_saves, return_returns             `SaveMade` and `ReturnMade` hold of every accepted call
--     save_cases, return_cases               a call is refused and leaves what it was lent, or its checks are passed: `Saves`, `Returns`
--     given_returned                         what is known of a return that was accepted: `Returned`
--     StoreLengths                           what `stored` tests, as facts, by stored_facts
--     length_copied, copy_there, copy_elsewhere     a table of copies with another copy under a name
--     saving_lengths, saving_saves           the store that a save leaves
--     placed                                 the place of a copy is low, and has room for it: `Placed`
--     state_lengths                          the tables of a saved state have their lengths
--     sound_state                            whether a saved state is sound does not depend on the tally beside it
-- Assumes nothing.
use mathlib.Core.Path.{◌≡◌, refl, sym, ap, ◌∙◌, subst}
use mathlib.Core.Bool.{true, false, ◌&&◌, not}
use mathlib.Core.List.{List, ◌++◌}
use mathlib.Core.Logic.{◌≢◌, by_cases}
use Prim.Native.Nat.{ℕ, ◌+◌, ◌-◌, ◌*◌, ◌<◌, ◌≤◌}
use native.Mathlib.Decide.{dec_lt}
use native.Mathlib.Nat.{mul-le-mul}
use native.Mathlib.Omega.{arith}
use borrow.Author.Tests.{ltb-true, eqb-true, lt-ltb, le-ltb, ne_eqb}
use lib.ListN.{length, get_or, take, drop, length-append, length-drop, take-append-drop}
use lib.Seq.{length-take-le, take_all, take-append-le, drop-append-le, drop_at, drop-drop}
use Rattle.inheritance.specs.Above.{count}
use Rattle.tables.specs.Caller.{callers}
use Rattle.tables.specs.Reply.{refused, given}
use Rattle.tables.specs.Tables.{Tables, lent, shaped, LengthsOf, sound, differing, saturated, tallied}
use Rattle.tables.specs.Calls.{OutcomeOn, Outcome, leaves}
use Rattle.tables.specs.Edit.{OnePlace, apart}
use Rattle.tables.proofs.CallLaws.{given_not_refused, check_cases, check_passed, check_failed, check_refused}
use Rattle.tables.proofs.EditLaws.{set_one}
use Rattle.tables.proofs.ShapeLaws.{and_iff, sized_facts}
use Rattle.tables.proofs.TableLaws.{row_in, differing_count, length_tallied}
use Rattle.stores.specs.Name.{names}
use Rattle.stores.specs.Store.{Store, stored, copy_at, with_copy, state_at, saving, save, return_to}
use Rattle.stores.specs.StoreSteps.{SaveMade, ReturnMade}

-- ---- copies

-- a part that ends within the first of two lists
within_first : (size from : ℕ) (xs ys : List ℕ) → from + size ≤ length xs → take size (drop from (xs ++ ys)) ≡ take size (drop from xs)
within_first size from xs ys room =
    ap (take size) (drop-append-le from xs ys (omega arith)) ∙ take-append-le size (drop from xs) ys (omega (arith, length-drop from xs))

-- the copies under lower names end where that under the name begins
before_name : (size other name : ℕ) → other < name → other * size + size ≤ name * size
before_name size other name less = row_in name size other refl less

pub length_copy_at : (size name : ℕ) (copies : List ℕ) → name * size + size ≤ length copies → length (copy_at size name copies) ≡ size
length_copy_at size name copies room = length-take-le size (drop (name * size) copies) (omega (arith, length-drop (name * size) copies))

-- a copy as long as those in a table of copies, and a name that the table has room for
pub record Room (size name : ℕ) (copy copies : List ℕ) : Type 0 where
  pub one : length copy ≡ size
  pub room : name * size + size ≤ length copies

module _ {size name : ℕ} {copy copies : List ℕ} (fit : Room size name copy copies) where
  front_length : length (take (name * size) copies) ≡ name * size
  front_length = length-take-le (name * size) copies (omega arith)

  head_length : length (take (name * size) copies ++ copy) ≡ name * size + size
  head_length = omega (arith, length-append (take (name * size) copies) copy, front_length)

  pub length_copied : length (with_copy size name copy copies) ≡ length copies
  length_copied =
      let rest = drop (name * size + size) copies in
      omega (arith, length-append (take (name * size) copies ++ copy) rest, head_length, length-drop (name * size + size) copies)

  pub copy_there : copy_at size name (with_copy size name copy copies) ≡ copy
  copy_there =
      within_first size (name * size) (take (name * size) copies ++ copy) _ (omega (arith, head_length))
      ∙ ap (take size) (drop_at (take (name * size) copies) copy (name * size) front_length) ∙ take_all size copy (omega arith)

  lower_kept : (other : ℕ) → other < name → copy_at size other (with_copy size name copy copies) ≡ copy_at size other copies
  lower_kept other less =
      let ends = before_name size other name less in
      let front = take (name * size) copies in
      within_first size (other * size) (front ++ copy) _ (omega (arith, head_length))
      ∙ within_first size (other * size) front copy (omega (arith, front_length))
      ∙ sym (within_first size (other * size) front (drop (name * size) copies) (omega (arith, front_length)))
      ∙ ap (λ (l : List ℕ). copy_at size other l) (take-append-drop (name * size) copies)

  higher_kept : (other : ℕ) → name < other → copy_at size other (with_copy size name copy copies) ≡ copy_at size other copies
  higher_kept other more =
      let past : ℕ = other * size - (name * size + size) in
      let place : name * size + size + past ≡ other * size = omega (arith, before_name size name other more) in
      let split : (l : List ℕ) → drop (other * size) l ≡ drop past (drop (name * size + size) l) =
      λ l. ap (λ (i : ℕ). drop i l) (sym place) ∙ sym (drop-drop past (name * size + size) l) in
      ap (take size) (split (with_copy size name copy copies)
      ∙ ap (drop past) (drop_at (take (name * size) copies ++ copy) (drop (name * size + size) copies) (name * size + size) head_length)
      ∙ sym (split copies))

  pub copy_elsewhere : (other : ℕ) → other ≢ name → copy_at size other (with_copy size name copy copies) ≡ copy_at size other copies
  copy_elsewhere other apart = by_cases (dec_lt other name) (lower_kept other) (λ not-less. higher_kept other (omega arith))

-- ---- the lengths of a store's tables

pub record StoreLengths (n m : ℕ) (s : Store) : Type 0 where
  pub flags_length : length s.flags ≡ names
  pub links_length : length s.links ≡ names * (n * n)
  pub rules_length : length s.rules ≡ names * (n * m)
  pub entries_length : length s.entries ≡ names * (n * m)
  pub disputes_length : length s.disputes ≡ names * m

module _ (n m : ℕ) (s : Store) where
  pub stored_facts : stored n m s ≡ true → StoreLengths n m s
  unfolding stored
  stored_facts held =
      let tests = simp and_iff at held in
      omega (arith, eqb-true)

-- the copies under a name of the store lie within its tables
copy_room : (size name : ℕ) {total : ℕ} → total ≡ names * size → name < names → name * size + size ≤ total
copy_room size name = row_in names size name

-- the place of the copy under a name, as code works it out
pub record Placed (name size : ℕ) (copies : List ℕ) : Type 0 where
  pub low : name * size ≤ 114688
  pub small : size ≤ 16384
  pub room : name * size + size ≤ length copies

pub placed : (name size : ℕ) (copies : List ℕ) → name < names → size ≤ 16384 → length copies ≡ names * size → Placed name size copies
placed name size copies below small are =
    let most : name ≤ 7 = omega arith in
    record { low = omega (arith, mul-le-mul most small); small = small; room = copy_room size name are below }

-- the tables of a saved state, beside a tally of the book's length
pub state_lengths : (n m : ℕ) (t : Tables) (s : Store) (name : ℕ) → shaped n m t ≡ true → stored n m s ≡ true → name < names
    → (tally : List ℕ) → length tally ≡ length t.tally → LengthsOf n m (state_at n m s name tally)
unfolding state_at
state_lengths n m t s name fits held low tally same =
    let book = sized_facts 1 1 n m _ _ _ _ _ fits in
    let store = stored_facts n m s held in
    record {
      kinds = book.kinds;
      marks = book.marks;
      links_length = length_copy_at (n * n) name s.links (copy_room (n * n) name store.links_length low);
      rules_length = omega (arith, length_copy_at (n * m) name s.rules (copy_room (n * m) name store.rules_length low));
      entries_length = omega (arith, length_copy_at (n * m) name s.entries (copy_room (n * m) name store.entries_length low));
      tally_length = same ∙ book.tally_length;
      disputes_length = omega (arith, length_copy_at m name s.disputes (copy_room m name store.disputes_length low));
    }

state_tally : (n m : ℕ) (s : Store) (name : ℕ) (tally : List ℕ) → (state_at n m s name tally).tally ≡ tally
unfolding state_at
state_tally n m s name tally = refl

-- soundness does not read the tally
pub sound_state : (n m : ℕ) (s : Store) (name : ℕ) (a b : List ℕ) → sound n m (state_at n m s name a) ≡ sound n m (state_at n m s name b)
unfolding sound state_at
sound_state n m s name a b = refl

-- ---- the answers, check by check

module _ (n m : ℕ) (t : Tables) (s : Store) where
  pub save_refused : (name r : ℕ) → (save n m t s name).reply ≡ refused r → (save n m t s name).tables ≡ s
  unfolding save
  save_refused name = check_refused _ s _ _ (check_refused _ s _ _ λ r is. absurd (given_not_refused _ r is))

  pub return_refused : (caller name r : ℕ) → (return_to n m t s caller name).reply ≡ refused r → (return_to n m t s caller name).tables ≡ t
  unfolding return_to
  return_refused caller name =
      check_refused _ t _ _ (check_refused _ t _ _ (check_refused _ t _ _ (check_refused _ t _ _ (check_refused _ t _ _
      λ r is. absurd (given_not_refused _ r is)))))

  pub save_shape : (name : ℕ) → (shaped n m t && stored n m s) ≡ false → save n m t s name ≡ leaves (refused 1) s
  unfolding save
  save_shape name = check_failed 1 s _ _

  pub return_shape : (caller name : ℕ) → (shaped n m t && stored n m s) ≡ false → return_to n m t s caller name ≡ leaves (refused 1) t
  unfolding return_to
  return_shape caller name = check_failed 1 t _ _

  module _ (fits : shaped n m t ≡ true) (held : stored n m s ≡ true) where
    both : (shaped n m t && stored n m s) ≡ true
    both = (and_iff (shaped n m t) (stored n m s)).1 (fits, held)

    -- ---- save

    pub save_name : (name : ℕ) → names ≤ name → save n m t s name ≡ leaves (refused 14) s
    unfolding save
    save_name name past = check_passed 1 s _ _ both ∙ check_failed 14 s _ _ (rw (le-ltb name names past) refl)

    -- a save never asks whether the book is sound
    pub save_accepted : (name : ℕ) → name < names → save n m t s name ≡ leaves (given tt) (saving n m t s name)
    unfolding save
    save_accepted name low = check_passed 1 s _ _ both ∙ check_passed 14 s _ _ (lt-ltb name names low)

    -- ---- return

    pub return_caller : (caller name : ℕ) → callers ≤ caller → return_to n m t s caller name ≡ leaves (refused 13) t
    unfolding return_to
    return_caller caller name past = check_passed 1 t _ _ both ∙ check_failed 13 t _ _ (le-ltb caller callers past)

    module _ (caller name : ℕ) (known : caller < callers) where
      -- whatever the flags hold
      pub return_name : names ≤ name → return_to n m t s caller name ≡ leaves (refused 14) t
      unfolding return_to
      return_name past =
          check_passed 1 t _ _ both ∙ check_passed 13 t _ _ (lt-ltb caller callers known) ∙ check_failed 14 t _ _ (le-ltb name names past)

      module _ (low : name < names) where
        -- whatever the copies hold
        pub return_unsaved : get_or s.flags name 0 ≡ 0 → return_to n m t s caller name ≡ leaves (refused 15) t
        unfolding return_to
        return_unsaved unsaved =
            check_passed 1 t _ _ both ∙ check_passed 13 t _ _ (lt-ltb caller callers known) ∙ check_passed 14 t _ _ (lt-ltb name names low)
            ∙ check_failed 15 t _ _ (rw unsaved refl)

        module _ (is-saved : get_or s.flags name 0 ≢ 0) where
          pub return_unsound : sound n m (state_at n m s name t.tally) ≡ false → return_to n m t s caller name ≡ leaves (refused 5) t
          unfolding return_to
          return_unsound unsound =
              check_passed 1 t _ _ both ∙ check_passed 13 t _ _ (lt-ltb caller callers known) ∙ check_passed 14 t _ _ (lt-ltb name names low)
              ∙ check_passed 15 t _ _ (ap not (ne_eqb (get_or s.flags name 0) 0 is-saved))
              ∙ check_failed 5 t _ _ (sound_state n m s name _ t.tally ∙ unsound)

          -- the book that the state replaces need not be sound
          pub return_accepted : sound n m (state_at n m s name t.tally) ≡ true
              → return_to n m t s caller name
              ≡ leaves (given (differing t.entries (state_at n m s name t.tally).entries)) (state_at n m s name (tallied caller t.tally))
          unfolding return_to state_at
          return_accepted is_sound =
              check_passed 1 t _ _ both ∙ check_passed 13 t _ _ (lt-ltb caller callers known) ∙ check_passed 14 t _ _ (lt-ltb name names low)
              ∙ check_passed 15 t _ _ (ap not (ne_eqb (get_or s.flags name 0) 0 is-saved))
              ∙ check_passed 5 t _ _ (sound_state n m s name _ t.tally ∙ is_sound)

-- ---- what an accepted call says

-- the checks of a save are passed
pub record Saves (n m : ℕ) (t : Tables) (s : Store) (name : ℕ) : Type 0 where
  pub fits : shaped n m t ≡ true
  pub held : stored n m s ≡ true
  pub low : name < names

-- the checks of a return are passed
pub record Returns (n m : ℕ) (t : Tables) (s : Store) (caller name : ℕ) : Type 0 where
  pub fits : shaped n m t ≡ true
  pub held : stored n m s ≡ true
  pub known : caller < callers
  pub low : name < names
  pub is_sound : sound n m (state_at n m s name (tallied caller t.tally)) ≡ true

module _ (n m : ℕ) (t : Tables) (s : Store) where
  -- what holds of a refusal, which leaves the store, and of the store with the book saved where the checks are passed, holds of a save
  pub save_cases : (name : ℕ) (P : OutcomeOn Store (Unit {0}) → Type 0) → ((number : ℕ) → P (leaves (refused number) s))
      → (Saves n m t s name → P (leaves (given tt) (saving n m t s name))) → P (save n m t s name)
  unfolding save
  save_cases name P when-refused rest =
      check_cases 1 s _ P _ (when-refused 1) λ both. check_cases 14 s _ P _ (when-refused 14) λ low.
      let (fits, held) = (and_iff (shaped n m t) _).0 both in
      rest (record { fits = fits; held = held; low = ltb-true _ _ low })

  -- .. and so of a return, which leaves the state where its checks are passed
  pub return_cases : (caller name : ℕ) → let state = state_at n m s name (tallied caller t.tally) in
      (P : Outcome ℕ → Type 0) → ((number : ℕ) → P (leaves (refused number) t))
      → (Returns n m t s caller name → P (leaves (given (differing t.entries state.entries)) state)) → P (return_to n m t s caller name)
  unfolding return_to
  return_cases caller name P when-refused rest =
      check_cases 1 t _ P _ (when-refused 1) λ both. check_cases 13 t _ P _ (when-refused 13) λ known. check_cases 14 t _ P _ (when-refused 14) λ low.
      check_cases 15 t _ P _ (when-refused 15) λ _. check_cases 5 t _ P _ (when-refused 5) λ is_sound.
      let (fits, held) = (and_iff (shaped n m t) _).0 both in
      rest (record { fits = fits; held = held; known = ltb-true _ _ known; low = ltb-true _ _ low; is_sound = is_sound })

  -- a return that gives a count has passed its checks, and leaves the state
  pub record Returned (caller name returned : ℕ) (t' : Tables) : Type 0 where
    pub passes : Returns n m t s caller name
    pub left : t' ≡ state_at n m s name (tallied caller t.tally)
    pub counts : returned ≡ differing t.entries t'.entries

  pub given_returned : (caller name count : ℕ) → (return_to n m t s caller name).reply ≡ given count
      → Returned caller name count (return_to n m t s caller name).tables
  given_returned caller name count =
      return_cases caller name (λ o. o.reply ≡ given count → Returned caller name count o.tables)
      (λ number is. absurd (given_not_refused count number (sym is))) (λ r is. record { passes = r; left = refl; counts = cc })

-- tables whose parts are the same
same_tables : (a b c d a' b' c' d' tally : List ℕ) → a ≡ a' → b ≡ b' → c ≡ c' → d ≡ d' → lent a b c tally d ≡ lent a' b' c' tally d'
same_tables a b c d a' b' c' d' tally p q r u = λ i. lent (p i) (q i) (r i) tally (u i)

module _ (n m : ℕ) (t : Tables) (s : Store) where
  -- the store after an accepted save
  module _ (name : ℕ) (fits : shaped n m t ≡ true) (held : stored n m s ≡ true) (low : name < names) where
    book : LengthsOf n m t
    book = sized_facts 1 1 n m _ _ _ _ _ fits

    store : StoreLengths n m s
    store = stored_facts n m s held

    links_room : Room (n * n) name t.links s.links
    links_room = record { one = book.links_length; room = copy_room (n * n) name store.links_length low }

    rules_room : Room (n * m) name t.rules s.rules
    rules_room = record { one = omega (arith, book.rules_length); room = copy_room (n * m) name store.rules_length low }

    entries_room : Room (n * m) name t.entries s.entries
    entries_room = record { one = omega (arith, book.entries_length); room = copy_room (n * m) name store.entries_length low }

    disputes_room : Room m name t.disputes s.disputes
    disputes_room = record { one = omega (arith, book.disputes_length); room = copy_room m name store.disputes_length low }

    pub saving_saves : SaveMade n m name t s (saving n m t s name)
    unfolding state_at saving
    saving_saves = record {
      state_saved = λ tally. same_tables _ _ _ _ _ _ _ _ tally
          (copy_there links_room) (copy_there rules_room) (copy_there entries_room) (copy_there disputes_room);
      flag_set = set_one s.flags name 1 (omega (arith, store.flags_length));
      others_kept = λ other apart tally. same_tables _ _ _ _ _ _ _ _ tally
          (copy_elsewhere links_room other apart) (copy_elsewhere rules_room other apart)
          (copy_elsewhere entries_room other apart) (copy_elsewhere disputes_room other apart);
    }

    pub saving_lengths : StoreLengths n m (saving n m t s name)
    unfolding saving
    saving_lengths = record {
      flags_length = saving_saves.flag_set.size ∙ store.flags_length;
      links_length = length_copied links_room ∙ store.links_length;
      rules_length = length_copied rules_room ∙ store.rules_length;
      entries_length = length_copied entries_room ∙ store.entries_length;
      disputes_length = length_copied disputes_room ∙ store.disputes_length;
    }

  pub save_saves : (name : ℕ) → (save n m t s name).reply ≡ given tt → SaveMade n m name t s (save n m t s name).tables
  save_saves name =
      save_cases n m t s name (λ o. o.reply ≡ given tt → SaveMade n m name t s o.tables) (λ number is. absurd (given_not_refused tt number (sym is)))
      λ p _. saving_saves name p.fits p.held p.low

  pub return_returns : (caller name returned : ℕ) → (return_to n m t s caller name).reply ≡ given returned
      → ReturnMade n m caller name s t (return_to n m t s caller name).tables returned
  unfolding tallied
  return_returns caller name returned is =
      let after = (return_to n m t s caller name).tables in
      let facts = given_returned n m t s caller name returned is in
      let p = facts.passes in
      let tally = tallied caller t.tally in
      let book = sized_facts 1 1 n m _ _ _ _ _ p.fits in
      let state = state_lengths n m t s name p.fits p.held p.low tally (length_tallied caller t.tally) in
      let tally-is : after.tally ≡ tally = ap (λ (u : Tables). u.tally) facts.left ∙ state_tally n m s name tally in
      let size : length t.entries ≡ n * m = omega (arith, book.entries_length) in
      let size-after : length after.entries ≡ length t.entries =
      ap (λ (u : Tables). length u.entries) facts.left ∙ state.entries_length ∙ sym book.entries_length in
      record {
        brought_back = facts.left ∙ ap (state_at n m s name) (sym tally-is);
        sound_after = ap (sound n m) facts.left ∙ p.is_sound;
        tally_changed = subst (λ (l : List ℕ). OnePlace t.tally l caller (saturated (get_or t.tally caller 0))) (sym tally-is)
            (set_one t.tally caller _ (omega (arith, book.tally_length, p.known)));
        counted =
            facts.counts ∙ differing_count t.entries after.entries (sym size-after) ∙ ap (count (apart t.entries after.entries)) size;
      }
