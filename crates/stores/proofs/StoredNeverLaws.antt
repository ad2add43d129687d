-- Refusals that no call answers by, after any list of calls since the book was just opened, saves and returns among them.
--     stays_never_5, stays_never_10    a call of any n and m that the store is not lent to, whatever the store held at the start
--     return_never_5                   a return, where nothing was saved at the start
-- Assumes nothing.
use mathlib.Core.Path.{◌≡◌, refl, sym, ap, ◌∙◌, subst}
use mathlib.Core.Bool.{Bool, true, false, and-eq-true_iff}
use mathlib.Core.List.{List}
use mathlib.Core.Logic.{◌≢◌, by_cases}
use Prim.Native.Nat.{ℕ, ◌<◌}
use native.Mathlib.Decide.{ℕ_discrete}
use borrow.Author.Tests.{not-true, eqb-false}
use lib.Dec.{eqb}
use lib.ListN.{get_or}
use Rattle.tables.specs.Reply.{refused, given}
use Rattle.tables.specs.Tables.{Tables, shaped, sound, tallied}
use Rattle.tables.specs.Calls.{open_book, Outcome, check}
use Rattle.tables.specs.Lists.{run}
use Rattle.tables.specs.Books.{Call, RefusedBy, outcome}
use Rattle.tables.proofs.BookLaws.{Consistent, consistent_shaped, consistent_sound, same_size, opened_consistent}
use Rattle.tables.proofs.CallLaws.{given_not_refused, check_cases, check_passed}
use Rattle.tables.proofs.ListLaws.{run_keeps}
use Rattle.tables.proofs.NeverLaws.{never_5, never_10, sound_or_unfit}
use Rattle.stores.specs.Name.{names}
use Rattle.stores.specs.Store as store
use Rattle.stores.specs.Store.{Store, stored, state_at, saving}
use Rattle.stores.specs.StoredBooks.{StoredBook, StoredCall, after_call}
use Rattle.stores.specs.StoredBooks.StoredCall.{on_tables, save, return_to}
use Rattle.stores.proofs.StoreLaws.{save_cases, saving_saves}
use Rattle.stores.proofs.StoredBookLaws.{opened_with, stored_consistent, stays}

-- ---- calls on the tables

module _ (n m : ℕ) (t : Tables) (opened : (open_book n m t).reply ≡ given tt) (s : Store) (cs : List StoredCall) (call : Call) where
  abbrev left : Tables
  left = (run after_call cs (opened_with n m t s)).tables

  pub stays_never_5 : ¬ RefusedBy 5 (outcome call left).answer
  stays_never_5 = never_5 call left (sound_or_unfit n m left (stays n m t opened s cs) call.n call.m)

  pub stays_never_10 : ¬ RefusedBy 10 (outcome call left).answer
  stays_never_10 = never_10 call left (sound_or_unfit n m left (stays n m t opened s cs) call.n call.m)

-- ---- returns

-- every state that was saved is sound
abbrev SavedSound : (n m : ℕ) → Store → Type 0
SavedSound n m s = (name : ℕ) → get_or s.flags name 0 ≢ 0 → (tally : List ℕ) → sound n m (state_at n m s name tally) ≡ true

module _ (n m : ℕ) (t : Tables) (s : Store) (c : Consistent n m t) (before : SavedSound n m s) where
  -- a save that is accepted saves a sound book, and moves no other state
  saving_sound : (name : ℕ) → stored n m s ≡ true → name < names → SavedSound n m (saving n m t s name)
  unfolding sound
  saving_sound name held low other flag tally =
      let made = saving_saves n m t s name (consistent_shaped c) held low in
      by_cases (ℕ_discrete other name)
      (λ same.
      subst (λ (k : ℕ). sound n m (state_at n m (saving n m t s name) k tally) ≡ true) (sym same)
      (ap (sound n m) (made.state_saved tally) ∙ consistent_sound c))
      (λ apart.
      ap (sound n m) (made.others_kept other apart tally) ∙ before other (λ none. flag (made.flag_set.elsewhere other apart ∙ none)) tally)

  save_sound : (n' m' name : ℕ) → SavedSound n m (store.save n' m' t s name).tables
  save_sound n' m' name = save_cases n' m' t s name (λ o. SavedSound n m o.tables) (λ number. before) λ p.
      let (n-same, m-same) = same_size n m t c n' m' p.fits in
      let held = subst (λ (x : ℕ). stored x m s ≡ true) n-same (subst (λ (y : ℕ). stored n' y s ≡ true) m-same p.held) in
      rw (n-same, m-same) (saving_sound name held p.low)

-- a book whose tables are sound, and what was saved of it too
abbrev AllSound : (n m : ℕ) → StoredBook → Type 0
AllSound n m b = Consistent n m b.tables × SavedSound n m b.store

call_sound : (n m : ℕ) (call : StoredCall) (b : StoredBook) → AllSound n m b → AllSound n m (after_call call b)
call_sound n m call b (c, saved) = (stored_consistent n m call b c, kept call)
  where
    kept : (call : StoredCall) → SavedSound n m (after_call call b).store
    kept (on_tables call) = unfold after_call in saved
    kept (save n' m' name) = unfold after_call in save_sound n m b.tables b.store c saved n' m' name
    kept (return_to n' m' caller name) = unfold after_call in saved

abbrev Not5 : Outcome ℕ → Type 0
Not5 o = o.reply ≢ refused 5

-- a check of another number
past : (number : ℕ) (t : Tables) (next : Outcome ℕ) (b : Bool) → eqb number 5 ≡ false → (b ≡ true → Not5 next) → Not5 (check number b t next)
past number t next b other rest = check_cases number t next Not5 b (λ is. eqb-false number 5 other (let same : number ≡ 5 = cc in same)) rest

sound_return : (n m : ℕ) (b : StoredBook) → AllSound n m b → (n' m' caller name : ℕ) → Not5 (store.return_to n' m' b.tables b.store caller name)
unfolding store.return_to
sound_return n m b (c, saved) n' m' caller name =
    past 1 b.tables _ _ refl λ first. past 13 b.tables _ _ refl λ _. past 14 b.tables _ _ refl λ _. past 15 b.tables _ _ refl λ flag.
    let (n-same, m-same) = same_size n m b.tables c n' m' ((and-eq-true_iff (shaped n' m' b.tables) _).0 first).0 in
    let tally = tallied caller b.tables.tally in
    let passes : sound n' m' (state_at n' m' b.store name tally) ≡ true = rw (n-same, m-same) (saved name (eqb-false _ 0 (not-true _ flag)) tally) in
    subst Not5 (sym (check_passed 5 b.tables _ _ passes)) (given_not_refused _ 5)

pub return_never_5 : (n m : ℕ) (t : Tables) → (open_book n m t).reply ≡ given tt → (s : Store) → ((i : ℕ) → get_or s.flags i 0 ≡ 0)
    → (cs : List StoredCall) (n' m' caller name : ℕ)
    → let found = run after_call cs (opened_with n m t s) in (store.return_to n' m' found.tables found.store caller name).reply ≢ refused 5
return_never_5 n m t opened s none cs =
    sound_return n m _ (run_keeps after_call (AllSound n m) (call_sound n m) cs (opened_with n m t s)
    (opened_consistent n m t opened, λ name flag. absurd (flag (none name))))
