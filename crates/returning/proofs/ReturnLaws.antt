-- A return, refusal by refusal.
--     store_refused, caller_refused, state_refused    the call where the store, the caller or the name is refused
--     return_passed                                   .. and where none is: the tables are replaced by those of the state
-- Assumes nothing.
use mathlib.Core.Path.{◌≡◌, refl, sym, ap, ◌∙◌}
use mathlib.Core.Bool.{Bool, true, false, ◌&&◌, not}
use Prim.Native.Nat.{ℕ}
use lib.Dec.{eqb, ltb}
use lib.ListN.{get_or}
use Rattle.std.specs.Prelude.{Result}
use Rattle.books.specs.Ask.{checked_caller}
use Rattle.books.proofs.AskLaws.{AskedBy, by_passes, caller_refuses}
use Rattle.stores.specs.declared.Name.{Name}
use Rattle.stores.specs.Name.{names, name_below, asked_state}
use Rattle.stores.specs.Store.{Store, stored, state_at, return_to}
use Rattle.stores.proofs.NameLaws.{AskedUnder, state_passes, state_refuses}
use Rattle.tables.specs.declared.Caller.{Caller}
use Rattle.tables.specs.declared.Refusal.{Refusal}
use Rattle.tables.specs.Caller.{callers}
use Rattle.tables.specs.Calls.{Outcome, leaves, check, by_caller}
use Rattle.tables.specs.Reply.{refused, refusal_number}
use Rattle.tables.specs.Tables.{Tables, shaped, tallied}
use Rattle.tables.proofs.CallLaws.{check_failed}
use Rattle.replacing.specs.Replaced.{replaced}

both_false : (a b : Bool) → b ≡ false → (a && b) ≡ false
both_false true b is = is
both_false false b is = refl

both_true : (a b : Bool) → b ≡ true → (a && b) ≡ a
both_true true b is = is
both_true false b is = refl

module _ (n m : ℕ) (t : Tables) (s : Store) (c number : ℕ) where
  -- what comes after refusal 13
  abbrev rest : Outcome ℕ
  rest =
      check 14 (ltb number names) t
      (check 15 (not (eqb (get_or s.flags number 0) 0)) t
      (replaced n m t (state_at n m s number (tallied c t.tally))))

  pub store_refused : stored n m s ≡ false → leaves (refused 1) t ≡ return_to n m t s c number
  unfolding return_to
  store_refused is = sym (check_failed 1 t _ _ (both_false (shaped n m t) (stored n m s) is))

  module _ (held : stored n m s ≡ true) where
    begins : return_to n m t s c number ≡ by_caller n m t c rest
    unfolding return_to replaced
    begins = ap (λ (b : Bool). check 1 b t (check 13 (ltb c callers) t rest)) (both_true (shaped n m t) (stored n m s) held)

    pub caller_refused : {why : Refusal} → checked_caller n m t c ≡ Result.Err why → leaves (refused (refusal_number why)) t ≡ return_to n m t s c number
    caller_refused e = sym (begins ∙ caller_refuses n m t c rest e)

    module _ {by : Caller} (a : AskedBy n m t c by) where
      asked : return_to n m t s c number ≡ rest
      asked = begins ∙ by_passes n m t c rest a.fits a.caller_in_range

      pub state_refused : {why : Refusal} → asked_state s.flags (name_below number) ≡ Result.Err why
          → leaves (refused (refusal_number why)) t ≡ return_to n m t s c number
      state_refused e = sym (asked ∙ state_refuses s.flags number t _ e)

      pub return_passed : {k : Name} → AskedUnder s.flags number k
          → replaced n m t (state_at n m s k.0 (tallied by.0 t.tally)) ≡ return_to n m t s c number
      return_passed u =
          ap (λ (x : Name). replaced n m t (state_at n m s x.0 (tallied by.0 t.tally))) u.the_name
          ∙ ap (λ (x : Caller). replaced n m t (state_at n m s number (tallied x.0 t.tally))) a.the_caller
          ∙ sym (asked ∙ state_passes s.flags number t _ u)
