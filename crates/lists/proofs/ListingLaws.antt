-- The edits of a list, step by step.
--     begin_long                       refusal 1 of a list with too many records
--     begin_first, begin_unsound       refusals 1 and 13, and 5, of one that has not
--     begin_passed                     .. and what is ready where none is given
--     next_counted                     the next edit of a list that goes on, by what the edit of its record answers and leaves
--     next_going                       .. and what is ready after an accepted one
-- Assumes nothing.
use mathlib.Core.Path.{◌≡◌, refl, sym, ◌∙◌, ap}
use mathlib.Core.Bool.{Bool, true, false, ◌&&◌}
use Prim.Native.Nat.{ℕ, ◌+◌, ◌<◌, ◌≤◌}
use native.Mathlib.Omega.{arith}
use borrow.Author.Tests.{lt-leb, le-leb}
use lib.Dec.{leb, ltb}
use Rattle.std.specs.Prelude.{Result, None}
use Rattle.books.specs.Ask.{checked_caller}
use Rattle.books.proofs.AskLaws.{by_passes, caller_refuses}
use Rattle.ruling.specs.declared.Prepared.{Prepared}
use Rattle.resettling.specs.Known.{Known}
use Rattle.resettling.proofs.KnownLaws.{has}
use Rattle.tables.specs.declared.Edit.{Edit}
use Rattle.tables.specs.declared.Listing.{Listing}
use Rattle.tables.specs.declared.Refusal.{Refusal}
use Rattle.tables.specs.Caller.{callers}
use Rattle.tables.specs.Calls.{Outcome, leaves, check, by_caller}
use Rattle.tables.specs.Lists.{Change, change_in, if_change, record_outcome, counting, counted_in, next_edit, most_records, begin_list}
use Rattle.tables.specs.Reply.{Reply, refused, given, whole, refusal_number, listing_of}
use Rattle.tables.specs.Tables.{Tables, shaped, sound}
use Rattle.tables.proofs.CallLaws.{given_not_refused}
use Rattle.tables.proofs.ListStepLaws.{edit_obeys, obeys_small}
use Rattle.lists.specs.Going.{Going}

-- ---- the checks before the first

module _ (n m : ℕ) (t : Tables) (by records : ℕ) where
  pub begin_long : most_records < records → leaves (refused 1) t ≡ begin_list n m t by records
  unfolding begin_list check
  begin_long long = go (shaped n m t)
    where
      go : (s : Bool) → leaves (refused 1) t ≡ check 1 (s && leb records most_records) t (check 13 (ltb by callers) t (check 5 (sound n m t) t (leaves (given (whole 0 0)) t)))
      go true = rw (lt-leb records most_records long) refl
      go false = refl

  module _ (short : records ≤ most_records) where
    -- the first check is then that of the tables alone
    begins : begin_list n m t by records ≡ by_caller n m t by (check 5 (sound n m t) t (leaves (given (whole 0 0)) t))
    unfolding begin_list
    begins = ap (λ (b : Bool). check 1 b t (check 13 (ltb by callers) t (check 5 (sound n m t) t (leaves (given (whole 0 0)) t)))) (both (shaped n m t))
      where
        both : (s : Bool) → (s && leb records most_records) ≡ s
        both true = le-leb records most_records short
        both false = refl

    pub begin_first : {why : Refusal} → checked_caller n m t by ≡ Result.Err why → leaves (refused (refusal_number why)) t ≡ begin_list n m t by records
    begin_first e = sym (begins ∙ caller_refuses n m t by _ e)

    module _ (fits : shaped n m t ≡ true) (low : by < callers) where
      pub begin_unsound : sound n m t ≡ false → leaves (refused 5) t ≡ begin_list n m t by records
      unfolding check
      begin_unsound e = sym (begins ∙ by_passes n m t by _ fits low ∙ rw e refl)

      pub begin_passed : sound n m t ≡ true → leaves (given (whole 0 0)) t ≡ begin_list n m t by records
      unfolding check
      begin_passed e = sym (begins ∙ by_passes n m t by _ fits low ∙ rw e refl)

-- ---- the next

module _ (n m by : ℕ) (e : Edit) (t : Tables) (l : Listing) where
  pub next_counted : l.stopped ≡ None → {reply : Reply ℕ} {t' : Tables} → leaves reply t' ≡ record_outcome n m t by e
      → leaves (given (counting l.accepted l.changed reply)) t' ≡ next_edit n m by e (leaves (given (listing_of l)) t)
  unfolding next_edit
  next_counted on is = rw on (ap (counted_in l.accepted l.changed) is)

  -- an accepted edit changes at most 128 × 64 entries
  record_small : n ≤ 128 → m ≤ 64 → {count : ℕ} {t' : Tables} → leaves (given count) t' ≡ record_outcome n m t by e → count ≤ 8192
  unfolding record_outcome
  record_small kinds marks {count} {t'} = go (change_in e)
    where
      go : (c : Reply Change) → leaves (given count) t' ≡ if_change n m t by c → count ≤ 8192
      go (given c) is = obeys_small n m by kinds marks c t t' count (edit_obeys n m t by c count t' (sym is))
      go (refused number) is = absurd (given_not_refused count number (ap (λ (o : Outcome ℕ). o.reply) is))

  pub next_going : {count : ℕ} {t' : Tables} {d d' : Prepared} → Going n m by t l d → leaves (given count) t' ≡ record_outcome n m t by e → Known n m t' d'
      → Going n m by t' (record { accepted = l.accepted + 1; changed = l.changed + count; stopped = None }) d'
  next_going g is known =
      let s = (has g.known).sizes in record {
        caller_in = g.caller_in;
        known = known;
        on = refl;
        small = omega (arith, g.small, record_small s.kinds s.marks is);
      }
