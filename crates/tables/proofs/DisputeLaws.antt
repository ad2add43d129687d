-- The dispute counts of a table of entries.
--     one_if_few, bool_byte                               what a test counts: at most one, and the number that code makes of it
--     length_disputes, disputes_at_mark, disputes_ext     the table of the counts has them at its places, and a list that has them is that table
--     counts_mean, mean_counts                            a table that passes the test of every count is that table, and the other way round
--     at_most                                             no more kinds have a dispute entry than there are
--     some_entry                                          where the counts of a mark differ, so do the entries of some kind; some_place: of any place of the tables
-- Assumes nothing.
use mathlib.Core.Path.{◌≡◌, refl, sym, ◌∙◌, ap}
use mathlib.Core.Bool.{Bool, true, false}
use mathlib.Core.List.{List}
use mathlib.Core.Logic.{◌≢◌, by_cases}
use Prim.Native.Nat.{ℕ, zero, suc, ◌+◌, ◌*◌, ◌<◌, ◌≤◌, zero-le}
use native.Mathlib.Decide.{dec_lt, ℕ_discrete}
use native.Mathlib.Omega.{arith}
use borrow.Author.Tests.{eqb-true, eq-eqb}
use mir.Val.{bool_byte as byte_of_bool}
use lib.ListN.{length, get_or, get_or-eq_default}
use lib.Seq.{ext_get_or}
use Rattle.inheritance.specs.Above.{one_if, count}
use Rattle.tables.specs.Tables.{is_dispute, disputes_at, disputes_of, all_below, count_right}
use Rattle.tables.proofs.TableLaws.{below_true, true_below, length_listed, listed_at}

pub one_if_few : (b : Bool) → one_if b ≤ 1
one_if_few true = omega arith
one_if_few false = omega arith

pub bool_byte : (b : Bool) → byte_of_bool b ≡ one_if b
bool_byte true = refl
bool_byte false = refl

count_few : (f : ℕ → Bool) (k : ℕ) → count f k ≤ k
unfolding count
count_few f zero = zero-le
count_few f (suc k) = omega (arith, count_few f k, one_if_few (f k))

module _ (n m : ℕ) (entries : List ℕ) where
  pub at_most : (j : ℕ) → disputes_at n m entries j ≤ n
  unfolding disputes_at
  at_most j = count_few _ n

  pub length_disputes : length (disputes_of n m entries) ≡ m
  unfolding disputes_of
  length_disputes = length_listed _ m

  pub disputes_at_mark : (j : ℕ) → j < m → get_or (disputes_of n m entries) j 0 ≡ disputes_at n m entries j
  unfolding disputes_of
  disputes_at_mark j h = listed_at _ m j h

  pub disputes_ext : (counts : List ℕ) → length counts ≡ m → ((j : ℕ) → j < m → get_or counts j 0 ≡ disputes_at n m entries j) → counts ≡ disputes_of n m entries
  disputes_ext counts size at = ext_get_or 0 counts (disputes_of n m entries) (size ∙ sym length_disputes) λ j h.
      at j (rw size at h) ∙ sym (disputes_at_mark j (rw size at h))

  -- past the last mark the table has no number
  disputes_past : (j : ℕ) → m ≤ j → get_or (disputes_of n m entries) j 0 ≡ 0
  disputes_past j past = get_or-eq_default (disputes_of n m entries) 0 (rw length_disputes past)

  pub counts_mean : (counts : List ℕ) → length counts ≡ m → all_below (count_right n m entries counts) m ≡ true → counts ≡ disputes_of n m entries
  counts_mean counts size e = disputes_ext counts size (λ j h. eqb-true _ _ (below_true _ m e j h))

  pub mean_counts : (counts : List ℕ) → counts ≡ disputes_of n m entries → all_below (count_right n m entries counts) m ≡ true
  mean_counts counts e = true_below _ m (λ j h. eq-eqb _ _ (ap (λ (l : List ℕ). get_or l j 0) e ∙ disputes_at_mark j h))

pub some_entry : (n m : ℕ) (old new : List ℕ) (j : ℕ) → disputes_at n m old j ≢ disputes_at n m new j
    → (k : ℕ) × (k < n) × (get_or old (k * m + j) 0 ≢ get_or new (k * m + j) 0)
unfolding disputes_at count
some_entry zero m old new j differ = absurd (differ (omega arith))
some_entry (suc n) m old new j differ = by_cases (ℕ_discrete (get_or old (n * m + j) 0) (get_or new (n * m + j) 0))
    (λ same. let (k, h, apart) = some_entry n m old new j (λ e. differ (omega (arith, e, ap (λ (x : ℕ). one_if (is_dispute x)) same))) in (k, omega arith, apart))
    (λ apart. (n, omega arith, apart))

-- .. and so of the tables of the counts, at whatever place: past the last mark they do not differ
pub some_place : (n m : ℕ) (old new : List ℕ) (j : ℕ) → get_or (disputes_of n m old) j 0 ≢ get_or (disputes_of n m new) j 0
    → (k : ℕ) × (k < n) × (get_or old (k * m + j) 0 ≢ get_or new (k * m + j) 0)
some_place n m old new j differ = by_cases (dec_lt j m)
    (λ h. some_entry n m old new j (λ same. differ (disputes_at_mark n m old j h ∙ same ∙ sym (disputes_at_mark n m new j h))))
    (λ past. absurd (differ (disputes_past n m old j (omega arith) ∙ sym (disputes_past n m new j (omega arith)))))
