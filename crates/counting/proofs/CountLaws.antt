-- Dispute counts, counted kind by kind and kept where an entry changes.
--     none_counted                                  before the first kind every count is 0
--     counting_none, counting_store, counting_row   the entries of one kind are counted in: no mark, one more, all
--     counting_few                                  a count that is not yet done is at most the kinds before
--     counted, counts_of                            counts of a book's entries, there and back
--     counted_length                                there is a count for every mark
--     counted_room                                  what a recount asks
--     counted_set                                   an entry changes, and the count of its mark follows
-- Assumes nothing.
use mathlib.Core.Path.{◌≡◌, refl, sym, ◌∙◌, ap, subst}
use mathlib.Core.Logic.{◌≢◌, ◌⊎◌, inl, inr, ⊎_elim, by_cases}
use mathlib.Core.List.{List}
use Prim.Native.Nat.{ℕ, ◌+◌, ◌*◌, ◌<◌, ◌≤◌}
use native.Mathlib.Nat.{eq-or-lt_of_le, div-lt_iff_lt-mul}
use native.Mathlib.Decide.{ℕ_discrete}
use native.Mathlib.Numerals.{add-one}
use native.Mathlib.Omega.{arith}
use lib.Arith.{digits_div}
use lib.ListN.{length, get_or, set, replicate, length-set, length-replicate}
use lib.Seq.{get_or-set_same, get_or-set_other}
use Rattle.inheritance.specs.Above.{one_if, count}
use Rattle.inheritance.proofs.AboveLaws.{count_same, count_some, count_changed}
use Rattle.tables.specs.Tables.{is_dispute, disputes_at, disputes_of}
use Rattle.tables.proofs.BookLaws.{zeros_at}
use Rattle.tables.proofs.DisputeLaws.{at_most, length_disputes, disputes_at_mark, disputes_ext}
use Rattle.tables.proofs.TableLaws.{place_split}
use Rattle.counting.specs.Counting.{counted_in, counted_anew, Counting, Counted}

pub none_counted : (m : ℕ) (entries : List ℕ) → replicate m 0 ≡ disputes_of 0 m entries
unfolding disputes_at count
none_counted m entries = disputes_ext 0 m entries (replicate m 0) (length-replicate m 0) λ j h. zeros_at m j

-- ---- the entries of one kind

module _ (c m : ℕ) (entries : List ℕ) where
  one_more : (i : ℕ) → disputes_at (c + 1) m entries i ≡ counted_in (disputes_at c m entries i) (get_or entries (c * m + i) 0)
  unfolding disputes_at count
  one_more i = rw add-one refl

  pub counting_none : (counts : List ℕ) → counts ≡ disputes_of c m entries → Counting c 0 m entries counts
  counting_none counts is = record {
    size = ap length is ∙ length_disputes c m entries;
    done = λ i h. absurd (omega arith);
    left = λ i _ h. ap (λ (l : List ℕ). get_or l i 0) is ∙ disputes_at_mark c m entries i h;
  }

  module _ (j : ℕ) (counts : List ℕ) (s : Counting c j m entries counts) where
    pub counting_few : j < m → get_or counts j 0 ≤ c
    counting_few h = omega (arith, s.left j (omega arith) h, at_most c m entries j)

    pub counting_store : j < m → Counting c (j + 1) m entries (set counts j (counted_in (get_or counts j 0) (get_or entries (c * m + j) 0)))
    counting_store h = record {
      size = length-set counts j _ ∙ s.size;
      done = λ i l. ⊎_elim
          (λ (same : i ≡ j). subst (λ (x : ℕ). get_or stored x 0 ≡ disputes_at (c + 1) m entries x) (sym same) here)
          (λ (less : i < j). get_or-set_other counts j i _ 0 (λ e. omega arith) ∙ s.done i less) (eq-or-lt_of_le (omega arith));
      left = λ i l l'. get_or-set_other counts j i _ 0 (λ e. omega arith) ∙ s.left i (omega arith) l';
    }
      where
        stored : List ℕ
        stored = set counts j (counted_in (get_or counts j 0) (get_or entries (c * m + j) 0))

        here : get_or stored j 0 ≡ disputes_at (c + 1) m entries j
        here =
            get_or-set_same counts j _ 0 (omega (arith, s.size))
            ∙ ap (λ (x : ℕ). counted_in x (get_or entries (c * m + j) 0)) (s.left j (omega arith) h) ∙ sym (one_more j)

  pub counting_row : {j : ℕ} {counts : List ℕ} → Counting c j m entries counts → m ≤ j → counts ≡ disputes_of (c + 1) m entries
  counting_row {counts = counts} s all = disputes_ext (c + 1) m entries counts s.size (λ i h. s.done i (omega arith))

-- ---- counts of a book's entries

module _ (n m : ℕ) {entries counts : List ℕ} (size : length entries ≡ n * m) where
  pub counted : n ≤ 128 → counts ≡ disputes_of n m entries → Counted m entries counts
  counted few is = record { kinds = n; few = few; size = size; counts_right = is }

  pub counts_of : 1 ≤ m → Counted m entries counts → counts ≡ disputes_of n m entries
  counts_of some s =
      let same : s.kinds ≡ n = (place_split {m = m} {k = s.kinds} {j = 0} {k' = n} {j' = 0} some some (omega (arith, s.size, size))).0 in
      s.counts_right ∙ ap (λ (k : ℕ). disputes_of k m entries) same

pub counted_length : {m : ℕ} {entries counts : List ℕ} → Counted m entries counts → length counts ≡ m
counted_length {m} {entries} s = ap length s.counts_right ∙ length_disputes s.kinds m entries

-- ---- one entry changes

module _ (m c j : ℕ) (entries counts : List ℕ) (s : Counted m entries counts) (mark-in : j < m) (place-in : c * m + j < length entries) where
  kind_in : c < s.kinds
  kind_in = rw (digits_div c {m = m} {r = j} mark-in) at ((div-lt_iff_lt-mul {k = m} {x = c * m + j} {y = s.kinds} (omega arith)).1 (rw s.size at place-in))

  here : get_or counts j 0 ≡ disputes_at s.kinds m entries j
  here = ap (λ (l : List ℕ). get_or l j 0) s.counts_right ∙ disputes_at_mark s.kinds m entries j mark-in

  pub counted_room : (j < length counts) × (one_if (is_dispute (get_or entries (c * m + j) 0)) ≤ get_or counts j 0) × (get_or counts j 0 ≤ 128)
  unfolding disputes_at
  counted_room = (
    omega (arith, counted_length s),
    omega (arith, here, count_some (λ k. is_dispute (get_or entries (k * m + j) 0)) s.kinds c kind_in),
    omega (arith, here, at_most s.kinds m entries j, s.few),
  )

  module _ (v : ℕ) where
    abbrev entries' : List ℕ
    entries' = set entries (c * m + j) v

    abbrev was : ℕ
    was = get_or entries (c * m + j) 0

    -- the entries of another place are as they were
    other : (k i : ℕ) → i < m → (k ≢ c) ⊎ (i ≢ j) → get_or entries' (k * m + i) 0 ≡ get_or entries (k * m + i) 0
    other k i h elsewhere = get_or-set_other entries (c * m + j) (k * m + i) v 0 λ same.
        let (same_kind, same-mark) = place_split {k = k} {k' = c} h mark-in same in
        ⊎_elim (λ ne. ne same_kind) (λ ne. ne same-mark) elsewhere

    moved : disputes_at s.kinds m entries' j + one_if (is_dispute was) ≡ disputes_at s.kinds m entries j + one_if (is_dispute v)
    unfolding disputes_at
    moved =
        count_changed (λ k. is_dispute (get_or entries (k * m + j) 0)) (λ k. is_dispute (get_or entries' (k * m + j) 0)) s.kinds c kind_in
        (λ k _ ne. ap is_dispute (sym (other k j mark-in (inl ne))))
        ∙ ap (λ (x : ℕ). disputes_at s.kinds m entries j + one_if (is_dispute x)) (get_or-set_same entries (c * m + j) v 0 place-in)

    kept : (i : ℕ) → i < m → i ≢ j → disputes_at s.kinds m entries' i ≡ disputes_at s.kinds m entries i
    unfolding disputes_at
    kept i h ne = count_same _ _ s.kinds (λ k _. ap is_dispute (other k i h (inr ne)))

    pub counted_set : Counted m entries' (set counts j (counted_anew (get_or counts j 0) was v))
    counted_set = record {
      kinds = s.kinds;
      few = s.few;
      size = length-set entries (c * m + j) v ∙ s.size;
      counts_right = disputes_ext s.kinds m entries' _ (length-set counts j _ ∙ counted_length s) at;
    }
      where
        at : (i : ℕ) → i < m → get_or (set counts j (counted_anew (get_or counts j 0) was v)) i 0 ≡ disputes_at s.kinds m entries' i
        at i h = by_cases (ℕ_discrete i j)
            (λ (same : i ≡ j). subst (λ (x : ℕ). get_or (set counts j (counted_anew (get_or counts j 0) was v)) x 0 ≡ disputes_at s.kinds m entries' x) (sym same)
            (get_or-set_same counts j _ 0 counted_room.0 ∙ omega (arith, here, moved, counted_room.1)))
            (λ ne.
            get_or-set_other counts j i _ 0 ne ∙ ap (λ (l : List ℕ). get_or l i 0) s.counts_right ∙ disputes_at_mark s.kinds m entries i h ∙ sym (kept i h ne))
