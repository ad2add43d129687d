-- The books whose tables have their lengths and are sound.
--     Consistent             such a book; opened_consistent, call_consistent: an accepted open gives one, every call keeps it
--     tested_consistent      tables that pass the checks of shape and soundness are one; edit_consistent: every edit keeps it
--     one_size, same_size    only one n and one m fit a book's tables
--     consistent_agree       between two of the same n and m: where every place of links and of rules holds the same number in both, every place of
--                            entries and of the dispute counts does too
-- Assumes nothing.
use mathlib.Core.Path.{◌≡◌, refl, sym, ap, ap₂, ◌∙◌, subst}
use mathlib.Core.Bool.{Bool, true, ◌&&◌, not, false≢true, and-eq-true_iff}
use mathlib.Core.List.{List, [], ◌∷◌, ◌++◌}
use mathlib.Core.Logic.{by_cases}
use Prim.Native.Nat.{ℕ, zero, suc, ◌+◌, ◌*◌, ◌<◌, ◌≤◌}
use native.Mathlib.Omega.{arith}
use native.Mathlib.Nat.{lt_of_le_of_lt, mul-le-mul_left, mul-lt-mul_of_pos_right, le_of_lt, lt_irrefl, eq_of_mul-eq-mul_left, zero-mul, suc-mul}
use native.Mathlib.Numerals.{add-one}
use native.Mathlib.Decide.{dec_lt}
use borrow.Author.Tests.{ltb-true, not-true}
use lib.Dec.{eqb, ltb}
use lib.ListN.{length, get_or, replicate, set, length-set, replicate-append-replicate}
use lib.Seq.{ext_get_or}
use Rattle.inheritance.specs.Above.{Chain, link, step, Acyclic}
use Rattle.inheritance.proofs.AboveLaws.{chainless_acyclic, count_none}
use Rattle.inheritance.proofs.LookupLaws.{lookup_bare}
use Rattle.inheritance.specs.Entry.{entry_of}
use Rattle.tables.specs.Reply.{given}
use Rattle.tables.specs.Tables.{Tables, lent, shaped, LengthsOf, up_of, own_of, entry_at, listed, grid, entries_of, bytes_right, sound}
use Rattle.tables.specs.Tables.{is_dispute, disputes_at, disputes_of}
use Rattle.tables.specs.Calls as calls
use Rattle.tables.specs.Calls.{zeros}
use Rattle.tables.specs.Lists.{Change, edit_outcome}
use Rattle.tables.specs.Books.{Request, Call, answer_to, after, Agree}
use Rattle.tables.specs.Lists.Change.{add_rule, take_rule, add_link, take_link}
use Rattle.tables.specs.Books.Request.{open_book, edit, edit_all, find, parties, inspect, refresh}
use Rattle.tables.proofs.CallLaws.{check_given, check_holds, find_keeps, parties_keeps, inspect_keeps}
use Rattle.tables.proofs.DisputeLaws.{length_disputes}
use Rattle.tables.proofs.EditLaws.{passed, changed_bytes, added_acyclic, taken_acyclic}
use Rattle.tables.proofs.ListLaws.{list_keeps}
use Rattle.tables.proofs.ShapeLaws.{sized_facts, facts_sized, shape_sized, zeros_lengths}
use Rattle.tables.proofs.SoundLaws.{Sound, means_sound, bytes_mean, free_means, length_entries_of}
use Rattle.tables.proofs.TableLaws.{length_tallied}

both_below : {n c p : ℕ} → (ltb c n && ltb p n) ≡ true → (c < n) × (p < n)
both_below {n} {c} {p} e = let (hc, hp) = (and-eq-true_iff (ltb c n) _).0 e in (ltb-true _ _ hc, ltb-true _ _ hp)

-- ---- only one n and one m fit a book's tables

square_lt : (n k : ℕ) → n < k → n * n < k * k
square_lt n k h = lt_of_le_of_lt (mul-le-mul_left n (le_of_lt h)) (mul-lt-mul_of_pos_right h (omega arith))

root : (n k : ℕ) → n * n ≡ k * k → n ≡ k
root n k e = by_cases (dec_lt n k) (λ h. absurd (lt_irrefl _ (subst (λ (x : ℕ). x < k * k) e (square_lt n k h))))
    (λ h. by_cases (dec_lt k n) (λ g. absurd (lt_irrefl _ (subst (λ (x : ℕ). k * k < x) e (square_lt k n g)))) (λ g. omega arith))

pub one_size : (n m n' m' : ℕ) (t : Tables) → LengthsOf n m t → LengthsOf n' m' t → (n' ≡ n) × (m' ≡ m)
one_size n m n' m' t s s' =
    let n-same : n' ≡ n = root n' n (sym s'.links_length ∙ s.links_length) in
    let places : n' * m' ≡ n * m = omega (arith, s.rules_length, s'.rules_length) in
    (n-same, eq_of_mul-eq-mul_left n s.kinds.0 m' m (ap (λ (x : ℕ). x * m') (sym n-same) ∙ places))

-- ---- a book whose tables have their lengths and are sound

pub record Consistent (n m : ℕ) (t : Tables) : Type 0 where
  pub lengths : LengthsOf n m t
  pub right : Sound n m t

module _ {n m : ℕ} {t : Tables} (s : Consistent n m t) where
  pub consistent_shaped : shaped n m t ≡ true
  consistent_shaped = facts_sized 1 1 n m _ _ _ _ _ s.lengths

  pub consistent_sound : sound n m t ≡ true
  consistent_sound = means_sound n m t (shape_sized n m t s.lengths).entries_size s.right

-- tables that pass the checks of shape and soundness
pub tested_consistent : (n m : ℕ) (t : Tables) → shaped n m t ≡ true → sound n m t ≡ true → Consistent n m t
tested_consistent n m t fits is_sound = let s = passed n m t fits is_sound in record { lengths = s.lengths; right = s.before }

-- ---- an empty book is such a one

pub zeros_at : (k i : ℕ) → ◌≡◌ {A = ℕ} (get_or (replicate k 0) i 0) 0
zeros_at zero i = refl
zeros_at (suc k) zero = refl
zeros_at (suc k) (suc i) = zeros_at k i

listed_zeros : (f : ℕ → ℕ) (k : ℕ) → ((i : ℕ) → f i ≡ 0) → listed f k ≡ replicate k 0
unfolding listed
listed_zeros f zero z = refl
listed_zeros f (suc k) z =
    ap₂ (λ (l : List ℕ) (x : ℕ). l ++ (x ∷ [])) (listed_zeros f k z) (z k) ∙ replicate-append-replicate k 1 0 ∙ ap (λ (x : ℕ). replicate x 0) (add-one k)

grid_zeros : (f : ℕ → ℕ → ℕ) (m k : ℕ) → ((c i : ℕ) → f c i ≡ 0) → grid f m k ≡ replicate (k * m) 0
unfolding grid
grid_zeros f m zero z = ap (λ (x : ℕ). replicate x 0) (sym (zero-mul m))
grid_zeros f m (suc k) z =
    ap₂ ◌++◌ (grid_zeros f m k z) (listed_zeros (f k) m (z k)) ∙ replicate-append-replicate (k * m) m 0 ∙ ap (λ (x : ℕ). replicate x 0) (sym (suc-mul k m))

none_yet : (n m : ℕ) (up : ℕ → ℕ → Bool) → entries_of n m up (replicate (n * m) 0) ≡ replicate (n * m) 0
unfolding entries_of entry_at
none_yet n m up = grid_zeros _ m n λ c j.
    ap entry_of (lookup_bare n up (own_of m (replicate (n * m) 0) j) (λ k. ap (λ (x : ℕ). not (eqb x 0)) (zeros_at (n * m) (k * m + j))) c)

-- entries of 0 are none of a dispute
none_disputed : (n m : ℕ) → disputes_of n m (replicate (n * m) 0) ≡ replicate m 0
unfolding disputes_of disputes_at
none_disputed n m = listed_zeros _ m λ j. count_none _ n λ c _. ap is_dispute (zeros_at (n * m) (c * m + j))

zeros_low : (k i : ℕ) → get_or (replicate k 0) i 0 ≤ 1
zeros_low k i = rw (zeros_at k i) (omega arith)

no_chain_yet : (n : ℕ) {c p : ℕ} → Chain n (up_of n (replicate (n * n) 0)) c p → ⊥
no_chain_yet n (link {c} {p} l u) = false≢true (sym (ap (λ (x : ℕ). eqb x 1) (zeros_at (n * n) (c * n + p))) ∙ u)
no_chain_yet n (step {c} {q} l u r) = false≢true (sym (ap (λ (x : ℕ). eqb x 1) (zeros_at (n * n) (c * n + q))) ∙ u)

zeros_consistent : (n m : ℕ) (t : Tables) → LengthsOf n m t → Consistent n m (zeros n m)
zeros_consistent n m t s = record {
  lengths = zeros_lengths n m t s;
  right = record {
    bytes = λ i h. zeros_low (n * n) i;
    acyclic = chainless_acyclic n (up_of n (replicate (n * n) 0)) (λ c l. no_chain_yet n);
    entries = sym (none_yet n m (up_of n (replicate (n * n) 0)));
    disputes = sym (none_disputed n m);
  };
}

-- ---- every call keeps it

module _ (n m : ℕ) (t : Tables) (s : Consistent n m t) where
  -- a call whose n' and m' fit is put to the book itself
  pub same_size : (n' m' : ℕ) → shaped n' m' t ≡ true → (n' ≡ n) × (m' ≡ m)
  same_size n' m' fits = one_size n m n' m' t s.lengths (sized_facts 1 1 n' m' _ _ _ _ _ fits)

  -- entries that such a call works out anew, and their dispute counts
  worked_anew : (n' m' : ℕ) (links rules tally : List ℕ) → shaped n' m' t ≡ true
      → length links ≡ length t.links → length rules ≡ length t.rules → length tally ≡ length t.tally
      → ((i : ℕ) → i < n' * n' → get_or links i 0 ≤ 1) → Acyclic n' (up_of n' links)
      → let entries = entries_of n' m' (up_of n' links) rules in Consistent n m (lent links rules entries tally (disputes_of n' m' entries))
  worked_anew n' m' links rules tally fits same-links same-rules same-tally bytes acyclic =
      let (n-same, m-same) = same_size n' m' fits in
      let size = sized_facts 1 1 n' m' _ _ _ _ _ fits in
      let entries = entries_of n' m' (up_of n' links) rules in
      let left = lent links rules entries tally (disputes_of n' m' entries) in
      subst (λ (a : ℕ). Consistent a m left) n-same (subst (λ (b : ℕ). Consistent n' b left) m-same (record {
        lengths = record {
          kinds = size.kinds;
          marks = size.marks;
          links_length = same-links ∙ size.links_length;
          rules_length = same-rules ∙ size.rules_length;
          entries_length = omega (arith, length_entries_of n' m' (up_of n' links) rules);
          tally_length = same-tally ∙ size.tally_length;
          disputes_length = omega (arith, length_disputes n' m' entries);
        };
        right = record { bytes = bytes; acyclic = acyclic; entries = refl; disputes = refl };
      }))

  abbrev Stays : Tables → Type 0
  Stays = Consistent n m

  accepted_consistent : (n' m' by : ℕ) (links rules : List ℕ) → shaped n' m' t ≡ true → length links ≡ length t.links → length rules ≡ length t.rules
      → ((i : ℕ) → i < n' * n' → get_or links i 0 ≤ 1) → Acyclic n' (up_of n' links) → Stays (calls.accepted n' m' t by links rules).tables
  unfolding calls.accepted
  accepted_consistent n' m' by links rules fits same-links same-rules = worked_anew n' m' links rules _ fits same-links same-rules (length_tallied by t.tally)

  -- an edit of a rule keeps the links, whose bytes and chains were tested
  rule_consistent : (n' m' by place handling : ℕ) → shaped n' m' t ≡ true → sound n' m' t ≡ true
      → Stays (calls.accepted n' m' t by t.links (set t.rules place handling)).tables
  rule_consistent n' m' by place handling fits is_sound =
      let before = (passed n' m' t fits is_sound).before in
      accepted_consistent n' m' by _ _ fits refl (length-set t.rules _ _) before.bytes before.acyclic

  link_consistent : (n' m' by c p byte : ℕ) → byte ≤ 1 → c < n' → p < n' → shaped n' m' t ≡ true → sound n' m' t ≡ true
      → Acyclic n' (up_of n' (set t.links (c * n' + p) byte)) → Stays (calls.accepted n' m' t by (set t.links (c * n' + p) byte) t.rules).tables
  link_consistent n' m' by c p byte small hc hp fits is_sound acyclic =
      accepted_consistent n' m' by _ _ fits (length-set t.links _ _) refl (changed_bytes n' m' t (passed n' m' t fits is_sound) c p hc hp byte small) acyclic

  pub edit_consistent : (n' m' by : ℕ) (e : Change) → Stays (edit_outcome n' m' t by e).tables
  unfolding edit_outcome calls.add_rule calls.take_rule calls.add_link calls.take_link
  edit_consistent n' m' by (add_rule k j h) =
      check_holds 1 t _ Stays _ s λ fits. check_holds 13 t _ Stays _ s λ _. check_holds 2 t _ Stays _ s λ _. check_holds 3 t _ Stays _ s λ _.
      check_holds 4 t _ Stays _ s λ _. check_holds 5 t _ Stays _ s λ is_sound. rule_consistent n' m' by _ _ fits is_sound
  edit_consistent n' m' by (take_rule k j) =
      check_holds 1 t _ Stays _ s λ fits. check_holds 13 t _ Stays _ s λ _. check_holds 2 t _ Stays _ s λ _. check_holds 3 t _ Stays _ s λ _.
      check_holds 5 t _ Stays _ s λ is_sound. check_holds 6 t _ Stays _ s λ _. rule_consistent n' m' by _ _ fits is_sound
  edit_consistent n' m' by (add_link c p) =
      check_holds 1 t _ Stays _ s λ fits. check_holds 13 t _ Stays _ s λ _. check_holds 2 t _ Stays _ s λ within. check_holds 5 t _ Stays _ s λ is_sound.
      check_holds 7 t _ Stays _ s λ _. check_holds 9 t _ Stays _ s λ no_cycle.
      let (hc, hp) = both_below within in
      link_consistent n' m' by c p 1 (omega arith) hc hp fits is_sound (added_acyclic n' m' t (passed n' m' t fits is_sound) c p hc hp (not-true _ no_cycle))
  edit_consistent n' m' by (take_link c p) =
      check_holds 1 t _ Stays _ s λ fits. check_holds 13 t _ Stays _ s λ _. check_holds 2 t _ Stays _ s λ within. check_holds 5 t _ Stays _ s λ is_sound.
      check_holds 8 t _ Stays _ s λ _.
      let (hc, hp) = both_below within in
      link_consistent n' m' by c p 0 (omega arith) hc hp fits is_sound (taken_acyclic n' m' t (passed n' m' t fits is_sound) c p hc hp)

module _ (n m : ℕ) (t : Tables) (s : Consistent n m t) where
  abbrev Kept : Tables → Type 0
  Kept = Consistent n m

  request_consistent : (n' m' : ℕ) (r : Request) → Kept (answer_to n' m' t r).tables
  unfolding answer_to calls.open_book calls.refresh
  request_consistent n' m' open_book = check_holds 1 t _ Kept _ s λ fits.
      let (n-same, m-same) = same_size n m t s n' m' fits in
      rw (n-same, m-same) (zeros_consistent n m t s.lengths)
  request_consistent n' m' (edit by e) = edit_consistent n m t s n' m' by e
  request_consistent n' m' (edit_all by es) = list_keeps n' m' t by Kept (λ u e s'. edit_consistent n m u s' n' m' by e) s es
  request_consistent n' m' (find k j) = rw (find_keeps n' m' t k j) s
  request_consistent n' m' (parties k j) = rw (parties_keeps n' m' t k j) s
  request_consistent n' m' inspect = rw (inspect_keeps n' m' t) s
  request_consistent n' m' refresh = check_holds 1 t _ Kept _ s λ fits. check_holds 5 t _ Kept _ s λ right.
      let (bytes, free) = (and-eq-true_iff (bytes_right n' t.links) _).0 right in
      worked_anew n m t s n' m' _ _ _ fits refl refl refl (bytes_mean n' t.links bytes) (free_means n' (up_of n' t.links) free)

pub call_consistent : (n m : ℕ) (call : Call) (t : Tables) → Consistent n m t → Consistent n m (after call t)
call_consistent n m call t s = request_consistent n m t s call.n call.m call.request

-- ---- a book just opened

pub opened_consistent : (n m : ℕ) (t : Tables) → (calls.open_book n m t).reply ≡ given tt → Consistent n m (calls.open_book n m t).tables
unfolding calls.open_book
opened_consistent n m t = check_given 1 t _ (Consistent n m) _ λ fits _. zeros_consistent n m t (sized_facts 1 1 n m _ _ _ _ _ fits)

-- ---- two books

same_table : {size : ℕ} (xs ys : List ℕ) → length xs ≡ size → length ys ≡ size → Agree xs ys → xs ≡ ys
same_table xs ys hx hy agree = ext_get_or 0 xs ys (hx ∙ sym hy) (λ i _. agree i)

-- two such books with the same links and rules have the same entries and the same dispute counts
pub consistent_agree : (n m : ℕ) (a b : Tables) → Consistent n m a → Consistent n m b
    → Agree a.links b.links → Agree a.rules b.rules → Agree a.entries b.entries × Agree a.disputes b.disputes
consistent_agree n m a b s t same-links same-rules =
    let links = same_table a.links b.links s.lengths.links_length t.lengths.links_length same-links in
    let rules = same_table a.rules b.rules s.lengths.rules_length t.lengths.rules_length same-rules in
    let entries = s.right.entries ∙ ap₂ (λ (x y : List ℕ). entries_of n m (up_of n x) y) links rules ∙ sym t.right.entries in
    let disputes = s.right.disputes ∙ ap (disputes_of n m) entries ∙ sym t.right.disputes in
    (λ i. ap (λ (l : List ℕ). get_or l i 0) entries, λ i. ap (λ (l : List ℕ). get_or l i 0) disputes)
