-- Entries that each follow by one step from those of the parents are the lookups, and what code can test is soundness.
--     Stepped                            each entry is what its kind's own rule, the kinds left and its parents' entries give
--     Looked                             each entry is its lookup
--     right_stepped, stepped_right       `Stepped` is the test `right`
--     step_looked                        where no kind is above itself: a kind whose parents have their lookups has its own by one step
--     stepped_looked, looked_stepped     there `Stepped` and `Looked` are the same
--     entries_looked, looked_entries     `Looked` tables are those of `entries_of`
--     free_means, bytes_mean             what `well_linked` and `bytes_right` test, as facts; means_free, mean_bytes: and back
--     acyclic_agree, free_agree, entries_of_agree     only the links below n play a part
--     Sound, sound_means, means_sound    what `sound` tests, as facts
--     over_by_steps, sound_by_steps      the tables are sound exactly if they are well linked, every entry follows by one step and every count is right
-- Assumes nothing.
use mathlib.Core.Path.{◌≡◌, refl, sym, ◌∙◌, ap}
use mathlib.Core.Bool.{Bool, true, false, ◌&&◌, not, and-eq-true_iff}
use mathlib.Core.List.{List}
use Prim.Native.Nat.{ℕ, ◌+◌, ◌*◌, ◌<◌, ◌≤◌}
use native.Mathlib.Nat.{lt_of_lt_of_le}
use native.Mathlib.Omega.{arith}
use borrow.Author.Tests.{eqb-true, eq-eqb, leb-true, le-leb, not-true}
use lib.Dec.{eqb}
use lib.ListN.{length, get_or}
use lib.Seq.{ext_get_or}
use Rattle.inheritance.specs.declared.Lookup.{Lookup}
use Rattle.inheritance.specs.declared.Lookup.TheVariants.{None, Rule, Dispute}
use Rattle.inheritance.specs.Above.{Acyclic}
use Rattle.inheritance.specs.Lookup.{left, lookup}
use Rattle.inheritance.specs.Step.{step}
use Rattle.inheritance.proofs.AboveLaws.{above_same}
use Rattle.inheritance.proofs.MeetLaws.{given_same}
use Rattle.inheritance.proofs.Bools.{same_bool}
use Rattle.inheritance.proofs.LeftLaws.{left_agree}
use Rattle.inheritance.proofs.LookupLaws.{InRange, lookup_range, unique_by}
use Rattle.inheritance.proofs.StepLaws.{step_same, step_keeps, lookup_step}
use Rattle.inheritance.specs.Entry.{entry_of, lookup_of}
use Rattle.tables.specs.Tables.{Tables, up_of, own_of, entry_at, entries_of, disputes_of}
use Rattle.tables.specs.Tables.{all_below, entry_right, count_right, bytes_right, well_linked, sound_over, sound}
use Rattle.tables.specs.Step.{read, stepped, kind_right, right}
use Rattle.tables.proofs.DisputeLaws.{counts_mean, mean_counts}
use Rattle.inheritance.proofs.EntryLaws.{Coded, entry_lookup, coded_none, coded_rule, coded_dispute, coded_read}
use Rattle.tables.proofs.TableLaws.{below_true, true_below, below_same, length_grid, grid_at, grid_ext}

abbrev pub Stepped : (n m : ℕ) (up : ℕ → ℕ → Bool) (rules entries : List ℕ) → Type 0
Stepped n m up rules entries = (c j : ℕ) → c < n → j < m → get_or entries (c * m + j) 0 ≡ stepped n m up rules entries c j

abbrev pub Looked : (n m : ℕ) (up : ℕ → ℕ → Bool) (rules entries : List ℕ) → Type 0
Looked n m up rules entries = (c j : ℕ) → c < n → j < m → get_or entries (c * m + j) 0 ≡ entry_at n m up rules c j

-- ---- the test of one step

module _ (n m : ℕ) (up : ℕ → ℕ → Bool) (rules entries : List ℕ) where
  pub right_stepped : right n m up rules entries ≡ true → Stepped n m up rules entries
  unfolding right kind_right
  right_stepped e c j hc hj = eqb-true _ _ (below_true _ m (below_true _ n e c hc) j hj)

  pub stepped_right : Stepped n m up rules entries → right n m up rules entries ≡ true
  unfolding right kind_right
  stepped_right w = true_below _ n (λ c hc. true_below _ m (λ j hj. eq-eqb _ _ (w c j hc hj)))

-- only the links below n play a part
module _ (n m : ℕ) (up up' : ℕ → ℕ → Bool) (rules entries : List ℕ) (agree : (c p : ℕ) → c < n → p < n → up c p ≡ up' c p) where
  pub stepped_up : (c j : ℕ) → c < n → stepped n m up rules entries c j ≡ stepped n m up' rules entries c j
  unfolding stepped
  stepped_up c j hc =
      ap entry_of (step_same n up up' (own_of m rules j) (own_of m rules j) (read m entries j) (read m entries j) c _ _ refl
      (λ o ho. left_agree n up up' agree (own_of m rules j) (own_of m rules j) (λ _ _. refl) c o hc ho) (λ p hp. given_same (up c p) _ _ (agree c p hc hp) (λ _. refl)))

  pub right_up : right n m up rules entries ≡ right n m up' rules entries
  unfolding right kind_right
  right_up = below_same _ _ n (λ c hc. below_same _ _ m (λ j hj. ap (eqb (get_or entries (c * m + j) 0)) (stepped_up c j hc)))

-- ---- one step and the lookups

in_range_coded : (n : ℕ) (own : ℕ → Bool) (v : Lookup) → n ≤ 256 → InRange n own v → Coded v
in_range_coded n own None h r = coded_none
in_range_coded n own (Rule k) h r = coded_rule k.0 (lt_of_lt_of_le r.0 h)
in_range_coded n own (Dispute k) h r = coded_dispute k.0

module _ (n m : ℕ) (up : ℕ → ℕ → Bool) (rules entries : List ℕ) (kinds : n ≤ 256) where
  -- an entry that is the lookup's stands for it
  pub lookup_read : (p j : ℕ) → p < n → lookup_of (entry_at n m up rules p j) ≡ lookup n up (own_of m rules j) p
  unfolding entry_at
  lookup_read p j hp = in_range_coded n (own_of m rules j) (lookup n up (own_of m rules j) p) kinds (lookup_range n up (own_of m rules j) p hp)

  step_coded : (c j : ℕ) → c < n → Coded (step n up (own_of m rules j) (left n up (own_of m rules j) c) (read m entries j) c)
  unfolding read
  step_coded c j hc =
      step_keeps Coded n up (own_of m rules j) (left n up (own_of m rules j) c) (read m entries j) c hc
      coded_none (λ o ho. coded_rule o (omega arith)) (coded_dispute c) (λ p hp u. coded_read (get_or entries (p * m + j) 0))

  module _ (acyclic : Acyclic n up) where
    pub step_looked : (c j : ℕ) → c < n → ((p : ℕ) → p < n → up c p ≡ true → get_or entries (p * m + j) 0 ≡ entry_at n m up rules p j)
        → stepped n m up rules entries c j ≡ entry_at n m up rules c j
    unfolding stepped entry_at read
    step_looked c j hc parents =
        ap entry_of
        (lookup_step n up (own_of m rules j) acyclic (left n up (own_of m rules j) c) (read m entries j) c hc (λ o ho. refl)
        (λ p hp u. ap lookup_of (parents p hp u) ∙ lookup_read p j hp))

    pub looked_stepped : Looked n m up rules entries → Stepped n m up rules entries
    looked_stepped r c j hc hj = r c j hc hj ∙ sym (step_looked c j hc (λ p hp _. r p j hp hj))

    pub stepped_looked : Stepped n m up rules entries → Looked n m up rules entries
    unfolding stepped entry_at read
    stepped_looked w c j hc hj =
        sym (entry_lookup (get_or entries (c * m + j) 0))
        ∙ ap entry_of
        (unique_by n up (own_of m rules j) acyclic (λ v d. step n up (own_of m rules j) (left n up (own_of m rules j) d) v d)
        (λ v d hd parents. lookup_step n up (own_of m rules j) acyclic (left n up (own_of m rules j) d) v d hd (λ o ho. refl) parents)
        (read m entries j) (λ d hd. ap lookup_of (w d j hd hj) ∙ step_coded d j hd) c hc)

-- ---- as the definitions have it

module _ (n : ℕ) (up : ℕ → ℕ → Bool) where
  pub free_means : well_linked n up ≡ true → Acyclic n up
  unfolding well_linked
  free_means e c h = not-true _ (below_true _ n e c h)

  pub means_free : Acyclic n up → well_linked n up ≡ true
  unfolding well_linked
  means_free acyclic = true_below _ n (λ c h. ap not (acyclic c h))

module _ (n m : ℕ) (up : ℕ → ℕ → Bool) (rules : List ℕ) where
  pub length_entries_of : length (entries_of n m up rules) ≡ n * m
  unfolding entries_of
  length_entries_of = length_grid _ m n

  pub entries_of_at : (c j : ℕ) → c < n → j < m → get_or (entries_of n m up rules) (c * m + j) 0 ≡ entry_at n m up rules c j
  unfolding entries_of
  entries_of_at c j hc hj = grid_at _ m n c j hc hj

  module _ (entries : List ℕ) where
    pub looked_entries : length entries ≡ n * m → Looked n m up rules entries → entries ≡ entries_of n m up rules
    unfolding entries_of
    looked_entries size r = grid_ext _ m n entries size r

    pub entries_looked : entries ≡ entries_of n m up rules → Looked n m up rules entries
    entries_looked e c j hc hj = ap (λ (l : List ℕ). get_or l (c * m + j) 0) e ∙ entries_of_at c j hc hj

    module _ (size : length entries ≡ n * m) where
      pub entries_true : all_below (entry_right n m up rules entries) (n * m) ≡ true → entries ≡ entries_of n m up rules
      entries_true e =
          ext_get_or 0 entries (entries_of n m up rules) (size ∙ sym length_entries_of) (λ i h. eqb-true _ _ (below_true _ (n * m) e i (rw size at h)))

      true_entries : entries ≡ entries_of n m up rules → all_below (entry_right n m up rules entries) (n * m) ≡ true
      true_entries e = true_below _ (n * m) (λ i h. eq-eqb _ _ (ap (λ (l : List ℕ). get_or l i 0) e))

      pub over_by_steps : (disputes : List ℕ) → n ≤ 256
          → sound_over n m up rules entries disputes ≡ (well_linked n up && right n m up rules entries && all_below (count_right n m entries disputes) m)
      unfolding sound_over
      over_by_steps disputes kinds =
          ap (λ (b : Bool). b && all_below (count_right n m entries disputes) m)
          (and_when (well_linked n up) _ _ (λ e. same_bool _ _ (to (free_means n up e)) (from (free_means n up e))))
        where
          and_when : (a b c : Bool) → (a ≡ true → b ≡ c) → (a && b) ≡ (a && c)
          and_when true b c same = same refl
          and_when false b c same = refl

          to : Acyclic n up → all_below (entry_right n m up rules entries) (n * m) ≡ true → right n m up rules entries ≡ true
          to acyclic e = stepped_right n m _ _ _ (looked_stepped n m _ _ _ kinds acyclic (entries_looked (entries_true e)))

          from : Acyclic n up → right n m up rules entries ≡ true → all_below (entry_right n m up rules entries) (n * m) ≡ true
          from acyclic e = true_entries (looked_entries size (stepped_looked n m _ _ _ kinds acyclic (right_stepped n m _ _ _ e)))

-- ---- links that agree below n

module _ (n : ℕ) (up up' : ℕ → ℕ → Bool) (agree : (c p : ℕ) → c < n → p < n → up c p ≡ up' c p) where
  pub acyclic_agree : Acyclic n up → Acyclic n up'
  acyclic_agree acyclic c h = sym (above_same n up up' agree c c h h) ∙ acyclic c h

  pub free_agree : well_linked n up ≡ well_linked n up'
  unfolding well_linked
  free_agree = below_same _ _ n (λ c h. ap not (above_same n up up' agree c c h h))

  pub entries_of_agree : (m : ℕ) → n ≤ 256 → Acyclic n up → (rules : List ℕ) → entries_of n m up rules ≡ entries_of n m up' rules
  entries_of_agree m kinds acyclic rules =
      let entries = entries_of n m up rules in
      let steps = looked_stepped n m up rules entries kinds acyclic (entries_of_at n m up rules) in
      looked_entries n m up' rules entries (length_entries_of n m up rules)
      (stepped_looked n m up' rules entries kinds (acyclic_agree acyclic) (λ c j hc hj. steps c j hc hj ∙ stepped_up n m up up' rules entries agree c j hc))

-- ---- the tables

module _ (n : ℕ) (links : List ℕ) where
  pub bytes_mean : bytes_right n links ≡ true → (i : ℕ) → i < n * n → get_or links i 0 ≤ 1
  unfolding bytes_right
  bytes_mean e i h = leb-true _ _ (below_true _ (n * n) e i h)

  pub mean_bytes : ((i : ℕ) → i < n * n → get_or links i 0 ≤ 1) → bytes_right n links ≡ true
  unfolding bytes_right
  mean_bytes bytes = true_below _ (n * n) (λ i h. le-leb _ _ (bytes i h))

module _ (n m : ℕ) (t : Tables) where
  pub record Sound : Type 0 where
    pub bytes : (i : ℕ) → i < n * n → get_or t.links i 0 ≤ 1
    pub acyclic : Acyclic n (up_of n t.links)
    pub entries : t.entries ≡ entries_of n m (up_of n t.links) t.rules
    pub disputes : t.disputes ≡ disputes_of n m t.entries

  module _ (size : length t.entries ≡ n * m) where
    pub sound_means : length t.disputes ≡ m → sound n m t ≡ true → Sound
    unfolding sound sound_over
    sound_means marks-size e =
        let (bytes, over) = (and-eq-true_iff (bytes_right n t.links) _).0 e in
        let (before-counts, counts) = (and-eq-true_iff _ (all_below (count_right n m t.entries t.disputes) m)).0 over in
        let (free, right) = (and-eq-true_iff (well_linked n (up_of n t.links)) _).0 before-counts in
        record {
          bytes = bytes_mean n t.links bytes;
          acyclic = free_means n (up_of n t.links) free;
          entries = entries_true n m (up_of n t.links) t.rules t.entries size right;
          disputes = counts_mean n m t.entries t.disputes marks-size counts;
        }

    pub means_sound : Sound → sound n m t ≡ true
    unfolding sound sound_over
    means_sound s =
        (and-eq-true_iff _ _).1 (
          mean_bytes n t.links s.bytes,
          (and-eq-true_iff _ _).1 (
            (and-eq-true_iff _ _).1
                (means_free n (up_of n t.links) s.acyclic, true_entries n m (up_of n t.links) t.rules t.entries size s.entries),
            mean_counts n m t.entries t.disputes s.disputes,
          ),
        )

    pub sound_by_steps : n ≤ 256
        → sound n m t ≡ (bytes_right n t.links && (well_linked n (up_of n t.links) && right n m (up_of n t.links) t.rules t.entries
        && all_below (count_right n m t.entries t.disputes) m))
    unfolding sound
    sound_by_steps kinds =
        ap (λ (b : Bool). bytes_right n t.links && b) (over_by_steps n m (up_of n t.links) t.rules t.entries size t.disputes kinds)
