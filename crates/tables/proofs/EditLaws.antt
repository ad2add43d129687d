-- What holds of every accepted edit, and of refresh, whatever tables it was lent.
--     add_rule_edits, take_rule_edits     the one rule changes, and `RuleEdited` holds
--     add_link_edits, take_link_edits     the one link changes, and `LinkEdited` holds
--     refresh_renews                      `Refreshed` holds of an accepted refresh
--     replaced_none                       a replaced handling returns 0
--     untouched_none, none_kept           where the parent's entry for a mark is 0, an edit of the link to it can touch nothing, and no entry of the mark changes
--     Passed, passed                      what a call knows whose checks of shape and soundness were passed
--     changed_bytes                       every link byte is 0 or 1 after a link is added or taken
--     added_acyclic, taken_acyclic        no kind is above itself after a link is added or taken
-- Each of the four says: only the stated place of rules or links changes; the tables are sound again; entries differ only where the edit can touch, which comes
-- out the same before and after; a dispute count differs only where the entry of some kind for the mark does; the count is the number of places whose
-- entry differs; of the tally only the caller's number moves.
-- Assumes nothing.
use mathlib.Core.Path.{◌≡◌, refl, sym, ◌∙◌, ap, subst, fun_ext}
use mathlib.Core.Logic.{◌≢◌, ◌↔◌, ◌⊎◌, inl, inr, ⊎_elim, by_cases}
use mathlib.Core.Bool.{Bool, true, false, ◌||◌, not, true≢false, and-eq-true_iff}
use mathlib.Core.List.{List}
use Prim.Native.Nat.{ℕ, ◌+◌, ◌*◌, ◌<◌, ◌≤◌}
use native.Mathlib.Decide.{ℕ_discrete}
use native.Mathlib.Omega.{arith}
use borrow.Author.Tests.{ne_eqb, eqb-false, ltb-true, not-true}
use lib.Arith.{digits_lt}
use lib.Dec.{eqb, ltb}
use lib.ListN.{length, get_or, set, length-set}
use lib.Seq.{get_or-set_same, get_or-set_other}
use Rattle.inheritance.specs.declared.Lookup.{Lookup}
use Rattle.inheritance.specs.declared.Lookup.TheVariants.{None, Rule, Dispute}
use Rattle.inheritance.specs.Above.{Upto, Acyclic, above, count}
use Rattle.inheritance.specs.Lookup.{Below, lookup}
use Rattle.inheritance.proofs.AboveLaws.{SameBut, no_chain, upto_step, chain_above, link_acyclic, unlink_acyclic}
use Rattle.inheritance.proofs.TouchLaws.{below_carries, upto_carries, rule_touched, link_keeps_parent, link_touched}
use Rattle.tables.specs.Caller.{callers}
use Rattle.inheritance.specs.Entry.{entry_of}
use Rattle.tables.specs.Reply.{given}
use Rattle.tables.specs.Tables.{Tables, shaped, LengthsOf, Sized, up_of, own_of, entry_at, grid, entries_of, bytes_right, sound, differing, tallied}
use Rattle.tables.specs.Touch.{RuleTouches, LinkTouches}
use Rattle.tables.specs.Edit.{OnePlace, apart, Edited, RuleEdited, LinkEdited, Refreshed}
use Rattle.tables.specs.Calls.{accepted, add_rule, take_rule, add_link, take_link, refresh}
use Rattle.tables.proofs.CallLaws.{check_given}
use Rattle.tables.proofs.DisputeLaws.{some_place}
use Rattle.tables.proofs.ShapeLaws.{sized_facts, shape_sized}
use Rattle.tables.proofs.SoundLaws.{bytes_mean, free_means, Sound, sound_means, means_sound, length_entries_of, entries_of_at, entries_looked}
use Rattle.tables.proofs.TableLaws.{place_split, differing_self, differing_count}

-- ---- one place set

pub set_one : (old : List ℕ) (i v : ℕ) → i < length old → OnePlace old (set old i v) i v
set_one old i v h = record {
  size = length-set old i v;
  there = get_or-set_same old i v 0 h;
  elsewhere = λ j apart. get_or-set_other old i j v 0 apart;
}

-- an entry of 0 is that of none
none_of_0 : (v : Lookup) → entry_of v ≡ 0 → v ≡ None
none_of_0 None e = refl
none_of_0 (Rule k) e = absurd (omega arith)
none_of_0 (Dispute k) e = absurd (omega arith)

accepted_count : (n m : ℕ) (t : Tables) (caller : ℕ) (links rules : List ℕ) (returned : ℕ) → (accepted n m t caller links rules).reply ≡ given returned
    → returned ≡ differing t.entries (entries_of n m (up_of n links) rules)
unfolding accepted
accepted_count n m t caller links rules returned is = cc

-- how many entries differ from their lookups, place by place
lookups_apart : (n m : ℕ) (up : ℕ → ℕ → Bool) (rules old : List ℕ) → length old ≡ n * m
    → differing old (entries_of n m up rules) ≡ count (apart old (entries_of n m up rules)) (n * m)
lookups_apart n m up rules old size =
    differing_count old (entries_of n m up rules) (size ∙ sym (length_entries_of n m up rules)) ∙ ap (λ (x : ℕ). count (apart old (entries_of n m up rules)) x) size

-- handling numbers play no part in the entries
entries_of_own : (n m : ℕ) (up : ℕ → ℕ → Bool) (rules rules' : List ℕ) → ((j c : ℕ) → own_of m rules j c ≡ own_of m rules' j c)
    → entries_of n m up rules ≡ entries_of n m up rules'
unfolding entries_of entry_at
entries_of_own n m up rules rules' same =
    ap (λ (own : ℕ → ℕ → Bool). grid (λ c j. entry_of (lookup n up (own j) c)) m n) (fun_ext (λ j. fun_ext (same j)))

module _ (n m : ℕ) (t : Tables) (size : length t.entries ≡ n * m) (before : Sound n m t) where
  -- ---- an accepted edit with these links and rules

  module _ (caller : ℕ) (links rules : List ℕ) (returned : ℕ) (is : (accepted n m t caller links rules).reply ≡ given returned) where
    abbrev after : Tables
    after = (accepted n m t caller links rules).tables

    entry_before : (k j : ℕ) → k < n → j < m → get_or t.entries (k * m + j) 0 ≡ entry_at n m (up_of n t.links) t.rules k j
    entry_before = entries_looked n m (up_of n t.links) t.rules t.entries before.entries

    entry_after : (k j : ℕ) → k < n → j < m → get_or after.entries (k * m + j) 0 ≡ entry_at n m (up_of n links) rules k j
    unfolding accepted
    entry_after = entries_of_at n m (up_of n links) rules

    -- entries that differ are of lookups that differ
    lookups_differ : (k j : ℕ) → k < n → j < m → get_or t.entries (k * m + j) 0 ≢ get_or after.entries (k * m + j) 0
        → lookup n (up_of n t.links) (own_of m t.rules j) k ≢ lookup n (up_of n links) (own_of m rules j) k
    unfolding entry_at
    lookups_differ k j hk hj differ same = differ (entry_before k j hk hj ∙ ap entry_of same ∙ sym (entry_after k j hk hj))

    accepted_edits : (Touches : Tables → ℕ → ℕ → Type 0) → caller < length t.tally
        → ((i : ℕ) → i < n * n → get_or links i 0 ≤ 1) → Acyclic n (up_of n links)
        → ((k j : ℕ) → k < n → j < m → get_or t.entries (k * m + j) 0 ≢ get_or after.entries (k * m + j) 0 → Touches t k j)
        → ((k j : ℕ) → k < n → j < m → Touches t k j ↔ Touches after k j)
        → Edited n m caller Touches t after returned
    unfolding accepted tallied
    accepted_edits Touches counts bytes acyclic touched same_reading = record {
      sound_after = means_sound n m after (length_entries_of n m (up_of n links) rules) (record { bytes = bytes; acyclic = acyclic; entries = refl; disputes = refl });
      tally_changed = set_one t.tally caller _ counts;
      touched = touched;
      same_reading = same_reading;
      recounted = λ j differ. some_place n m t.entries after.entries j (λ same. differ (ap (λ (l : List ℕ). get_or l j 0) before.disputes ∙ same));
      counted = accepted_count n m t caller links rules returned is ∙ lookups_apart n m (up_of n links) rules t.entries size;
    }

  -- ---- an edit of a rule

  module _ (kind mark handling : ℕ) (kind_in : kind < n) (mark-in : mark < m) (rules_size : length t.rules ≡ n * m) where
    abbrev ruled : List ℕ
    ruled = set t.rules (kind * m + mark) handling

    own_kept : (j c : ℕ) → j < m → (c ≢ kind) ⊎ (j ≢ mark) → own_of m t.rules j c ≡ own_of m ruled j c
    own_kept j c hj elsewhere =
        ap (λ (x : ℕ). not (eqb x 0)) (sym (get_or-set_other t.rules (kind * m + mark) (c * m + j) handling 0
        (λ same. let (same_kind, same-mark) = place_split {k = c} {k' = kind} hj mark-in same in
        ⊎_elim (λ ne. ne same_kind) (λ ne. ne same-mark) elsewhere)))

    pub rule_edits : (caller : ℕ) → caller < length t.tally → (returned : ℕ) → (accepted n m t caller t.links ruled).reply ≡ given returned
        → RuleEdited n m caller kind mark handling t (accepted n m t caller t.links ruled).tables returned
    unfolding accepted
    rule_edits caller counts returned is = record {
      links_kept = refl;
      rule_changed = set_one t.rules (kind * m + mark) handling (rw rules_size (digits_lt kind_in mark-in));
      below_same = below_same;
      edited = accepted_edits caller t.links ruled returned is (RuleTouches n m kind mark) counts before.bytes before.acyclic touched same_reading;
    }
      where
        up : ℕ → ℕ → Bool
        up = up_of n t.links

        touched : (k j : ℕ) → k < n → j < m → get_or t.entries (k * m + j) 0 ≢ get_or (accepted n m t caller t.links ruled).tables.entries (k * m + j) 0
            → RuleTouches n m kind mark t k j
        touched k j hk hj differ =
            let apart = lookups_differ caller t.links ruled returned is k j hk hj differ in
            record {
              below = (rule_touched n up before.acyclic (own_of m t.rules j) (own_of m ruled j) kind (λ c hc ne. own_kept j c hj (inl ne)) kind_in k hk apart).0;
              the_mark = by_cases (ℕ_discrete j mark) (λ same. same)
                  (λ ne. absurd (apart (ap (λ (own : ℕ → Bool). lookup n up own k) (fun_ext (λ c. own_kept j c hj (inr ne))))));
            }

        below_same : (k j : ℕ) → k < n → j < m → Below n up (own_of m t.rules j) kind k ↔ Below n up (own_of m ruled j) kind k
        below_same k j hk hj = (
          below_carries n up up (own_of m t.rules j) (own_of m ruled j) kind (λ c p hc hp ne. refl) (λ c hc ne. own_kept j c hj (inl ne)) hk,
          below_carries n up up (own_of m ruled j) (own_of m t.rules j) kind (λ c p hc hp ne. refl) (λ c hc ne. sym (own_kept j c hj (inl ne))) hk,
        )

        same_reading : (k j : ℕ) → k < n → j < m → RuleTouches n m kind mark t k j ↔ RuleTouches n m kind mark (accepted n m t caller t.links ruled).tables k j
        same_reading k j hk hj = (
          λ r. record { below = (below_same k j hk hj).0 r.below; the_mark = r.the_mark },
          λ r. record { below = (below_same k j hk hj).1 r.below; the_mark = r.the_mark },
        )

  -- ---- an edit of a link

  module _ (child parent byte : ℕ) (child-in : child < n) (parent-in : parent < n) (links_size : length t.links ≡ n * n) (small : byte ≤ 1) where
    abbrev linked : List ℕ
    linked = set t.links (child * n + parent) byte

    up_set : up_of n linked child parent ≡ eqb byte 1
    up_set = ap (λ (x : ℕ). eqb x 1) (get_or-set_same t.links (child * n + parent) byte 0 (rw links_size (digits_lt child-in parent-in)))

    up_kept : (c p : ℕ) → p < n → (c ≢ child) ⊎ (p ≢ parent) → up_of n t.links c p ≡ up_of n linked c p
    up_kept c p hp elsewhere =
        ap (λ (x : ℕ). eqb x 1) (sym (get_or-set_other t.links (child * n + parent) (c * n + p) byte 0
        (λ same. let (same-child, same-parent) = place_split {k = c} {k' = child} hp parent-in same in
        ⊎_elim (λ ne. ne same-child) (λ ne. ne same-parent) elsewhere)))

    same_but : SameBut n (up_of n t.links) (up_of n linked) child parent
    same_but c p hc hp other = sym (by_cases (ℕ_discrete c child)
        (λ same. up_kept c p hp (inr (λ same-parent. other (same, same-parent)))) (λ ne. up_kept c p hp (inl ne)))

    bytes_after : (i : ℕ) → i < n * n → get_or linked i 0 ≤ 1
    bytes_after i h = by_cases (ℕ_discrete i (child * n + parent))
        (λ same. subst (λ (x : ℕ). get_or linked x 0 ≤ 1) (sym same)
        (rw (get_or-set_same t.links (child * n + parent) byte 0 (rw links_size (digits_lt child-in parent-in))) small))
        (λ ne. rw (get_or-set_other t.links (child * n + parent) i byte 0 ne) (before.bytes i h))

    -- `apart`: before the edit the parent is not the child, nor below it
    module _ (acyclic : Acyclic n (up_of n linked)) (apart : ¬ Upto n (up_of n t.links) parent child) where
      pub link_edits : (caller : ℕ) → caller < length t.tally → (returned : ℕ) → (accepted n m t caller linked t.rules).reply ≡ given returned
          → LinkEdited n m caller child parent byte t (accepted n m t caller linked t.rules).tables returned
      unfolding accepted entry_at
      link_edits caller counts returned is = record {
        rules_kept = refl;
        link_changed = set_one t.links (child * n + parent) byte (rw links_size (digits_lt child-in parent-in));
        below_same = below_same;
        own_rule_same = λ k j. refl;
        parent_entry_same = parent_kept;
        edited = accepted_edits caller linked t.rules returned is (LinkTouches n m child parent) counts bytes_after acyclic touched same_reading;
      }
        where
          up : ℕ → ℕ → Bool
          up = up_of n t.links

          up' : ℕ → ℕ → Bool
          up' = up_of n linked

          own : ℕ → ℕ → Bool
          own = own_of m t.rules

          same_up : (c p : ℕ) → c < n → p < n → c ≢ child → up c p ≡ up' c p
          same_up c p hc hp ne = up_kept c p hp (inl ne)

          parent_kept : (j : ℕ) → j < m → get_or t.entries (parent * m + j) 0 ≡ get_or (accepted n m t caller linked t.rules).tables.entries (parent * m + j) 0
          parent_kept j hj =
              entry_before caller linked t.rules returned is parent j parent-in hj
              ∙ ap entry_of (link_keeps_parent n up up' (own j) before.acyclic acyclic child parent same_but child-in parent-in apart)
              ∙ sym (entry_after caller linked t.rules returned is parent j parent-in hj)

          touched : (k j : ℕ) → k < n → j < m → get_or t.entries (k * m + j) 0 ≢ get_or (accepted n m t caller linked t.rules).tables.entries (k * m + j) 0
              → LinkTouches n m child parent t k j
          touched k j hk hj differ =
              let (below, bare, some) = link_touched n up up' (own j) before.acyclic acyclic child parent same_but child-in parent-in apart k hk
              (lookups_differ caller linked t.rules returned is k j hk hj differ) in
              record {
                below = below;
                no_own_rule = bare;
                parent_entry = λ zero. some (none_of_0 _ (omega (arith, entry_before caller linked t.rules returned is parent j parent-in hj, zero)));
              }

          below_same : (k : ℕ) → k < n → Upto n up k child ↔ Upto n up' k child
          below_same k hk = (upto_carries n up up' child same_up hk, upto_carries n up' up child (λ c p hc hp ne. sym (same_up c p hc hp ne)) hk)

          same_reading : (k j : ℕ) → k < n → j < m → LinkTouches n m child parent t k j ↔ LinkTouches n m child parent (accepted n m t caller linked t.rules).tables k j
          same_reading k j hk hj = (
            λ r. record {
              below = (below_same k hk).0 r.below;
              no_own_rule = r.no_own_rule;
              parent_entry = λ zero. r.parent_entry (omega (arith, parent_kept j hj, zero));
            },
            λ r. record {
              below = (below_same k hk).1 r.below;
              no_own_rule = r.no_own_rule;
              parent_entry = λ zero. r.parent_entry (omega (arith, parent_kept j hj, zero));
            },
          )

-- where the parent's entry is 0, an edit of the link to it can touch nothing
pub untouched_none : (n m child parent : ℕ) (t : Tables) (k j : ℕ) → get_or t.entries (parent * m + j) 0 ≡ 0 → ¬ LinkTouches n m child parent t k j
untouched_none n m child parent t k j zero touches = touches.parent_entry (omega (arith, zero))

-- .. and so no entry of that mark changes
pub none_kept : (n m caller child parent byte : ℕ) (t t' : Tables) (returned : ℕ) → LinkEdited n m caller child parent byte t t' returned
    → (k j : ℕ) → k < n → j < m → get_or t.entries (parent * m + j) 0 ≡ 0 → get_or t.entries (k * m + j) 0 ≡ get_or t'.entries (k * m + j) 0
none_kept n m caller child parent byte t t' returned e k j hk hj zero = by_cases (ℕ_discrete (get_or t.entries (k * m + j) 0) (get_or t'.entries (k * m + j) 0))
    (λ same. same) (λ differ. absurd (untouched_none n m child parent t k j zero (e.edited.touched k j hk hj differ)))

-- ---- the four edits

-- what a call knows whose checks of shape and soundness were passed
pub record Passed (n m : ℕ) (t : Tables) : Type 0 where
  pub lengths : LengthsOf n m t
  pub sizes : Sized n m t.rules t.entries
  pub before : Sound n m t

pub passed : (n m : ℕ) (t : Tables) → shaped n m t ≡ true → sound n m t ≡ true → Passed n m t
passed n m t fits is_sound =
    let s = sized_facts 1 1 n m _ _ _ _ _ fits in
    let sizes = shape_sized n m t s in
    record { lengths = s; sizes = sizes; before = sound_means n m t sizes.entries_size (omega (arith, s.disputes_length)) is_sound }

-- a caller that has a number of the tally
numbered : {n m : ℕ} {t : Tables} {caller : ℕ} → Passed n m t → ltb caller callers ≡ true → caller < length t.tally
numbered {caller = caller} s known = omega (arith, ltb-true caller callers known, s.lengths.tally_length)

or-false : (a : Bool) {b : Bool} → (a || b) ≡ false → (a ≡ false) × (b ≡ false)
or-false true e = absurd (true≢false e)
or-false false e = (refl, e)

module _ (n m : ℕ) (t : Tables) (s : Passed n m t) (child parent : ℕ) (child-in : child < n) (parent-in : parent < n) where
  changed_but : (byte : ℕ) → byte ≤ 1 → SameBut n (up_of n t.links) (up_of n (set t.links (child * n + parent) byte)) child parent
  changed_but byte small = same_but n m t s.sizes.entries_size s.before child parent byte child-in parent-in s.lengths.links_length small

  changed_there : (byte : ℕ) → byte ≤ 1 → up_of n (set t.links (child * n + parent) byte) child parent ≡ eqb byte 1
  changed_there byte small = up_set n m t s.sizes.entries_size s.before child parent byte child-in parent-in s.lengths.links_length small

  pub changed_bytes : (byte : ℕ) → byte ≤ 1 → (i : ℕ) → i < n * n → get_or (set t.links (child * n + parent) byte) i 0 ≤ 1
  changed_bytes byte small = bytes_after n m t s.sizes.entries_size s.before child parent byte child-in parent-in s.lengths.links_length small

  pub added_acyclic : (eqb parent child || above n (up_of n t.links) parent child) ≡ false → Acyclic n (up_of n (set t.links (child * n + parent) 1))
  added_acyclic e =
      let (ne, free) = or-false (eqb parent child) e in
      link_acyclic n (up_of n t.links) _ child parent (changed_but 1 (omega arith)) (λ same. eqb-false _ _ ne (sym same)) free s.before.acyclic

  pub taken_acyclic : Acyclic n (up_of n (set t.links (child * n + parent) 0))
  taken_acyclic = unlink_acyclic n (up_of n t.links) _ child parent (changed_but 0 (omega arith)) (changed_there 0 (omega arith)) s.before.acyclic

module _ (n m : ℕ) (t : Tables) where
  pub add_rule_edits : (caller kind mark handling returned : ℕ) → (add_rule n m t caller kind mark handling).reply ≡ given returned
      → RuleEdited n m caller kind mark handling t (add_rule n m t caller kind mark handling).tables returned
  unfolding add_rule
  add_rule_edits caller kind mark handling returned =
      let P : Tables → Type 0 = λ t'. RuleEdited n m caller kind mark handling t t' returned in
      check_given 1 t _ P _ λ fits. check_given 13 t _ P _ λ known. check_given 2 t _ P _ λ kind_in. check_given 3 t _ P _ λ mark-in. check_given 4 t _ P _ λ _.
      check_given 5 t _ P _ λ is_sound is.
      let s = passed n m t fits is_sound in
      rule_edits n m t s.sizes.entries_size s.before kind mark handling (ltb-true _ _ kind_in) (ltb-true _ _ mark-in) s.sizes.rules_size caller (numbered s known) returned is

  pub take_rule_edits : (caller kind mark returned : ℕ) → (take_rule n m t caller kind mark).reply ≡ given returned
      → RuleEdited n m caller kind mark 0 t (take_rule n m t caller kind mark).tables returned
  unfolding take_rule
  take_rule_edits caller kind mark returned =
      let P : Tables → Type 0 = λ t'. RuleEdited n m caller kind mark 0 t t' returned in
      check_given 1 t _ P _ λ fits. check_given 13 t _ P _ λ known. check_given 2 t _ P _ λ kind_in. check_given 3 t _ P _ λ mark-in. check_given 5 t _ P _ λ is_sound.
      check_given 6 t _ P _ λ _ is.
      let s = passed n m t fits is_sound in
      rule_edits n m t s.sizes.entries_size s.before kind mark 0 (ltb-true _ _ kind_in) (ltb-true _ _ mark-in) s.sizes.rules_size caller (numbered s known) returned is

  pub add_link_edits : (caller child parent returned : ℕ) → (add_link n m t caller child parent).reply ≡ given returned
      → LinkEdited n m caller child parent 1 t (add_link n m t caller child parent).tables returned
  unfolding add_link
  add_link_edits caller child parent returned =
      let P : Tables → Type 0 = λ t'. LinkEdited n m caller child parent 1 t t' returned in
      check_given 1 t _ P _ λ fits. check_given 13 t _ P _ λ known. check_given 2 t _ P _ λ kinds-in. check_given 5 t _ P _ λ is_sound. check_given 7 t _ P _ λ _.
      check_given 9 t _ P _ λ no_cycle is.
      let s = passed n m t fits is_sound in
      let (child-in, parent-in) = (and-eq-true_iff (ltb child n) _).0 kinds-in in
      go (numbered s known) (ltb-true _ _ child-in) (ltb-true _ _ parent-in) s (not-true _ no_cycle) is
    where
      go : caller < length t.tally → child < n → parent < n → Passed n m t → (eqb parent child || above n (up_of n t.links) parent child) ≡ false
          → (accepted n m t caller (set t.links (child * n + parent) 1) t.rules).reply ≡ given returned
          → LinkEdited n m caller child parent 1 t (accepted n m t caller (set t.links (child * n + parent) 1) t.rules).tables returned
      go counts child-in parent-in s no_cycle is =
          link_edits n m t s.sizes.entries_size s.before child parent 1 child-in parent-in s.lengths.links_length (omega arith)
          (added_acyclic n m t s child parent child-in parent-in no_cycle) apart caller counts returned is
        where
          apart : ¬ Upto n (up_of n t.links) parent child
          apart =
              let (ne, free) = or-false (eqb parent child) no_cycle in
              ⊎_elim (eqb-false _ _ ne) (λ chain. true≢false (sym (chain_above n (up_of n t.links) chain) ∙ free))

  pub take_link_edits : (caller child parent returned : ℕ) → (take_link n m t caller child parent).reply ≡ given returned
      → LinkEdited n m caller child parent 0 t (take_link n m t caller child parent).tables returned
  unfolding take_link
  take_link_edits caller child parent returned =
      let P : Tables → Type 0 = λ t'. LinkEdited n m caller child parent 0 t t' returned in
      check_given 1 t _ P _ λ fits. check_given 13 t _ P _ λ known. check_given 2 t _ P _ λ kinds-in. check_given 5 t _ P _ λ is_sound. check_given 8 t _ P _ λ there is.
      let s = passed n m t fits is_sound in
      let (child-in, parent-in) = (and-eq-true_iff (ltb child n) _).0 kinds-in in
      go (numbered s known) (ltb-true _ _ child-in) (ltb-true _ _ parent-in) s there is
    where
      go : caller < length t.tally → child < n → parent < n → Passed n m t → up_of n t.links child parent ≡ true
          → (accepted n m t caller (set t.links (child * n + parent) 0) t.rules).reply ≡ given returned
          → LinkEdited n m caller child parent 0 t (accepted n m t caller (set t.links (child * n + parent) 0) t.rules).tables returned
      go counts child-in parent-in s there is =
          link_edits n m t s.sizes.entries_size s.before child parent 0 child-in parent-in s.lengths.links_length (omega arith)
          (taken_acyclic n m t s child parent child-in parent-in)
          (λ round. no_chain n (up_of n t.links) s.before.acyclic child-in (upto_step n (up_of n t.links) parent-in there round)) caller counts returned is

  -- with another handling number every kind has the own rules it had, and so every lookup is the same
  pub replaced_none : (caller kind mark handling returned : ℕ) → own_of m t.rules mark kind ≡ true
      → (add_rule n m t caller kind mark handling).reply ≡ given returned → returned ≡ 0
  unfolding add_rule
  replaced_none caller kind mark handling returned has =
      let P : Tables → Type 0 = λ _. returned ≡ 0 in
      check_given 1 t _ P _ λ fits. check_given 13 t _ P _ λ _. check_given 2 t _ P _ λ kind_in. check_given 3 t _ P _ λ mark-in. check_given 4 t _ P _ λ some.
      check_given 5 t _ P _ λ is_sound. go (passed n m t fits is_sound) (ltb-true _ _ kind_in) (ltb-true _ _ mark-in) (eqb-false _ _ (not-true _ some))
    where
      place : ℕ
      place = kind * m + mark

      own_same : Passed n m t → kind < n → mark < m → handling ≢ 0 → (j c : ℕ) → own_of m (set t.rules place handling) j c ≡ own_of m t.rules j c
      own_same s kind_in mark-in some j c = by_cases (ℕ_discrete (c * m + j) place)
          (λ here. subst (λ (x : ℕ). not (eqb (get_or (set t.rules place handling) x 0) 0) ≡ not (eqb (get_or t.rules x 0) 0)) (sym here)
          (rw (get_or-set_same t.rules place handling 0 (rw s.sizes.rules_size (digits_lt kind_in mark-in)), ne_eqb handling 0 some) (sym has)))
          (λ ne. ap (λ (x : ℕ). not (eqb x 0)) (get_or-set_other t.rules place (c * m + j) handling 0 ne))

      go : Passed n m t → kind < n → mark < m → handling ≢ 0 → (accepted n m t caller t.links (set t.rules place handling)).reply ≡ given returned → returned ≡ 0
      go s kind_in mark-in some is =
          accepted_count n m t caller t.links (set t.rules place handling) returned is
          ∙ ap (differing t.entries) (entries_of_own n m (up_of n t.links) _ _ (own_same s kind_in mark-in some) ∙ sym s.before.entries)
          ∙ differing_self t.entries

  pub refresh_renews : (returned : ℕ) → (refresh n m t).reply ≡ given returned → Refreshed n m t (refresh n m t).tables returned
  unfolding refresh
  refresh_renews returned =
      let P : Tables → Type 0 = λ t'. Refreshed n m t t' returned in
      check_given 1 t _ P _ λ fits. check_given 5 t _ P _ λ right is.
      let (bytes, free) = (and-eq-true_iff (bytes_right n t.links) _).0 right in
      let size = (shape_sized n m t (sized_facts 1 1 n m _ _ _ _ _ fits)).entries_size in
      let same : returned ≡ differing t.entries (entries_of n m (up_of n t.links) t.rules) = cc in
      record {
        links_kept = refl;
        rules_kept = refl;
        tally_kept = refl;
        sound_after = means_sound n m _ (length_entries_of n m (up_of n t.links) t.rules)
            (record { bytes = bytes_mean n t.links bytes; acyclic = free_means n (up_of n t.links) free; entries = refl; disputes = refl });
        counted = same ∙ lookups_apart n m (up_of n t.links) t.rules t.entries size;
      }
