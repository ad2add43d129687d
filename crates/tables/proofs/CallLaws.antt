-- The checks of a call, and what find and inspect say of sound tables.
--     check_cases                    a check refuses and leaves the tables, or its test is passed; check_given, check_holds, check_refused: of what a call leaves
--     check_passed, check_failed     a check whose test is passed, and one whose test fails
--     refused-…                      a refused call writes to no table
--     find_sound                     on sound tables find gives the lookup, a rule with its handling number; so it never refuses by 10: find_never_10
--     lowest_fails                   where not all pass, `lowest` is the lowest number that fails
--     fault_byte, -kind, -entry, -count    the order of the faults: the first of these that is wrong, at its lowest number
--     inspect_sound                  inspect says sound exactly if the tables are sound
-- Assumes nothing.
use mathlib.Core.Path.{◌≡◌, refl, sym, ◌∙◌, ap}
use mathlib.Core.Bool.{Bool, true, false, ◌&&◌, not, true≢false, false≢true}
use mathlib.Core.Logic.{◌≢◌, ◌↔◌}
use mathlib.Core.List.{List}
use Prim.Native.Nat.{ℕ, zero, suc, ◌+◌, ◌-◌, ◌*◌, ◌<◌, ◌≤◌}
use native.Mathlib.Omega.{arith}
use borrow.Author.Tests.{lt-ltb, not-true, eqb-false}
use lib.Dec.{eqb}
use lib.ListN.{get_or}
use Rattle.inheritance.specs.declared.Lookup.{Lookup}
use Rattle.inheritance.specs.declared.Lookup.TheVariants.{None, Rule, Dispute}
use Rattle.inheritance.specs.Lookup.{lookup}
use Rattle.inheritance.proofs.LookupLaws.{InRange, lookup_range}
use Rattle.inheritance.specs.Entry.{entry_of}
use Rattle.tables.specs.Reply.{refused, given, Finding, Fault}
use Rattle.tables.specs.Tables.{Tables, shaped, up_of, own_of, entry_at, all_below, byte_right, bytes_right, kind_free, entry_right}
use Rattle.tables.specs.Tables.{count_right, well_linked, sound_over, sound}
use Rattle.tables.specs.Calls as calls
use Rattle.tables.specs.Calls.{OutcomeOn, check, leaves, finding_of, handled, lowest, first_fault, fault_of}
use Rattle.tables.proofs.FindingLaws.{finding_none, finding_rule, finding_dispute, handled_some}
use Rattle.tables.proofs.ShapeLaws.{sized_facts}
use Rattle.tables.proofs.SoundLaws.{sound_means, entries_looked}
use Rattle.tables.proofs.TableLaws.{below_true}

-- ---- checks

pub given_not_refused : {A : Type 0} (a : A) (number : ℕ) → given a ≡ refused number → ⊥
given_not_refused a number e = let never : ◌≡◌ {A = ℕ} 0 1 = cc in omega arith

module _ {T A : Type 0} (number : ℕ) (t : T) (next : OutcomeOn T A) where
  -- what holds of the refusal, which leaves the tables, and of the rest where the test is passed, holds of the whole
  pub check_cases : (P : OutcomeOn T A → Type 0) (b : Bool) → P (leaves (refused number) t) → (b ≡ true → P next) → P (check number b t next)
  unfolding check
  check_cases P true when-refused rest = rest refl
  check_cases P false when-refused rest = when-refused

  pub check_passed : (b : Bool) → b ≡ true → check number b t next ≡ next
  check_passed b passes = ap (λ (x : Bool). check number x t next) passes ∙ unfold check in refl

  pub check_failed : (b : Bool) → b ≡ false → check number b t next ≡ leaves (refused number) t
  check_failed b fails = ap (λ (x : Bool). check number x t next) fails ∙ unfold check in refl

  -- .. in its reply
  pub check_stops : (b : Bool) → b ≡ false → (check number b t next).reply ≡ refused number
  check_stops b fails = ap (λ (o : OutcomeOn T A). o.reply) (check_failed b fails)

  -- of the tables after a call that gives something
  pub check_given : (P : T → Type 0) (b : Bool) {a : A} → (b ≡ true → next.reply ≡ given a → P next.tables)
      → (check number b t next).reply ≡ given a → P (check number b t next).tables
  check_given P b {a} rest = check_cases (λ o. o.reply ≡ given a → P o.tables) b (λ is. absurd (given_not_refused a number (sym is))) rest

  -- of the tables after any
  pub check_holds : (P : T → Type 0) (b : Bool) → P t → (b ≡ true → P next.tables) → P (check number b t next).tables
  check_holds P b before rest = check_cases (λ o. P o.tables) b before rest

  -- where a refusal of the rest leaves the tables, so does one of the whole
  pub check_refused : (b : Bool) → ((r : ℕ) → next.reply ≡ refused r → next.tables ≡ t) → (r : ℕ) → (check number b t next).reply ≡ refused r → (check number b t next).tables ≡ t
  check_refused b rest = check_cases (λ o. (r : ℕ) → o.reply ≡ refused r → o.tables ≡ t) b (λ r e. refl) (λ _. rest)

-- a call that gives something does not refuse
never_refused : {T A : Type 0} (a : A) (t t' : T) (r : ℕ) → (leaves (given a) t').reply ≡ refused r → (leaves (given a) t').tables ≡ t
never_refused a t t' r e = absurd (given_not_refused a r e)

module _ (n m : ℕ) (t : Tables) where
  pub refused_open : (r : ℕ) → (calls.open_book n m t).reply ≡ refused r → (calls.open_book n m t).tables ≡ t
  unfolding calls.open_book
  refused_open = check_refused 1 t _ (shaped n m t) (never_refused tt t _)

  refused_accepted : (c : ℕ) (links rules : List ℕ) (r : ℕ) → (calls.accepted n m t c links rules).reply ≡ refused r → (calls.accepted n m t c links rules).tables ≡ t
  unfolding calls.accepted
  refused_accepted c links rules r e = absurd (given_not_refused _ r e)

  pub refused_add_rule : (by k j h r : ℕ) → (calls.add_rule n m t by k j h).reply ≡ refused r → (calls.add_rule n m t by k j h).tables ≡ t
  unfolding calls.add_rule
  refused_add_rule by k j h =
      check_refused 1 t _ _ (check_refused 13 t _ _ (check_refused 2 t _ _ (check_refused 3 t _ _ (check_refused 4 t _ _ (check_refused 5 t _ _ (refused_accepted _ _ _))))))

  pub refused_take_rule : (by k j r : ℕ) → (calls.take_rule n m t by k j).reply ≡ refused r → (calls.take_rule n m t by k j).tables ≡ t
  unfolding calls.take_rule
  refused_take_rule by k j =
      check_refused 1 t _ _ (check_refused 13 t _ _ (check_refused 2 t _ _ (check_refused 3 t _ _ (check_refused 5 t _ _ (check_refused 6 t _ _ (refused_accepted _ _ _))))))

  pub refused_add_link : (by c p r : ℕ) → (calls.add_link n m t by c p).reply ≡ refused r → (calls.add_link n m t by c p).tables ≡ t
  unfolding calls.add_link
  refused_add_link by c p =
      check_refused 1 t _ _ (check_refused 13 t _ _ (check_refused 2 t _ _ (check_refused 5 t _ _ (check_refused 7 t _ _ (check_refused 9 t _ _ (refused_accepted _ _ _))))))

  pub refused_take_link : (by c p r : ℕ) → (calls.take_link n m t by c p).reply ≡ refused r → (calls.take_link n m t by c p).tables ≡ t
  unfolding calls.take_link
  refused_take_link by c p =
      check_refused 1 t _ _ (check_refused 13 t _ _ (check_refused 2 t _ _ (check_refused 5 t _ _ (check_refused 8 t _ _ (refused_accepted _ _ _)))))

  pub refused_refresh : (r : ℕ) → (calls.refresh n m t).reply ≡ refused r → (calls.refresh n m t).tables ≡ t
  unfolding calls.refresh
  refused_refresh = check_refused 1 t _ _ (check_refused 5 t _ _ (never_refused _ t _))

  abbrev Kept : Tables → Type 0
  Kept t' = t' ≡ t

  -- find, parties and inspect write to no table, whatever they answer
  pub find_keeps : (k j : ℕ) → (calls.find n m t k j).tables ≡ t
  unfolding calls.find
  find_keeps k j = check_holds 1 t _ Kept _ refl λ _. check_holds 2 t _ Kept _ refl λ _. check_holds 3 t _ Kept _ refl λ _. refl

  pub parties_keeps : (k j : ℕ) → (calls.parties n m t k j).tables ≡ t
  unfolding calls.parties
  parties_keeps k j =
      check_holds 1 t _ Kept _ refl λ _. check_holds 2 t _ Kept _ refl λ _. check_holds 3 t _ Kept _ refl λ _. check_holds 5 t _ Kept _ refl λ _.
      check_holds _ t _ Kept _ refl λ _. refl

  pub inspect_keeps : (calls.inspect n m t).tables ≡ t
  unfolding calls.inspect
  inspect_keeps = check_holds 1 t _ Kept _ refl λ _. refl

-- ---- find on sound tables

-- what find gives for a lookup, where `rule o` is the handling number of kind o
abbrev pub finding_for : (rule : ℕ → ℕ) → Lookup → Finding
finding_for rule None = Finding.none
finding_for rule (Rule o) = Finding.rule o.0 (rule o.0)
finding_for rule (Dispute x) = Finding.dispute x.0

module _ (n : ℕ) (kinds : n ≤ 128) (rule : ℕ → ℕ) where
  finding_entry : (v : Lookup) → InRange n (λ c. not (eqb (rule c) 0)) v → finding_of n rule (entry_of v) ≡ given (finding_for rule v)
  finding_entry None r = finding_none n rule 0 refl
  finding_entry (Rule o) (below, own) =
      let same : o.0 + 1 - 1 ≡ o.0 = omega arith in
      let some = eqb-false (rule o.0) 0 (not-true _ own) in
      finding_rule n rule (o.0 + 1) (omega arith) (omega arith) ∙ ap (λ (x : ℕ). handled x (rule x)) same ∙ handled_some o.0 (rule o.0) (omega arith)
  finding_entry (Dispute x) (below, _) =
      let same : 257 + x.0 - 257 ≡ x.0 = omega arith in
      finding_dispute n rule (257 + x.0) (omega arith) (omega arith) (omega arith) ∙ ap (λ (k : ℕ). given (Finding.dispute k)) same

module _ (n m : ℕ) (t : Tables) (k j : ℕ) (fits : shaped n m t ≡ true) (k<n : k < n) (j<m : j < m) (is_sound : sound n m t ≡ true) where
  abbrev sought : Finding
  sought = finding_for (λ o. get_or t.rules (o * m + j) 0) (lookup n (up_of n t.links) (own_of m t.rules j) k)

  -- what the entry says is the lookup
  pub entry_found : finding_of n (λ o. get_or t.rules (o * m + j) 0) (get_or t.entries (k * m + j) 0) ≡ given sought
  unfolding entry_at
  entry_found =
      let shape = sized_facts 1 1 n m _ _ _ _ _ fits in
      let s = sound_means n m t (omega (arith, shape.entries_length)) (omega (arith, shape.disputes_length)) is_sound in
      ap (finding_of n (λ o. get_or t.rules (o * m + j) 0)) (entries_looked n m (up_of n t.links) t.rules t.entries s.entries k j k<n j<m)
      ∙ finding_entry n shape.kinds.1 (λ o. get_or t.rules (o * m + j) 0) (lookup n (up_of n t.links) (own_of m t.rules j) k)
      (lookup_range n (up_of n t.links) (own_of m t.rules j) k k<n)

  pub find_sound : (calls.find n m t k j).reply ≡ given sought
  unfolding calls.find check
  find_sound = rw (fits, lt-ltb k n k<n, lt-ltb j m j<m) entry_found

  pub find_never_10 : (calls.find n m t k j).reply ≢ refused 10
  find_never_10 e = given_not_refused _ 10 (sym find_sound ∙ e)

-- ---- inspect

-- i is the lowest number below k that fails the test
pub record Lowest (f : ℕ → Bool) (k i : ℕ) : Type 0 where
  pub within : i < k
  pub fails : f i ≡ false
  pub first : (j : ℕ) → j < i → f j ≡ true

pub lowest_fails : (f : ℕ → Bool) (k : ℕ) → all_below f k ≡ false → Lowest f k (lowest f k)
unfolding all_below lowest
lowest_fails f zero e = absurd (true≢false e)
lowest_fails f (suc k) e = go (all_below f k) (f k) refl refl e (lowest_fails f k)
  where
    go : (a b : Bool) → all_below f k ≡ a → f k ≡ b → (a && b) ≡ false → (all_below f k ≡ false → Lowest f k (lowest f k))
        → Lowest f (suc k) (elim a [ true ↦ elim b [ true ↦ suc k | false ↦ k ] | false ↦ lowest f k ])
    go true true ea eb e rest = absurd (true≢false e)
    go true false ea eb e rest = record { within = omega arith; fails = eb; first = below_true f k ea }
    go false b ea eb e rest = let r = rest ea in record { within = omega (arith, r.within); fails = r.fails; first = r.first }

-- the first fault, in its order: each has the lowest number that is wrong, where nothing before it is
module _ (n m : ℕ) (t : Tables) where
  abbrev bytes : ℕ → Bool
  bytes = byte_right t.links

  abbrev kinds : ℕ → Bool
  kinds = kind_free n (up_of n t.links)

  abbrev entries : ℕ → Bool
  entries = entry_right n m (up_of n t.links) t.rules t.entries

  abbrev counts : ℕ → Bool
  counts = count_right n m t.entries t.disputes

  pub fault_byte : all_below bytes (n * n) ≡ false → fault_of n m t ≡ Fault.link_byte (lowest bytes (n * n))
  unfolding fault_of
  fault_byte wrong = rw wrong refl

  module _ (bytes-pass : all_below bytes (n * n) ≡ true) where
    pub fault_kind : all_below kinds n ≡ false → fault_of n m t ≡ Fault.above_itself (lowest kinds n)
    unfolding fault_of
    fault_kind wrong = rw (bytes-pass, wrong) refl

    module _ (kinds-pass : all_below kinds n ≡ true) where
      pub fault_entry : all_below entries (n * m) ≡ false → fault_of n m t ≡ Fault.wrong_entry (lowest entries (n * m))
      unfolding fault_of
      fault_entry wrong = rw (bytes-pass, kinds-pass, wrong) refl

      pub fault_count : all_below entries (n * m) ≡ true → all_below counts m ≡ false → fault_of n m t ≡ Fault.wrong_count (lowest counts m)
      unfolding fault_of
      fault_count entries-pass wrong = rw (bytes-pass, kinds-pass, entries-pass, wrong) refl

module _ (n m : ℕ) (t : Tables) where
  pub inspect_sound : shaped n m t ≡ true → ((calls.inspect n m t).reply ≡ given Fault.sound) ↔ (sound n m t ≡ true)
  unfolding calls.inspect check fault_of sound sound_over bytes_right well_linked
  inspect_sound fits =
      let up = up_of n t.links in
      rw fits (go (all_below (byte_right t.links) (n * n)) (all_below (kind_free n up) n) (all_below (entry_right n m up t.rules t.entries) (n * m))
      (all_below (count_right n m t.entries t.disputes) m) _ _ _ _)
    where
      go : (a b c d : Bool) (byte kind entry mark : ℕ) → (given (first_fault a b c d byte kind entry mark) ≡ given Fault.sound) ↔ ((a && (b && c && d)) ≡ true)
      go true true true true byte kind entry mark = (λ _. refl, λ _. refl)
      go true true true false byte kind entry mark = (λ e. let never : ◌≡◌ {A = ℕ} 0 1 = cc in absurd (omega arith), λ e. absurd (false≢true e))
      go true true false d byte kind entry mark = (λ e. let never : ◌≡◌ {A = ℕ} 0 1 = cc in absurd (omega arith), λ e. absurd (false≢true e))
      go true false c d byte kind entry mark = (λ e. let never : ◌≡◌ {A = ℕ} 0 1 = cc in absurd (omega arith), λ e. absurd (false≢true e))
      go false b c d byte kind entry mark = (λ e. let never : ◌≡◌ {A = ℕ} 0 1 = cc in absurd (omega arith), λ e. absurd (false≢true e))
