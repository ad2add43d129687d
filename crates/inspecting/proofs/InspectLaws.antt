-- A search for the lowest number that fails a test, and what inspect answers by it.
--     lowest_none, lowest_is, lowest_same                `lowest`: where all pass, where one is known, and of tests that agree
--     lowest_found, own_found, pair_found, byte_found    what a search answers that says of each number if it passes; one through a range from 0; one
--                                                        through the pairs of two tables; one through the bytes of the links
--     own_mapped                                         the fault that a kind in its own row is turned into
--     part_length                                        the length of a part of a list of equal numbers
--     places_fit                                         how many places there are
--     inspect_refused, inspect_links, inspect_entries    what inspect answers, where the tables do not have their lengths, where the links have a
--                                                        fault, and where they have none
-- Assumes nothing.
use mathlib.Core.Path.{◌≡◌, refl, sym, ◌∙◌, ap, subst}
use mathlib.Core.Logic.{by_cases}
use mathlib.Core.Bool.{Bool, true, false, ◌&&◌, not, true≢false, false≢true}
use mathlib.Core.List.{List}
use Prim.Native.Nat.{ℕ, zero, suc, ◌*◌, ◌<◌, ◌≤◌}
use native.Mathlib.Nat.{mul-le-mul}
use native.Mathlib.Decide.{dec_lt}
use native.Mathlib.Omega.{arith}
use lib.Dec.{eqb, leb}
use lib.ListN.{length, get_or, take, replicate, length-replicate}
use Rattle.inheritance.specs.Above.{above}
use Rattle.inheritance.proofs.AboveLaws.{above_same}
use Rattle.relation.specs.Bit.{bit}
use Rattle.relation.specs.declared.Relation.{Relation}
use Rattle.relation.specs.Closed.{Closed}
use Rattle.loading.specs.Loaded.{Loaded}
use Rattle.soundness.proofs.Soundness.{rows_links, part_replicate}
use Rattle.tables.specs.Reply.{refused, given, Fault, fault_in}
use Rattle.tables.specs.declared.Fault.{Fault as CodeFault}
use Rattle.tables.specs.Tables.{Tables, shaped, up_of, entries_of, disputes_of, all_below, byte_right, bytes_right, kind_free, entry_right, count_right}
use Rattle.tables.specs.Tables.{well_linked, links_right}
use Rattle.tables.specs.Calls.{check, lowest, first_fault, fault_of, inspect}
use Rattle.tables.proofs.CallLaws.{Lowest, lowest_fails}
use Rattle.tables.proofs.DisputeLaws.{disputes_at_mark}
use Rattle.tables.proofs.ShapeLaws.{sized_facts}
use Rattle.tables.proofs.SoundLaws.{entries_true}
use Rattle.tables.proofs.TableLaws.{below_true, below_same}
use Rattle.std.specs.Prelude.{MatchOption, IsSomeAnd, Option, None, Some, zip}
use Rattle.std.specs.List.{AllWithin, HoldsAt}
use Rattle.std.proofs.lemmas.Slice.Zip.{length-zip, get_or-zip}
use Rattle.inspecting.specs.Faults.{LowestFound, off_own_row, link_fault, same_at, entry_fault}

-- ---- the lowest number that fails

lowest_none : (f : ℕ → Bool) (k : ℕ) → all_below f k ≡ true → lowest f k ≡ k
unfolding all_below lowest
lowest_none f zero e = refl
lowest_none f (suc k) e = go (all_below f k) (f k) e
  where
    go : (a b : Bool) → (a && b) ≡ true → ◌≡◌ {A = ℕ} (elim a [ true ↦ elim b [ true ↦ suc k | false ↦ k ] | false ↦ lowest f k ]) (suc k)
    go true true e = refl
    go true false e = absurd (false≢true e)
    go false b e = absurd (false≢true e)

fails_below : (f : ℕ → Bool) (k i : ℕ) → i < k → f i ≡ false → all_below f k ≡ false
fails_below f k i h e = go (all_below f k) refl
  where
    go : (b : Bool) → all_below f k ≡ b → b ≡ false
    go true all = absurd (true≢false (sym (below_true f k all i h) ∙ e))
    go false all = refl

module _ (f : ℕ → Bool) (k : ℕ) where
  one_lowest : {i j : ℕ} → Lowest f k i → Lowest f k j → i ≡ j
  one_lowest {i} {j} a b = by_cases (dec_lt i j) (λ h. absurd (false≢true (sym a.fails ∙ b.first i h)))
      (λ h. by_cases (dec_lt j i) (λ g. absurd (false≢true (sym b.fails ∙ a.first j g))) (λ g. omega arith))

  lowest_is : {i : ℕ} → Lowest f k i → lowest f k ≡ i
  lowest_is {i} l = one_lowest (lowest_fails f k (fails_below f k i l.within l.fails)) l

lowest_same : (f g : ℕ → Bool) (k : ℕ) → ((i : ℕ) → i < k → f i ≡ g i) → lowest f k ≡ lowest g k
lowest_same f g k same = go (all_below f k) refl
  where
    go : (b : Bool) → all_below f k ≡ b → lowest f k ≡ lowest g k
    go true e = lowest_none f k e ∙ sym (lowest_none g k (sym (below_same f g k same) ∙ e))
    go false e =
        let l = lowest_fails f k e in
        sym (lowest_is g k (record {
          within = l.within;
          fails = sym (same _ l.within) ∙ l.fails;
          first = λ j h. sym (same j (omega (arith, l.within))) ∙ l.first j h;
        }))

all_true : (f : ℕ → Bool) (k : ℕ) → ((i : ℕ) → i < k → f i ≡ true) → all_below f k ≡ true
all_true f k passes = go (all_below f k) refl
  where
    go : (b : Bool) → all_below f k ≡ b → b ≡ true
    go true e = refl
    go false e = let l = lowest_fails f k e in absurd (false≢true (sym l.fails ∙ passes _ l.within))

-- ---- the search

-- what a search answers that says of each number if it passes
lowest_found : (f : ℕ → Bool) (k : ℕ) (found : Option ℕ)
    → MatchOption found ((i : ℕ) → i < k → f i ≡ true) (λ i. (i < k) × (f i ≡ false) × ((j : ℕ) → j < i → f j ≡ true)) → LowestFound f k found
lowest_found f k None passes = all_true f k passes
lowest_found f k (Some i) first =
    (first.0, fails_below f k i first.0 first.1, lowest_is f k (record { within = first.0; fails = first.1; first = first.2 }))

-- a search through a range from 0
pub own_found : (f : ℕ → Bool) (k : ℕ) (found : Option ℕ)
    → MatchOption found ((i : ℕ) → 0 ≤ i → i < k → f i ≡ true) (λ i. (0 ≤ i) × (i < k) × (f i ≡ false) × ((j : ℕ) → 0 ≤ j → j < i → f j ≡ true)) → LowestFound f k found
own_found f k None passes = lowest_found f k None (λ i h. passes i (omega arith) h)
own_found f k (Some i) first = lowest_found f k (Some i) (first.1, first.2, λ j h. first.3 j (omega arith) h)

-- a search through the pairs of two tables
module _ (xs ys : List ℕ) (long : length ys ≡ length xs) where
  pair_here : {b : Bool} {i : ℕ} → i < length (zip xs ys) → ((p : ℕ × ℕ) → eqb (get_or (zip xs ys) i p).0 (get_or (zip xs ys) i p).1 ≡ b) → (i < length xs) × (same_at xs ys i ≡ b)
  pair_here {b} {i} h e =
      let l : i < length xs = omega (arith, length-zip xs ys) in
      (l, subst (λ (p : ℕ × ℕ). eqb p.0 p.1 ≡ b) (get_or-zip xs ys i (0, 0) l (omega arith)) (e (0, 0)))

  pub pair_found : (found : Option ℕ)
      → MatchOption found (AllWithin (λ (p : ℕ × ℕ). eqb p.0 p.1 ≡ true) (zip xs ys) 0 (length (zip xs ys)))
      (λ i. (i < length (zip xs ys)) × HoldsAt (λ (p : ℕ × ℕ). eqb p.0 p.1 ≡ false) (zip xs ys) i × AllWithin (λ (p : ℕ × ℕ). eqb p.0 p.1 ≡ true) (zip xs ys) 0 i)
      → LowestFound (same_at xs ys) (length xs) found
  pair_found None passes = lowest_found _ _ None (λ i h. let l : i < length (zip xs ys) = omega (arith, length-zip xs ys) in (pair_here l (λ p. passes i p (omega arith) l)).1)
  pair_found (Some i) first =
      let here = pair_here first.0 first.1 in
      lowest_found _ _ (Some i) (here.0, here.1, λ j h. (pair_here (omega (arith, first.0)) (λ p. first.2 j p (omega arith) h)).1)

-- a search through the bytes of the links
pub byte_found : (links : List ℕ) (found : Option ℕ)
    → MatchOption found (AllWithin (λ x. leb x 1 ≡ true) links 0 (length links))
    (λ i. (i < length links) × HoldsAt (λ x. leb x 1 ≡ false) links i × AllWithin (λ x. leb x 1 ≡ true) links 0 i)
    → LowestFound (byte_right links) (length links) found
byte_found links None passes = lowest_found _ _ None (λ i h. passes i 0 (omega arith) h)
byte_found links (Some i) first = lowest_found _ _ (Some i) (first.0, first.1 0, λ j h. first.2 j 0 (omega arith) h)

-- where every byte is right, the answer is the first kind above itself, if there is one
pub own_mapped : {P : ℕ → CodeFault → Type 0} (n : ℕ) (links : List ℕ) (closed : Relation) (own : Option ℕ) (answer : Option CodeFault)
    → all_below (byte_right links) (length links) ≡ true → LowestFound (off_own_row closed) n own
    → MatchOption own (answer ≡ None) (λ x. IsSomeAnd answer (P x)) → ((x : ℕ) (r : CodeFault) → x < n → P x r → fault_in (Some r) ≡ Fault.above_itself x)
    → fault_in answer ≡ link_fault n links closed
own_mapped n links closed None answer right free gives named = rw (gives, right, free) refl
own_mapped n links closed (Some x) None right first gives named = absurd gives
own_mapped n links closed (Some x) (Some r) right first gives named = rw (right, first.1, first.2) (named x r first.0 gives)

-- ---- inspect

-- a kind is in its own closed row just where it is above itself
free_tests : (n : ℕ) (links : List ℕ) (rows closed : Relation) → n ≤ 128 → Loaded n links rows → Closed n n rows closed → (c : ℕ) → c < n → off_own_row closed c ≡ kind_free n (up_of n links) c
unfolding above
free_tests n links rows closed kinds loaded closes c h =
    ap not (closes.bits c c h (omega arith) ∙ above_same n (bit rows) (up_of n links) (rows_links n links rows kinds loaded) c c h h)

pub part_length : (k size x : ℕ) → k ≤ size → length (take k (replicate size x)) ≡ k
part_length k size x h = ap length (part_replicate k size x h) ∙ length-replicate k x

pub places_fit : (n m : ℕ) (t : Tables) → shaped n m t ≡ true → (length t.links ≤ 16384) × (length t.entries ≤ 8192) × (length t.disputes ≤ 64)
places_fit n m t is =
    let s = sized_facts 1 1 n m _ _ _ _ _ is in (
      omega (arith, s.links_length, mul-le-mul s.kinds.1 s.kinds.1),
      omega (arith, s.entries_length, mul-le-mul s.kinds.1 s.marks.1),
      omega (arith, s.disputes_length, s.marks.1),
    )

module _ (n m : ℕ) (t : Tables) where
  pub inspect_refused : shaped n m t ≡ false → refused 1 ≡ (inspect n m t).reply
  unfolding inspect check
  inspect_refused is = rw is refl

  -- the rows have the links if every byte is 0 or 1: else the byte is the fault, whatever the rows have
  pub inspect_links : {rows closed : Relation} → shaped n m t ≡ true → (all_below (byte_right t.links) (length t.links) ≡ true → Loaded n t.links rows)
      → Closed n n rows closed → links_right n t.links ≡ false
      → given (link_fault n t.links closed) ≡ (inspect n m t).reply
  unfolding inspect check fault_of bytes_right well_linked
  inspect_links {rows} {closed} is loaded closes bad =
      rw (is, size) (ap given (go (all_below (byte_right t.links) (n * n)) refl (all_below (off_own_row closed) n) (all_below (kind_free n (up_of n t.links)) n) frees (all_below (entry_right n m (up_of n t.links) t.rules t.entries) (n * m))
      (all_below (count_right n m t.entries t.disputes) m) _ _ _ bad))
    where
      size : length t.links ≡ n * n
      size = (sized_facts 1 1 n m _ _ _ _ _ is).links_length

      tests : all_below (byte_right t.links) (n * n) ≡ true → (c : ℕ) → c < n → off_own_row closed c ≡ kind_free n (up_of n t.links) c
      tests right = free_tests n t.links rows closed (sized_facts 1 1 n m _ _ _ _ _ is).kinds.1 (loaded (ap (all_below (byte_right t.links)) size ∙ right)) closes

      frees : all_below (byte_right t.links) (n * n) ≡ true → all_below (off_own_row closed) n ≡ all_below (kind_free n (up_of n t.links)) n
      frees right = below_same _ _ n (tests right)

      kinds : all_below (byte_right t.links) (n * n) ≡ true → lowest (off_own_row closed) n ≡ lowest (kind_free n (up_of n t.links)) n
      kinds right = lowest_same _ _ n (tests right)

      go : (a : Bool) → all_below (byte_right t.links) (n * n) ≡ a → (b b' : Bool) → (all_below (byte_right t.links) (n * n) ≡ true → b ≡ b')
          → (c d : Bool) (byte entry mark : ℕ) → (a && b') ≡ false
          → first_fault a b true true byte (lowest (off_own_row closed) n) 0 0 ≡ first_fault a b' c d byte (lowest (kind_free n (up_of n t.links)) n) entry mark
      go false q b b' same c d byte entry mark e = refl
      go true q b false same c d byte entry mark e = rw (same q) (ap (λ (k : ℕ). first_fault true false true true byte k 0 0) (kinds q))
      go true q b true same c d byte entry mark e = absurd (true≢false e)

  -- where the entries are right, the counts of the lookups are those of the entries; else an entry is the fault, whatever the counts are
  pub inspect_entries : {lookups counts : List ℕ} → shaped n m t ≡ true → links_right n t.links ≡ true → lookups ≡ entries_of n m (up_of n t.links) t.rules
      → counts ≡ disputes_of n m lookups → given (entry_fault t.entries lookups t.disputes counts) ≡ (inspect n m t).reply
  unfolding inspect check fault_of bytes_right well_linked
  inspect_entries {lookups} {counts} is good looked counted =
      let s = sized_facts 1 1 n m _ _ _ _ _ is in
      let marks : length t.disputes ≡ m = omega (arith, s.disputes_length) in
      rw (is, looked, size, marks) (ap given (go (all_below (byte_right t.links) (n * n)) (all_below (kind_free n (up_of n t.links)) n) (all_below entries_right (n * m))
      (all_below (same_at t.disputes counts) m) (all_below (count_right n m t.entries t.disputes) m) _ _ _ _ _ good
      (λ right. (below_same _ _ m (agree right), lowest_same _ _ m (agree right)))))
    where
      size : length t.entries ≡ n * m
      size = omega (arith, (sized_facts 1 1 n m _ _ _ _ _ is).entries_length)

      entries_right : ℕ → Bool
      entries_right = entry_right n m (up_of n t.links) t.rules t.entries

      agree : all_below entries_right (n * m) ≡ true → (j : ℕ) → j < m → same_at t.disputes counts j ≡ count_right n m t.entries t.disputes j
      agree right j h =
          let same : lookups ≡ t.entries = looked ∙ sym (entries_true n m (up_of n t.links) t.rules t.entries size right) in
          ap (eqb (get_or t.disputes j 0)) (ap (λ (l : List ℕ). get_or l j 0) (counted ∙ ap (disputes_of n m) same) ∙ disputes_at_mark n m t.entries j h)

      go : (a b c d d' : Bool) (byte kind entry mark mark' : ℕ) → (a && b) ≡ true → (c ≡ true → (d ≡ d') × (mark ≡ mark'))
          → first_fault true true c d 0 0 entry mark ≡ first_fault a b c d' byte kind entry mark'
      go true true true true true byte kind entry mark mark' e same = refl
      go true true true false false byte kind entry mark mark' e same = ap Fault.wrong_count (same refl).1
      go true true true true false byte kind entry mark mark' e same = absurd (true≢false (same refl).0)
      go true true true false true byte kind entry mark mark' e same = absurd (false≢true (same refl).0)
      go true true false d d' byte kind entry mark mark' e same = refl
      go true false c d d' byte kind entry mark mark' e same = absurd (false≢true e)
      go false b c d d' byte kind entry mark mark' e same = absurd (false≢true e)
