-- What the kinds left decide, by the first of the places and whether its row covers them all.
--     deciding_none, deciding_some     `deciding` as the code goes: there is no first place, and there is one
--     first_held, deciding_fits        at the first place there is a kind; the entry of what is decided has 16 bits
--     places_common, places_held       a set that has the common places; these are those of kinds
--     places_first, places_covered     .. its first place, and whether a row of reach has them all
--     arranged_acyclic       where the kinds are arranged, no kind is above itself
--     reach_upto, place_in   row c of reach has the place of a kind just where that is c or above it; every place that it has is one below n
--     held                   the places that a row of reach has are those of kinds
--     deciding_left          `deciding` is what the kinds left decide
-- Assumes nothing.
use mathlib.Core.Path.{◌≡◌, refl, sym, ◌∙◌, ap, ap₂, subst}
use mathlib.Core.Logic.{◌≢◌, inl, inr, ⊎_elim, ◌↔◌, by_cases}
use mathlib.Core.Bool.{Bool, true, false, not, true≢false, and-eq-true_iff, or-true, not-eq-not}
use mathlib.Core.List.{List}
use Prim.Native.Nat.{ℕ, ◌<◌, ◌≤◌}
use native.Mathlib.Decide.{dec_lt}
use native.Mathlib.Omega.{arith}
use borrow.Author.Tests.{eqb-true, eq-eqb, lt-ltb, le-ltb, ltb-true, ltb-false, not-true}
use Rattle.std.proofs.Common.{IsTrue}
use lib.Dec.{eqb, ltb}
use lib.ListN.{get_or}
use Rattle.inheritance.specs.declared.Lookup.{Lookup}
use Rattle.inheritance.specs.declared.Lookup.TheVariants.{None, Rule, Dispute}
use Rattle.inheritance.specs.Above.{Chain, Upto, above, Acyclic}
use Rattle.inheritance.specs.Checked.{kind}
use Rattle.inheritance.specs.Lookup.{some_below, left, passing, decided}
use Rattle.inheritance.proofs.Bools.{same_bool}
use Rattle.inheritance.proofs.AboveLaws.{or_cases, above_chain, chain_above}
use Rattle.inheritance.proofs.LeftLaws.{some_true, true_some}
use Rattle.inheritance.proofs.NearLaws.{Near, near_none, near_one, near_two}
use Rattle.arranging.specs.Arranged.{Arranged}
use Rattle.relation.specs.declared.KindSet.{KindSet}
use Rattle.relation.specs.declared.Relation.{Relation}
use Rattle.relation.specs.Bit.{bit, holds, row_of, Shared, Within}
use Rattle.relation.specs.First.{First}
use Rattle.inheritance.specs.Entry.{entry_of}
use Rattle.tables.specs.Tables.{own_of}
use Rattle.deciding.specs.Deciding.{Held, Places, common, outside, covered, first_below, decision, deciding}
use Rattle.ruling.specs.Ruling.{Ruled}
use Rattle.deciding.proofs.Places.{first_same, below_first, first_is}

-- ---- as the code goes

-- each place of f is that of a kind, and i is the first
pub first_held : (order : List ℕ) (f : ℕ → Bool) {i : ℕ} → First f 0 128 i → ((p : ℕ) → p < 128 → f p ≡ true → get_or order p 0 < 128) → i ≢ 128 → get_or order i 0 < 128
first_held order f {i} first holds ne = let l : i < 128 = omega (arith, first.high) in holds i l (first.found l)

module _ (order : List ℕ) (reach ruled : Relation) (c j : ℕ) where
  -- i is the first common place
  module _ {i : ℕ} (first : First (common reach ruled c j) 0 128 i) where
    at_first : decision c i (get_or order i 0) (covered reach ruled c j (get_or order i 0)) ≡ deciding order reach ruled c j
    unfolding deciding
    at_first = ap (λ (x : ℕ). decision c x (get_or order x 0) (covered reach ruled c j (get_or order x 0))) (first_is (common reach ruled c j) first)

    pub deciding_none : i ≡ 128 → None ≡ deciding order reach ruled c j
    deciding_none e = sym (ap (λ (b : Bool). cases b) (le-ltb i 128 (omega arith))) ∙ at_first
      where
        cases : Bool → Lookup
        cases b = elim b [ true ↦ elim (covered reach ruled c j (get_or order i 0)) [ true ↦ Rule (kind (get_or order i 0)) | false ↦ Dispute (kind c) ] | false ↦ None ]

    pub deciding_some : i ≢ 128 → (b : Bool) → b ≡ covered reach ruled c j (get_or order i 0)
        → ◌≡◌ {A = Lookup} (elim b [ true ↦ Rule (kind (get_or order i 0)) | false ↦ Dispute (kind c) ]) (deciding order reach ruled c j)
    deciding_some ne b e = sym (ap₂ (λ (t s : Bool). cases t s) (lt-ltb i 128 (omega (arith, first.high))) (sym e)) ∙ at_first
      where
        cases : Bool → Bool → Lookup
        cases t s = elim t [ true ↦ elim s [ true ↦ Rule (kind (get_or order i 0)) | false ↦ Dispute (kind c) ] | false ↦ None ]

  pub deciding_fits : c < 128 → Held order (bit reach c) → entry_of (deciding order reach ruled c j) < 65536
  unfolding deciding
  deciding_fits h holds = by_place (ltb i 128) refl (covered reach ruled c j (get_or order i 0))
    where
      i : ℕ
      i = first_below (common reach ruled c j) 128

      by_place : (b : Bool) → ltb i 128 ≡ b → (t : Bool)
          → entry_of (elim b [ true ↦ elim t [ true ↦ Rule (kind (get_or order i 0)) | false ↦ Dispute (kind c) ] | false ↦ None ]) < 65536
      by_place false e t = omega arith
      by_place true e false = omega arith
      by_place true e true =
          let l = ltb-true i 128 e in
          omega (arith, first_held order _ (below_first (common reach ruled c j) 128) (λ p h q. holds p h ((and-eq-true_iff (bit reach c p) _).0 q).0) (λ q. omega arith))

module _ (reach ruled : Relation) (c j : ℕ) (near : KindSet) where
  -- what row c of reach and row j of ruled both have
  pub places_common : {s t : KindSet} → s ≡ row_of reach c → t ≡ row_of ruled j → Shared s t near → Places near reach ruled c j
  unfolding bit
  places_common is is' both i h = both.each i h ∙ rw (is, is') refl

  module _ (places : Places near reach ruled c j) where
    pub places_held : (order : List ℕ) → Held order (bit reach c) → Held order (holds near)
    places_held order held i h e = held i h ((and-eq-true_iff (bit reach c i) _).0 (sym (places i h) ∙ e)).0

    pub places_first : {i : ℕ} → First (holds near) 0 128 i → First (common reach ruled c j) 0 128 i
    places_first = first_same (holds near) (common reach ruled c j) places

    within_all : (o : ℕ) → Within near (row_of reach o) → some_below (outside reach ruled c j o) 128 ≡ false
    unfolding bit
    within_all o within = (not-eq-not {b = false}).0 λ e.
        let (i, h, t) = some_true (outside reach ruled c j o) 128 e in
        let (is, out) = (and-eq-true_iff (common reach ruled c j i) _).0 t in
        true≢false (sym (within i h (places i h ∙ is)) ∙ not-true _ out)

    all_within : (o : ℕ) → some_below (outside reach ruled c j o) 128 ≡ false → Within near (row_of reach o)
    unfolding bit
    all_within o none i h there = by_bit (bit reach o i) refl
      where
        by_bit : (t : Bool) → bit reach o i ≡ t → bit reach o i ≡ true
        by_bit true e = e
        by_bit false e =
            absurd (true≢false (sym (true_some (outside reach ruled c j o) 128 i h ((and-eq-true_iff (common reach ruled c j i) _).1 (sym (places i h) ∙ there, ap not e))) ∙ none))

    pub places_covered : (o : ℕ) {row : KindSet} {b : Bool} → row ≡ row_of reach o → IsTrue b ↔ Within near row → b ≡ covered reach ruled c j o
    unfolding covered
    places_covered o {row} {b} at is =
        same_bool b _ (λ e. ap not (within_all o (subst (Within near) at (is.0 e)))) (λ e. is.1 (subst (Within near) (sym at) (all_within o (not-true _ e))))

-- ---- what it means

module _ (n : ℕ) (rows : Relation) (order : List ℕ) (reach : Relation) (a : Arranged n rows order reach) where
  abbrev at : ℕ → ℕ
  at i = get_or order i 0

  pub arranged_acyclic : Acyclic n (bit rows)
  arranged_acyclic c h =
      let (i, l, e) = a.each c h in
      (not-eq-not {b = false}).0 (λ t. absurd (omega (arith, a.later i i l l (rw e t))))

  -- row c has the place of a kind just where that is c or above it
  pub reach_upto : (c i : ℕ) → c < n → i < n → (bit reach c i ≡ true) ↔ Upto n (bit rows) c (at i)
  reach_upto c i h l = (
    λ e. ⊎_elim (λ t. inl (sym (eqb-true (at i) c t))) (λ t. inr (above_chain n (bit rows) c (at i) (a.kinds i l) t)) (or_cases _ _ (sym (a.reaches c i h l) ∙ e)),
    λ u. a.reaches c i h l ∙ ⊎_elim (λ q. rw (eq-eqb (at i) c (sym q))) (λ r. let t : above n (bit rows) c (at i) ≡ true = chain_above n (bit rows) r in rw t (or-true (eqb (at i) c))) u,
  )

  pub place_in : (c i : ℕ) → c < n → i < 128 → bit reach c i ≡ true → i < n
  place_in c i h l e = by_cases (dec_lt i n) (λ less. less) (λ more. absurd (true≢false (sym e ∙ a.beyond c i h (omega arith) l)))

  pub held : n ≤ 128 → (c : ℕ) → c < n → Held order (bit reach c)
  held most c h i l e = let k = a.kinds i (place_in c i h l e) in omega arith

  module _ (m : ℕ) (rules : List ℕ) (ruled : Relation) (r : Ruled n m rules order ruled) (most : n ≤ 128) (c j : ℕ) (c<n : c < n) (j<m : j < m) where
    abbrev own : ℕ → Bool
    own = own_of m rules j

    abbrev both : ℕ → Bool
    both = common reach ruled c j

    ruled_own : (i : ℕ) → i < n → bit ruled j i ≡ own (at i)
    ruled_own i l = r.bits j i (omega arith) ∙ rw (lt-ltb i n l, lt-ltb j m j<m) refl

    pub both_near : (i : ℕ) → i < n → (both i ≡ true) ↔ Near n (bit rows) own c (at i)
    both_near i l = (
      λ e. let (u, t) = (and-eq-true_iff (bit reach c i) _).0 e in (sym (ruled_own i l) ∙ t, (reach_upto c i c<n l).0 u),
      λ (t, u). (and-eq-true_iff (bit reach c i) _).1 ((reach_upto c i c<n l).1 u, ruled_own i l ∙ t),
    )

    both_in : (i : ℕ) → i < 128 → both i ≡ true → i < n
    both_in i l e = place_in c i c<n l ((and-eq-true_iff (bit reach c i) _).0 e).0

    -- each near kind has its place
    pub near_place : (o : ℕ) → o < n → Near n (bit rows) own c o → (i : ℕ) × (i < n) × (at i ≡ o) × (both i ≡ true)
    near_place o l near =
        let (i, h, e) = a.each o l in
        (i, h, e, (both_near i h).1 (subst (Near n (bit rows) own c) (sym e) near))

    abbrev result : Lookup
    result = decided (passing (left n (bit rows) own c) n) (Dispute (kind c))

    module _ (i : ℕ) (first : First both 0 128 i) where
      first_none : 128 ≤ i → None ≡ result
      first_none past =
          sym (near_none n (bit rows) own c c<n (Dispute (kind c))
          (λ o l near. let (k, h, e, is) = near_place o l near in true≢false (sym is ∙ first.none k (omega arith) (omega arith))))

      module _ (inside : i < 128) where
        i<n : i < n
        i<n = both_in i inside (first.found inside)

        o<n : at i < n
        o<n = a.kinds i i<n

        near_first : Near n (bit rows) own c (at i)
        near_first = (both_near i i<n).0 (first.found inside)

        first_one : some_below (outside reach ruled c j (at i)) 128 ≡ false → Rule (kind (at i)) ≡ result
        first_one e =
            sym (near_one n (bit rows) own c c<n (Dispute (kind c)) arranged_acyclic (at i) o<n near_first
            (λ o l near. let (k, h, q, is) = near_place o l near in subst (Upto n (bit rows) (at i)) q ((reach_upto (at i) k o<n h).0 (inside_row k (omega arith) is))))
          where
            inside_row : (k : ℕ) → k < 128 → both k ≡ true → bit reach (at i) k ≡ true
            inside_row k l is = by_bit (bit reach (at i) k) refl
              where
                by_bit : (b : Bool) → bit reach (at i) k ≡ b → bit reach (at i) k ≡ true
                by_bit true t = t
                by_bit false t = absurd (true≢false (sym (true_some (outside reach ruled c j (at i)) 128 k l ((and-eq-true_iff (both k) _).1 (is, ap not t))) ∙ e))

        first_two : some_below (outside reach ruled c j (at i)) 128 ≡ true → Dispute (kind c) ≡ result
        first_two e =
            let (k, l, t) = some_true (outside reach ruled c j (at i)) 128 e in
            let (is, out) = (and-eq-true_iff (both k) _).0 t in
            let k<n = both_in k l is in
            sym (near_two n (bit rows) own c c<n (Dispute (kind c)) arranged_acyclic (at i) o<n near_first earliest (at k) (a.kinds k k<n) ((both_near k k<n).0 is)
            (λ u. true≢false (sym ((reach_upto (at i) k o<n k<n).1 u) ∙ not-true _ out)))
          where
            earliest : (o : ℕ) → o < n → Near n (bit rows) own c o → ¬ Chain n (bit rows) o (at i)
            earliest o l near chain =
                let (k, h, q, is) = near_place o l near in
                let before = a.later k i h i<n (ap (λ (x : ℕ). above n (bit rows) x (at i)) q ∙ chain_above n (bit rows) chain) in
                true≢false (sym is ∙ first.none k (omega arith) before)

      by_first : decision c i (at i) (covered reach ruled c j (at i)) ≡ result
      unfolding covered
      by_first = by_place (ltb i 128) refl (some_below (outside reach ruled c j (at i)) 128) refl
        where
          by_place : (b : Bool) → ltb i 128 ≡ b → (t : Bool) → some_below (outside reach ruled c j (at i)) 128 ≡ t
              → ◌≡◌ {A = Lookup} (elim b [ true ↦ elim (not t) [ true ↦ Rule (kind (at i)) | false ↦ Dispute (kind c) ] | false ↦ None ]) result
          by_place false e t s = first_none (ltb-false i 128 e)
          by_place true e true s = first_two (ltb-true i 128 e) s
          by_place true e false s = first_one (ltb-true i 128 e) s

    pub deciding_left : deciding order reach ruled c j ≡ decided (passing (left n (bit rows) (own_of m rules j) c) n) (Dispute (kind c))
    unfolding deciding
    deciding_left = by_first (first_below (common reach ruled c j) 128) (below_first (common reach ruled c j) 128)
