-- What is prepared for a book, as an edit of a rule reads it and keeps it.
--     kind_place, place_found        the first place in row c of reach is that of kind c, and a search along the row finds it
--     own_kept                       the own rule of kind e for a mark is set: the others stay
--     prepared_set                   .. and the place of e is put into the row of the mark, or taken out of it: what is prepared is so for the new rules
-- Assumes nothing.
use mathlib.Core.Path.{◌≡◌, refl, sym, ◌∙◌, ap}
use mathlib.Core.Logic.{◌≢◌, ◌⊎◌, inl, inr, ⊎_elim, by_cases}
use mathlib.Core.Bool.{Bool, true, false, ◌&&◌, not, true≢false}
use mathlib.Core.List.{List}
use Prim.Native.Nat.{ℕ, ◌+◌, ◌*◌, ◌<◌, ◌≤◌}
use native.Mathlib.Decide.{dec_lt}
use native.Mathlib.Omega.{arith}
use borrow.Author.Tests.{eq-eqb, lt-ltb, ltb-true}
use lib.Arith.{digits_lt}
use lib.Dec.{eqb, ltb}
use lib.ListN.{length, get_or, set}
use lib.Seq.{get_or-set_same, get_or-set_other}
use Rattle.inheritance.specs.Above.{above}
use Rattle.inheritance.proofs.AboveLaws.{chain_above}
use Rattle.std.specs.Prelude.{Option, Some, None}
use Rattle.std.specs.Option.{IsSome}
use Rattle.arranging.specs.Arranged.{Arranged}
use Rattle.relation.specs.declared.Relation.{Relation}
use Rattle.relation.specs.Bit.{bit, holds, row_of}
use Rattle.relation.specs.First.{First, Found}
use Rattle.relation.proofs.Bools.{both_eqb}
use Rattle.tables.specs.Tables.{own_of}
use Rattle.tables.proofs.TableLaws.{place_split}
use Rattle.ruling.specs.declared.Prepared.{Prepared}
use Rattle.ruling.specs.Ready.{Ready}
use Rattle.deciding.proofs.DecidingLaws.{reach_upto, place_in}

pub kind_place : (n : ℕ) (rows : Relation) (order : List ℕ) (reach : Relation) → Arranged n rows order reach → n ≤ 128 → (c : ℕ) → c < n → {i : ℕ} → First (bit reach c) 0 128 i
    → (i < n) × (get_or order i 0 ≡ c)
kind_place n rows order reach a most c h {i} first =
    let (k, l, e) = a.each c h in
    let there : bit reach c k ≡ true = (reach_upto n rows order reach a c k h l).1 (inl (sym e)) in
    let early : i ≤ k = by_cases (dec_lt k i) (λ less. absurd (true≢false (sym there ∙ first.none k (omega arith) less))) (λ more. omega arith) in
    let i<n : i < n = place_in n rows order reach a c i h (omega arith) (first.found (omega arith)) in (
      i<n,
      ⊎_elim (λ q. sym q)
          (λ r. absurd (let later = a.later k i l i<n (ap (λ (x : ℕ). above n (bit rows) x (get_or order i 0)) e ∙ chain_above n (bit rows) r) in omega arith))
          ((reach_upto n rows order reach a c i h i<n).0 (first.found (omega arith))),
    )

-- .. so a search along its row finds it
pub place_found : (n : ℕ) (rows : Relation) (order : List ℕ) (reach : Relation) → Arranged n rows order reach → n ≤ 128 → (c : ℕ) → c < n → (answer : Option ℕ)
    → Found (holds (row_of reach c)) 0 128 answer → IsSome answer × ((i : ℕ) → answer ≡ Some i → First (bit reach c) 0 128 i)
unfolding bit
place_found n rows order reach a most c h None none =
    let (k, l, e) = a.each c h in
    let there : bit reach c k ≡ true = (reach_upto n rows order reach a c k h l).1 (inl (sym e)) in
    absurd (true≢false (sym there ∙ none.none k (omega arith) (omega arith)))
place_found n rows order reach a most c h (Some k) found = (refl, λ i e. let same : k ≡ i = cc in rw (← same) found.0)

module _ (m : ℕ) (rules : List ℕ) (e mark handling : ℕ) (mark-in : mark < m) where
  pub own_kept : (j c : ℕ) → j < m → (c ≢ e) ⊎ (j ≢ mark) → own_of m rules j c ≡ own_of m (set rules (e * m + mark) handling) j c
  own_kept j c hj apart = ap (λ (x : ℕ). not (eqb x 0)) (sym (get_or-set_other rules (e * m + mark) (c * m + j) handling 0 elsewhere))
    where
      elsewhere : c * m + j ≢ e * m + mark
      elsewhere q = let same = place_split {k = c} {k' = e} hj mark-in q in ⊎_elim (λ ne. ne same.0) (λ ne. ne same.1) apart

  -- i is the place of e
  module _ (n : ℕ) (size : length rules ≡ n * m) (d : Prepared) (new : Relation) (i : ℕ) (i<n : i < n) (at_i : get_or d.order.kinds i 0 ≡ e) (p : Ready n m rules d) where
    abbrev rules' : List ℕ
    rules' = set rules (e * m + mark) handling

    own_set : own_of m rules' mark (get_or d.order.kinds i 0) ≡ not (eqb handling 0)
    own_set =
        let e<n : e < n = let k = p.arranged.kinds i i<n in omega arith in
        ap (own_of m rules' mark) at_i ∙ ap (λ (x : ℕ). not (eqb x 0)) (get_or-set_same rules (e * m + mark) handling 0 (omega (arith, digits_lt e<n mark-in)))

    -- the row of another mark, and another place
    kept : (j q : ℕ) → (eqb j mark && eqb q i) ≡ false → (ltb q n && (ltb j m && own_of m rules j (get_or d.order.kinds q 0))) ≡ (ltb q n && (ltb j m && own_of m rules' j (get_or d.order.kinds q 0)))
    kept j q off = go (ltb q n) refl (ltb j m) refl
      where
        apart : q < n → (get_or d.order.kinds q 0 ≢ e) ⊎ (j ≢ mark)
        apart l = by_bool (eqb q i) refl (eqb j mark) refl
          where
            by_bool : (s : Bool) → eqb q i ≡ s → (t : Bool) → eqb j mark ≡ t → (get_or d.order.kinds q 0 ≢ e) ⊎ (j ≢ mark)
            by_bool s es false et = inr (λ same. true≢false (sym (eq-eqb j mark same) ∙ et))
            by_bool false es true et = inl (λ same. true≢false (sym (eq-eqb q i (p.arranged.once q i l i<n (same ∙ sym at_i))) ∙ es))
            by_bool true es true et = absurd (true≢false (sym (rw (et, es) refl) ∙ off))

        go : (s : Bool) → ltb q n ≡ s → (t : Bool) → ltb j m ≡ t → (s && (t && own_of m rules j (get_or d.order.kinds q 0))) ≡ (s && (t && own_of m rules' j (get_or d.order.kinds q 0)))
        go false es t et = refl
        go true es false et = refl
        go true es true et = own_kept j (get_or d.order.kinds q 0) (ltb-true j m et) (apart (ltb-true q n es))

    -- whatever happens to that bit alone
    pub prepared_set : (f : Bool → Bool → Bool) → ((b : Bool) → f b false ≡ b) → ((b : Bool) → f b true ≡ not (eqb handling 0))
        → ((j q : ℕ) → q < 128 → bit new j q ≡ f (bit d.ruled j q) (eqb j mark && eqb q i)) → Ready n m rules' (record d { ruled = new })
    prepared_set f keeps sets bits = record { arranged = p.arranged; rule_kinds = record { bits = λ j q h. bits j q h ∙ go j q h (eqb j mark && eqb q i) refl } }
      where
        go : (j q : ℕ) → q < 128 → (t : Bool) → (eqb j mark && eqb q i) ≡ t → f (bit d.ruled j q) t ≡ (ltb q n && (ltb j m && own_of m rules' j (get_or d.order.kinds q 0)))
        go j q h false e = keeps (bit d.ruled j q) ∙ p.rule_kinds.bits j q h ∙ kept j q e
        go j q h true e =
            let (same-mark, same_place) = both_eqb j mark q i e in
            sets (bit d.ruled j q) ∙ rw (same-mark, same_place, lt-ltb i n i<n, lt-ltb mark m mark-in) (sym own_set)
