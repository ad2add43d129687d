-- The kinds left, gathered place after place, and the two lowest of them.
--     orderly                                   the order of what is prepared
--     taken_above                               a row of reach is joined to a set
--     gathered_none, gathered_take, gathered_skip     no place is gone through; one more that is common, and one that is not
--     gathered_left                             after the last place the set has the kinds left
--     pair_none, pair_one, pair_two             the two lowest, as code finds them: there is none, there is one, there are two
--     passed_pair                               a `?` returns that there are not two
-- Assumes nothing.
use mathlib.Core.Path.{◌≡◌, refl, sym, ◌∙◌, ap, ap₂, subst}
use mathlib.Core.Logic.{inr, ⊎_elim, ◌↔◌, by_cases}
use mathlib.Core.Bool.{Bool, true, false, ◌&&◌, ◌||◌, not, true≢false, and-eq-true_iff, not-eq-not, or-false, and-false}
use mathlib.Core.List.{List, [], ◌∷◌, ◌++◌}
use Prim.Native.Nat.{ℕ, zero, suc, ◌+◌, ◌<◌, ◌≤◌, zero-le}
use native.Mathlib.Nat.{not-suc-le-zero}
use native.Mathlib.Decide.{dec_lt}
use native.Mathlib.Numerals.{add-one}
use native.Mathlib.Omega.{arith}
use borrow.Author.Tests.{eq-eqb, eqb-true, lt-ltb, le-ltb, not-true}
use lib.Dec.{eqb, ltb}
use lib.ListN.{get_or}
use Rattle.inheritance.specs.Above.{Chain}
use Rattle.inheritance.specs.Checked.{kind}
use Rattle.inheritance.specs.declared.Kind.{Kind}
use Rattle.inheritance.specs.Lookup.{some_below, least, left, passing}
use Rattle.inheritance.proofs.AboveLaws.{lt_suc_cases, chain_above}
use Rattle.inheritance.proofs.Bools.{same_bool}
use Rattle.inheritance.proofs.LeftLaws.{some_true, true_some, least_test}
use Rattle.inheritance.proofs.NearLaws.{Near, near, near_test, left_near}
use Rattle.arranging.specs.Arranged.{Arranged}
use Rattle.relation.specs.declared.KindSet.{KindSet}
use Rattle.relation.specs.declared.Relation.{Relation}
use Rattle.relation.specs.Bit.{bit, holds, none_of, row_of, Gains}
use Rattle.relation.specs.First.{First}
use Rattle.relation.proofs.Bools.{one_more}
use Rattle.std.specs.Prelude.{Result}
use Rattle.std.specs.Result.{IsErrAnd}
use Rattle.std.proofs.lemmas.Result.{err_from_is_err_and}
use Rattle.relation.proofs.Zeros.{holds_none}
use Rattle.tables.specs.declared.Refusal.{Refusal}
use Rattle.tables.specs.Tables.{own_of}
use Rattle.ruling.specs.declared.Prepared.{Prepared}
use Rattle.ruling.specs.Ready.{Ready}
use Rattle.ruling.specs.Ruling.{Ruled}
use Rattle.deciding.specs.Deciding.{common}
use Rattle.parting.specs.Parting.{Orderly, hidden, LeftKinds, LeftGathered, pair_of}
use Rattle.deciding.proofs.DecidingLaws.{reach_upto, both_near, near_place}

pub orderly : {n m : ℕ} {rules : List ℕ} {d : Prepared} → Ready n m rules d → Orderly n d.order.kinds
orderly p = record { kinds = p.arranged.kinds; once = p.arranged.once }

-- a row of reach, as a set, is joined to the places gone through
pub taken_above : (reach : Relation) (o : ℕ) {row old new : KindSet} → row ≡ row_of reach o → Gains old new (holds row) → Gains old new (bit reach o)
unfolding bit
taken_above reach o {old = old} is a = record { each = λ q h. a.each q h ∙ ap (λ (s : KindSet). holds old q || holds s q) is }

-- ---- place after place

module _ (d : Prepared) (c j : ℕ) where
  abbrev order : List ℕ
  order = d.order.kinds

  abbrev reach : Relation
  reach = d.order.reach

  abbrev ruled : Relation
  ruled = d.ruled

  abbrev both : ℕ → Bool
  both = common reach ruled c j

  abbrev over : ℕ → ℕ → Bool
  over k i = hidden order reach ruled c j k i

  hidden_more : (k i : ℕ) → over (k + 1) i ≡ (over k i || (both k && bit reach (get_or order k 0) i))
  unfolding hidden some_below
  hidden_more k i = rw (add-one k) refl

  module _ (n : ℕ) (o : Orderly n order) where
    abbrev Ga : ℕ → (set above : KindSet) → Type 0
    Ga i set above = LeftGathered n order reach ruled c j i set above

    pub gathered_none : Ga 0 none_of none_of
    unfolding hidden some_below
    gathered_none = record {
      kinds = λ k h. holds_none (get_or order k 0) ∙ sym (rw (le-ltb k 0 zero-le) refl);
      places = λ q h. holds_none q;
    }

    abbrev at : ℕ → ℕ
    at k = get_or order k 0

    -- the kind at place k is left
    abbrev alone : ℕ → Bool
    alone k = both k && not (over k k)

    same_place : (k i : ℕ) → k < n → i < n → eqb (at k) (at i) ≡ eqb k i
    same_place k i h l = same_bool _ _ (λ t. eq-eqb k i (o.once k i h l (eqb-true _ _ t))) (λ t. eq-eqb _ _ (ap at (eqb-true k i t)))

    pub gathered_take : (i : ℕ) {set above set' above' : KindSet} → n ≤ 128 → i < n → both i ≡ true
        → Gains set set' (λ q. eqb q (get_or order i 0) && not (holds above i)) → Gains above above' (bit reach (get_or order i 0))
        → Ga i set above → Ga (i + 1) set' above'
    gathered_take i {above = above} most h is a a' s = record {
      kinds = λ k l. let b = o.kinds k l in
          a.each (at k) (omega arith) ∙ ap₂ ◌||◌ (s.kinds k l) (ap₂ ◌&&◌ (same_place k i l h) here) ∙ one_more alone k i;
      places = λ q l. a'.each q l ∙ ap (λ (t : Bool). t || bit reach (at i) q) (s.places q l)
          ∙ ap (λ (t : Bool). over i q || (t && bit reach (at i) q)) (sym is) ∙ sym (hidden_more i q);
    }
      where
        here : not (holds above i) ≡ alone i
        here = ap not (s.places i (omega arith)) ∙ ap (λ (t : Bool). t && not (over i i)) (sym is)

    pub gathered_skip : (i : ℕ) {set above : KindSet} → i < n → both i ≡ false → Ga i set above → Ga (i + 1) set above
    gathered_skip i h off s = record {
      kinds = λ k l. s.kinds k l ∙ sym (or-false _) ∙ ap (λ (t : Bool). (ltb k i && alone k) || t) (sym (and-false (eqb k i)) ∙ ap (λ (t : Bool). eqb k i && t) none) ∙ one_more alone k i;
      places = λ q l. s.places q l ∙ sym (or-false _) ∙ ap (λ (t : Bool). over i q || (t && bit reach (at i) q)) (sym off) ∙ sym (hidden_more i q);
    }
      where
        none : false ≡ alone i
        none = ap (λ (t : Bool). t && not (over i i)) (sym off)

  -- in whatever rows the links are
  pub gathered_left : {n m : ℕ} {rows : Relation} {rules : List ℕ} (set : KindSet) → Arranged n rows order reach → Ruled n m rules order ruled → n ≤ 128 → c < n → j < m
      → LeftKinds n order reach ruled c j n set → (x : ℕ) → x < n → holds set x ≡ left n (bit rows) (own_of m rules j) c x
  unfolding hidden
  gathered_left {n} {m} {rows} {rules} set a p most hc hj s x hx =
      let (k, l, e) = a.each x hx in
      subst (λ (y : ℕ). holds set y ≡ left n (bit rows) own c y) e (s k l ∙ ap (λ (t : Bool). t && (both k && not (some_below (λ q. both q && bit reach (get_or order q 0) k) k))) (lt-ltb k n l) ∙ same k l ∙ sym (left_near n (bit rows) own c hc (at k) (a.kinds k l)))
    where
      own : ℕ → Bool
      own = own_of m rules j

      at : ℕ → ℕ
      at k = get_or order k 0

      near_at : (k : ℕ) → k < n → (both k ≡ true) ↔ Near n (bit rows) own c (at k)
      near_at k l = both_near n rows order reach a m rules ruled p most c j hc hj k l

      same : (k : ℕ) → k < n → (both k && not (some_below (λ q. both q && bit reach (at q) k) k)) ≡ least n (bit rows) (near n (bit rows) own c) (at k)
      same k l = same_bool _ _
          (λ e. let (is, none) = (and-eq-true_iff (both k) _).0 e in (least_test n (bit rows) (near n (bit rows) own c) (at k) hk).1
          ((near_test n (bit rows) own c (at k) hk).1 ((near_at k l).0 is), λ x hx near-x r. first (not-true _ none) x hx ((near_test n (bit rows) own c x hx).0 near-x) r))
          (λ e. let (is, none) = (least_test n (bit rows) (near n (bit rows) own c) (at k) hk).0 e in
          (and-eq-true_iff (both k) _).1 ((near_at k l).1 ((near_test n (bit rows) own c (at k) hk).0 is), ap not ((not-eq-not {b = false}).0 (λ t. under none (some_true _ k t)))))
        where
          hk : at k < n
          hk = a.kinds k l

          first : some_below (λ q. both q && bit reach (at q) k) k ≡ false → (x : ℕ) → x < n → Near n (bit rows) own c x → ¬ Chain n (bit rows) x (at k)
          first none x hx near-x r =
              let (q, h, e, is) = near_place n rows order reach a m rules ruled p most c j hc hj x hx near-x in
              let r' : Chain n (bit rows) (at q) (at k) = subst (λ (y : ℕ). Chain n (bit rows) y (at k)) (sym e) r in
              let before = a.later q k h l (chain_above n (bit rows) r') in
              let reached = (reach_upto n rows order reach a (at q) k (a.kinds q h) l).1 (inr r') in
              true≢false (sym (true_some (λ q. both q && bit reach (at q) k) k q before ((and-eq-true_iff (both q) _).1 (is, reached))) ∙ none)

          under : ((x : ℕ) → x < n → near n (bit rows) own c x ≡ true → ¬ Chain n (bit rows) x (at k)) → (q : ℕ) × (q < k) × ((both q && bit reach (at q) k) ≡ true) → ⊥
          under none (q, before, t) =
              let h : q < n = omega arith in
              let (is, reached) = (and-eq-true_iff (both q) _).0 t in
              ⊎_elim (λ e. let again = a.once q k h l e in omega arith)
              (λ r. none (at q) (a.kinds q h) ((near_test n (bit rows) own c (at q) (a.kinds q h)).1 ((near_at q h).0 is)) r)
              ((reach_upto n rows order reach a (at q) k (a.kinds q h) l).0 reached)

-- ---- the two lowest

passing_none : (f : ℕ → Bool) (k : ℕ) → ((i : ℕ) → i < k → f i ≡ false) → passing f k ≡ []
unfolding passing
passing_none f zero none = refl
passing_none f (suc k) none = ap₂ (λ (xs : List ℕ) (b : Bool). xs ++ (elim b [ true ↦ k ∷ [] | false ↦ [] ])) (passing_none f k (λ i l. none i (omega arith))) (none k (omega arith))

abbrev past : (ℕ → Bool) → ℕ → ℕ → Bool
past f a i = ltb a i && f i

past_off : (f : ℕ → Bool) (a i : ℕ) → i ≤ a → past f a i ≡ false
past_off f a i l = rw (le-ltb a i l) refl

passing_head : (f : ℕ → Bool) (a k : ℕ) → a < k → f a ≡ true → ((i : ℕ) → i < a → f i ≡ false) → passing f k ≡ a ∷ passing (past f a) k
unfolding passing
passing_head f a zero l is none = absurd (not-suc-le-zero l)
passing_head f a (suc k) l is none = ⊎_elim here (λ less. there less (passing_head f a k less is none)) (lt_suc_cases l)
  where
    last : Bool → List ℕ
    last b = elim b [ true ↦ k ∷ [] | false ↦ [] ]

    here : a ≡ k → (passing f k ++ last (f k)) ≡ (a ∷ (passing (past f a) k ++ last (past f a k)))
    here e =
        ap₂ (λ (xs : List ℕ) (b : Bool). xs ++ last b) (passing_none f k (λ i h. none i (omega arith))) (ap f (sym e) ∙ is)
        ∙ ap (λ (x : ℕ). x ∷ []) (sym e)
        ∙ ap (λ (xs : List ℕ). a ∷ xs) (sym (ap₂ (λ (xs : List ℕ) (b : Bool). xs ++ last b) (passing_none (past f a) k (λ i h. past_off f a i (omega arith))) (past_off f a k (omega arith))))

    there : a < k → passing f k ≡ (a ∷ passing (past f a) k) → (passing f k ++ last (f k)) ≡ (a ∷ (passing (past f a) k ++ last (past f a k)))
    there less e = ap₂ (λ (xs : List ℕ) (b : Bool). xs ++ last b) e (sym (ap (λ (t : Bool). t && f k) (lt-ltb a k less)))

module _ (f g : ℕ → Bool) (n : ℕ) (same : (i : ℕ) → i < n → g i ≡ f i) where
  gone : {from r : ℕ} → First g from n r → (i : ℕ) → from ≤ i → i < r → f i ≡ false
  gone s i a b = sym (same i (omega (arith, s.high))) ∙ s.none i a b

  pub pair_none : First g 0 n n → Result.Err Refusal.NoDispute ≡ pair_of (passing f n)
  pair_none s = sym (ap pair_of (passing_none f n (λ i h. gone s i (omega arith) h)))

  module _ {a b : ℕ} (s : First g 0 n a) (a<n : a < n) (t : First g (a + 1) n b) where
    head : passing f n ≡ a ∷ passing (past f a) n
    head = passing_head f a n a<n (sym (same a a<n) ∙ s.found a<n) (λ i h. gone s i (omega arith) h)

    off : (i : ℕ) → i < b → past f a i ≡ false
    off i h = by_cases (dec_lt a i) (λ less. rw (lt-ltb a i less) (gone t i (omega arith) h)) (λ more. past_off f a i (omega arith))

    pub pair_one : b ≡ n → Result.Err Refusal.NoDispute ≡ pair_of (passing f n)
    pair_one e = sym (ap pair_of (head ∙ ap (λ (xs : List ℕ). a ∷ xs) (passing_none (past f a) n (λ i h. off i (omega arith)))))

    pub pair_two : b < n → Result.Ok (kind a, kind b) ≡ pair_of (passing f n)
    pair_two l =
        let is : past f a b ≡ true = rw (lt-ltb a b (omega (arith, t.low))) (sym (same b l) ∙ t.found l) in
        sym (ap pair_of (head ∙ ap (λ (xs : List ℕ). a ∷ xs) (passing_head (past f a) b n l is (λ i h. off i h))))

-- a `?` returns the refusal that it found
pub passed_pair : (r : Result (Kind × Kind) Refusal) (why : Refusal) → IsErrAnd r (λ (y : Refusal). y ≡ why) → why ≡ Refusal.NoDispute
    → {o : Result (Kind × Kind) Refusal} → Result.Err Refusal.NoDispute ≡ o → r ≡ o
passed_pair r why is same e = let (y, is-err, found) = err_from_is_err_and r is in is-err ∙ ap Result.Err (found ∙ same) ∙ e
