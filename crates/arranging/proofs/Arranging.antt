-- `arrange`: every kind is gone up from, and where all have a place, they are arranged.
--     Arranging                            the kinds below c are visited: the invariant of the loop
--     arranging_none, -climb, -keep        none is; c is gone up from, or was visited
--     arrangement                          after the last kind
-- Assumes nothing.
use mathlib.Core.Path.{◌≡◌, refl, sym, ap, subst, ◌∙◌}
use mathlib.Core.Logic.{◌≢◌, inl, inr, ⊎_elim, by_cases}
use mathlib.Core.Bool.{Bool, true, false, ◌||◌, or-true, not-eq-not}
use mathlib.Core.List.{List}
use Prim.Native.Nat.{ℕ, zero, suc, ◌+◌, ◌<◌, ◌≤◌}
use native.Mathlib.Decide.{ℕ_discrete, dec_lt}
use native.Mathlib.Omega.{arith}
use borrow.Author.Tests.{eq-eqb, ne_eqb, eqb-true}
use lib.Dec.{eqb}
use lib.ListN.{get_or, replicate, length}
use Rattle.inheritance.specs.Above.{Chain, link, step, Upto, Acyclic, above, one_if}
use Rattle.inheritance.proofs.AboveLaws.{or_cases, above_chain, chain_above, upto_step, count_none, count_some}
use Rattle.relation.specs.declared.Relation.{Relation}
use Rattle.relation.specs.Bit.{bit, Blank}
use Rattle.arranging.specs.declared.State.{State}
use Rattle.arranging.specs.declared.State.TheVariants.{New}
use Rattle.arranging.specs.Arranged.{state, unplaced, Joined, Placed, Climbed, Arranged, Arrangement}
use Rattle.inheritance.proofs.Bools.{same_bool}
use Rattle.arranging.proofs.Placing.{unplaced_at, placed_none, state_small, all_new}

pub record Arranging (n : ℕ) (up : ℕ → ℕ → Bool) (c k : ℕ) (states : List State) (order : List ℕ) (reach : Relation) : Type 0 where
  pub placed : Placed n up k states order reach
  pub gone : (d : ℕ) → d < c → state states d ≢ 0
  pub calm : Acyclic n up → (d : ℕ) → d < n → state states d ≢ 1

-- k is not written as 128, so that `replicate k New` stays as it is
pub arranging_none : (n : ℕ) (up : ℕ → ℕ → Bool) (k : ℕ) {order : List ℕ} {reach : Relation} → k ≡ 128 → length order ≡ 128 → Blank reach
    → Arranging n up 0 0 (replicate k New) order reach
arranging_none n up k e long b =
    record { placed = placed_none n up k e long b; gone = λ d l. absurd (omega arith); calm = λ acyclic d l. omega (arith, all_new k d) }

module _ {n : ℕ} {up : ℕ → ℕ → Bool} {c k : ℕ} {states : List State} {order : List ℕ} {reach : Relation} (lt : c < n) (s : Arranging n up c k states order reach) where
  pub arranging_keep : state states c ≢ 0 → Arranging n up (c + 1) k states order reach
  arranging_keep vis = record {
    placed = s.placed;
    gone = λ d l. by_cases (dec_lt d c) (s.gone d) (λ m. let same : d ≡ c = omega arith in omega (arith, ap (state states) same));
    calm = s.calm;
  }

  pub arranging_climb : {k' : ℕ} {states' : List State} {order' : List ℕ} {reach' : Relation} → Placed n up k' states' order' reach' → Climbed n up c states states' reach reach'
      → Arranging n up (c + 1) k' states' order' reach'
  arranging_climb {states' = states'} p m = record {
    placed = p;
    gone = λ d l.
        by_cases (dec_lt d c)
        (λ b. let vis = s.gone d b in omega (arith, m.kept.states d (omega arith) vis))
        (λ b. let same : d ≡ c = omega arith in omega (arith, ap (state states') same, m.gone));
    calm = λ acyclic d l e. s.calm acyclic d l (m.calm acyclic (λ g h one. absurd (s.calm acyclic g h one)) d l e);
  }

-- ---- every kind has a place

module _ {n : ℕ} {up : ℕ → ℕ → Bool} {states : List State} {order : List ℕ} {reach : Relation} (most : n ≤ 128) (s : Placed n up n states order reach) where
  abbrev at : ℕ → ℕ
  at i = get_or order i 0

  full : (c : ℕ) → c < n → state states c ≡ 2
  full c l = go (ℕ_discrete (state states c) 2)
    where
      go : Dec (state states c ≡ 2) → state states c ≡ 2
      go (yes e) = e
      go (no e) =
          let still : unplaced states c ≡ true = unplaced_at states c (state states c) refl ∙ rw (ne_eqb (state states c) 2 e) refl in
          absurd (omega (arith, s.left, count_some (unplaced states) n c l, ap one_if still))

  kind : (i : ℕ) → i < n → at i < n
  kind i l = (s.kinds i l (omega arith)).0

  one_place : (i j : ℕ) → i < n → j < n → at i ≡ at j → i ≡ j
  one_place i j l m = s.once i j l m (omega arith) (omega arith)

  place_of : (c : ℕ) → c < n → (i : ℕ) × (i < n) × (at i ≡ c)
  place_of c l = let (i, m, h, e) = s.each c l (full c l) in (i, m, e)

  parent_later : (i c p : ℕ) → i < n → at i ≡ c → p < n → up c p ≡ true → (j : ℕ) × (j < n) × (i < j) × (at j ≡ p)
  parent_later i c p l e m u = s.later i p l (omega arith) m (subst (λ (x : ℕ). up x p ≡ true) (sym e) u)

  chain_later : {c p : ℕ} → Chain n up c p → (i j : ℕ) → i < n → j < n → at i ≡ c → at j ≡ p → i < j
  chain_later {c} {p} (link m u) i j l l' e e' =
      let (j', m', h, f) = parent_later i c p l e m u in omega (arith, one_place j' j m' l' (f ∙ sym e'))
  chain_later {c} {p} (step {q = q} m u r) i j l l' e e' =
      let (j', m', h, f) = parent_later i c q l e m u in omega (arith, chain_later r j' j m' l' f e')

  acyclic : Acyclic n up
  acyclic c l = (not-eq-not {b = false}).0 (λ e. let (i, m, f) = place_of c l in absurd (omega (arith, chain_later (above_chain n up c c l e) i i m m f f)))

  row_of : (c i : ℕ) → i < n → at i ≡ c → Joined up reach c n (λ q. q ≡ i)
  row_of c i l e = subst (λ (x : ℕ). Joined up reach x n (λ q. q ≡ i)) e (s.places i l (omega arith))

  has_own : (c i : ℕ) → i < n → at i ≡ c → bit reach c i ≡ true
  has_own c i l e = (row_of c i l e).ours i (omega arith) refl

  has_above : {c p : ℕ} → Chain n up c p → c < n → (q : ℕ) → q < n → at q ≡ p → bit reach c q ≡ true
  has_above {c} {p} (link m u) l q h e =
      let (i, li, f) = place_of c l in (row_of c i li f).theirs p q m (omega arith) u (has_own p q h e)
  has_above {c} {p} (step {q = x} m u r) l q h e =
      let (i, li, f) = place_of c l in (row_of c i li f).theirs x q m (omega arith) u (has_above r m q h e)

  -- by places from the last down
  has_only : (d c i : ℕ) → i < n → n ≤ i + d → at i ≡ c → (q : ℕ) → q < 128 → bit reach c q ≡ true → (q < n) × Upto n up c (at q)
  has_only zero c i l h e q hq b = absurd (omega arith)
  has_only (suc d) c i l h e q hq b =
      ⊎_elim
      (λ same. (omega arith, inl (sym e ∙ ap at (sym same))))
      (λ w.
      let (x, m, u, f) = w in
      let (j, lj, below, g) = parent_later i c x l e m u in
      let (k, t) = has_only d x j lj (omega arith) g q hq f in
      (k, inr (upto_step n up m u t)))
      ((row_of c i l e).only q hq b)

  only_upto : (c q : ℕ) → c < n → q < 128 → bit reach c q ≡ true → (q < n) × Upto n up c (at q)
  only_upto c q l h b = let (i, m, e) = place_of c l in has_only n c i m (omega arith) e q h b

  row_reaches : (c i : ℕ) → c < n → i < n → bit reach c i ≡ (eqb (at i) c || above n up c (at i))
  row_reaches c i l m =
      same_bool (bit reach c i) (eqb (at i) c || above n up c (at i))
      (λ b. ⊎_elim (λ e. rw (eq-eqb (at i) c (sym e)) refl) (λ (r : Chain n up c (at i)). rw (chain_above n up r) (or-true (eqb (at i) c))) (only_upto c i l (omega arith) b).1)
      (λ b. ⊎_elim (λ e. has_own c i m (eqb-true (at i) c e)) (λ a. has_above (above_chain n up c (at i) (kind i m) a) l i m refl)
      (or_cases (eqb (at i) c) (above n up c (at i)) b))

arranged : {n : ℕ} {rows : Relation} {states : List State} {order : List ℕ} {reach : Relation} → n ≤ 128 → Placed n (bit rows) n states order reach → Arranged n rows order reach
arranged {n} {rows} {order = order} most s = record {
  long_order = s.long_order;
  kinds = kind most s;
  once = one_place most s;
  each = place_of most s;
  later = λ i k l m e. chain_later most s (above_chain n (bit rows) (get_or order i 0) (get_or order k 0) (kind most s k m) e) i k l m refl refl;
  reaches = row_reaches most s;
  beyond = λ c i l h m. (not-eq-not {b = false}).0 (λ b. absurd (omega (arith, (only_upto most s c i l m b).0)));
}

pub arrangement : {n k : ℕ} {rows : Relation} {states : List State} {order : List ℕ} {reach : Relation} → n ≤ 128 → Arranging n (bit rows) n k states order reach
    → Arrangement n rows order reach (eqb k n)
arrangement {n} {k} {rows} {states} {order} {reach} most s = record {
  arranged = λ e. arranged most (all e);
  free = λ e. acyclic most (all e);
  all = λ free. eq-eqb k n (omega (arith, s.placed.left, count_none (unplaced states) n (λ c l. unplaced_at states c 2 (two free c l))));
}
  where
    all : eqb k n ≡ true → Placed n (bit rows) n states order reach
    all e = subst (λ (x : ℕ). Placed n (bit rows) x states order reach) (eqb-true k n e) s.placed

    two : Acyclic n (bit rows) → (c : ℕ) → c < n → state states c ≡ 2
    two free c l = omega (arith, s.gone c l, s.calm free c l, state_small states c)
