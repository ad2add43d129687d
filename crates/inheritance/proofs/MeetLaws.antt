-- Lookups compared, and what the lookups of the direct parents share.
--     same_true, same_refl, Lookup_discrete    `same` decides equality
--     join_none, join_same, join_differ        one more parent: the first that is no none, one more of the same, a different one
--     meet_cases                               all that are no none share one lookup, or two of them differ and it is a dispute at c
--     meet_shared                              the former, from the lookups of the parents
--     meet_keeps                               what holds of none, of a dispute at c and of each parent's lookup holds of what they share
--     meet_same, given_same, given_none        kinds that give the same: parents with the same lookup, or none
-- Assumes nothing.
use mathlib.Core.Path.{◌≡◌, refl, sym, ◌∙◌, ap, ap₂, subst}
use mathlib.Core.Bool.{Bool, true, false, true≢false, false≢true, not-eq-not}
use mathlib.Core.Logic.{◌≢◌, ◌⊎◌, inl, inr, ⊎_elim}
use Prim.Native.Nat.{ℕ, zero, suc, ◌<◌}
use native.Mathlib.Nat.{not-suc-le-zero}
use native.Mathlib.Omega.{arith}
use borrow.Author.Tests.{eqb-true, eq-eqb}
use Rattle.inheritance.specs.declared.Lookup.{Lookup}
use Rattle.inheritance.specs.declared.Lookup.TheVariants.{None, Rule, Dispute}
use Rattle.inheritance.specs.Checked.{kind}
use Rattle.inheritance.specs.Lookup.{same, or_dispute, join, meet}
use Rattle.inheritance.proofs.AboveLaws.{lt_suc_cases}

pub same_true : (v w : Lookup) → same v w ≡ true → v ≡ w
same_true None None e = refl
same_true None (Rule k) e = absurd (false≢true e)
same_true None (Dispute k) e = absurd (false≢true e)
same_true (Rule j) None e = absurd (false≢true e)
same_true (Rule j) (Rule k) e = ap (λ (m : ℕ). Rule (kind m)) (eqb-true j.0 k.0 e)
same_true (Rule j) (Dispute k) e = absurd (false≢true e)
same_true (Dispute j) None e = absurd (false≢true e)
same_true (Dispute j) (Rule k) e = absurd (false≢true e)
same_true (Dispute j) (Dispute k) e = ap (λ (m : ℕ). Dispute (kind m)) (eqb-true j.0 k.0 e)

pub same_refl : (v : Lookup) → same v v ≡ true
same_refl None = refl
same_refl (Rule k) = eq-eqb k.0 k.0 refl
same_refl (Dispute k) = eq-eqb k.0 k.0 refl

pub Lookup_discrete : Discrete Lookup
Lookup_discrete v w = decide (same v w) refl
  where
    decide : (b : Bool) → same v w ≡ b → Dec (v ≡ w)
    decide true e = yes (same_true v w e)
    decide false e = no (λ p. true≢false (sym (same_refl v) ∙ ap (same v) p ∙ e))

-- ---- one more parent

join_passes : (c : ℕ) (v : Lookup) → join c v None ≡ v
unfolding join
join_passes c v = refl

pub join_none : (c : ℕ) (w : Lookup) → join c None w ≡ w
unfolding join
join_none c None = refl
join_none c (Rule k) = refl
join_none c (Dispute k) = refl

pub join_same : (c : ℕ) (v : Lookup) → join c v v ≡ v
unfolding join
join_same c None = refl
join_same c (Rule k) = ap (λ (b : Bool). or_dispute c b (Rule k)) (same_refl (Rule k))
join_same c (Dispute k) = ap (λ (b : Bool). or_dispute c b (Dispute k)) (same_refl (Dispute k))

pub join_differ : (c : ℕ) (v w : Lookup) → v ≢ None → w ≢ None → same v w ≡ false → join c v w ≡ Dispute (kind c)
unfolding join
join_differ c v None hv hw d = absurd (hw refl)
join_differ c None (Rule k) hv hw d = absurd (hv refl)
join_differ c None (Dispute k) hv hw d = absurd (hv refl)
join_differ c (Rule j) (Rule k) hv hw d = ap (λ (b : Bool). or_dispute c b (Rule j)) d
join_differ c (Rule j) (Dispute k) hv hw d = refl
join_differ c (Dispute j) (Rule k) hv hw d = refl
join_differ c (Dispute j) (Dispute k) hv hw d = ap (λ (b : Bool). or_dispute c b (Dispute j)) d

-- ---- all the parents

module _ (c : ℕ) (parent : ℕ → Bool) (at : ℕ → Lookup) where
  -- p is a parent below k whose lookup is not none
  abbrev pub Held : ℕ → ℕ → Type 0
  Held k p = (p < k) × (parent p ≡ true) × (at p ≢ None)

  -- each of these has v; and there is one, unless v is none
  pub record Shared (k : ℕ) (v : Lookup) : Type 0 where
    pub all : (p : ℕ) → Held k p → at p ≡ v
    pub one : (v ≡ None) ⊎ ((p : ℕ) × Held k p)

  -- two of these differ, and v is a dispute at c
  pub record Differ (k : ℕ) (v : Lookup) : Type 0 where
    pub at_c : v ≡ Dispute (kind c)
    pub p : ℕ
    pub q : ℕ
    pub p_held : Held k p
    pub q_held : Held k q
    pub apart : at p ≢ at q

  wider : {k p : ℕ} → Held k p → Held (suc k) p
  wider (l, u, some) = (omega arith, u, some)

  -- of a parent below k + 1: it is k, or below k
  at_last : {k : ℕ} (P : ℕ → Type 0) → (Held (suc k) k → P k) → ((p : ℕ) → Held k p → P p) → (p : ℕ) → Held (suc k) p → P p
  at_last {k} P last before p (l, u, some) =
      ⊎_elim (λ q. subst P (sym q) (last (subst (Held (suc k)) q (l, u, some)))) (λ m. before p (m, u, some)) (lt_suc_cases l)

  shared_more : {k : ℕ} {v : Lookup} → Shared k v → (Held (suc k) k → at k ≡ v) → Shared (suc k) v
  shared_more {k} {v} s last = record { all = at_last (λ p. at p ≡ v) last s.all; one = ⊎_elim inl (λ (p, h). inr (p, wider h)) s.one }

  differ_more : {k : ℕ} {v : Lookup} → Differ k v → Differ (suc k) v
  differ_more d = record { at_c = d.at_c; p = d.p; q = d.q; p_held = wider d.p_held; q_held = wider d.q_held; apart = d.apart }

  abbrev Cases : ℕ → Lookup → Type 0
  Cases k v = Shared k v ⊎ Differ k v

  none_no_dispute : {v : Lookup} → v ≡ None → v ≡ Dispute (kind c) → ⊥
  none_no_dispute none dispute = let z : ◌≡◌ {A = ℕ} 0 1 = cc in omega arith

  joined : {k : ℕ} (v : Lookup) → parent k ≡ true → Cases k v → Cases (suc k) (join c v (at k))
  joined {k} v u = go (Lookup_discrete (at k) None) (Lookup_discrete v None) (Lookup_discrete v (at k))
    where
      -- a second that is held, and what is shared so far
      split : at k ≢ None → v ≢ None → v ≢ at k → Cases k v → Differ (suc k) (Dispute (kind c))
      split some held ne (inl s) = ⊎_elim (λ none. absurd (held none))
          (λ (p, h). record { at_c = refl; p = p; q = k; p_held = wider h; q_held = (omega arith, u, some); apart = λ e. ne (sym (s.all p h) ∙ e) }) s.one
      split some held ne (inr d) = rw (← d.at_c) (differ_more d)

      go : Dec (at k ≡ None) → Dec (v ≡ None) → Dec (v ≡ at k) → Cases k v → Cases (suc k) (join c v (at k))
      go (yes e) dv dw before =
          subst (Cases (suc k)) (sym (ap (join c v) e ∙ join_passes c v))
          (⊎_elim (λ s. inl (shared_more s (λ h. absurd (h.2 e)))) (λ d. inr (differ_more d)) before)
      go (no some) (yes e) dw (inl s) =
          subst (Cases (suc k)) (sym (ap (λ x. join c x (at k)) e ∙ join_none c (at k)))
          (inl record { all = at_last (λ p. at p ≡ at k) (λ _. refl) (λ p h. absurd (h.2 (s.all p h ∙ e))); one = inr (k, (omega arith, u, some)) })
      go (no some) (yes e) dw (inr d) = absurd (none_no_dispute e d.at_c)
      go (no some) (no held) (yes e) before =
          subst (Cases (suc k)) (sym (ap (join c v) (sym e) ∙ join_same c v))
          (⊎_elim (λ s. inl (shared_more s (λ _. sym e))) (λ d. inr (differ_more d)) before)
      go (no some) (no held) (no ne) before =
          subst (Cases (suc k)) (sym (join_differ c v (at k) held some ((not-eq-not {b = false}).0 (λ t. ne (same_true v (at k) t)))))
          (inr (split some held ne before))

  pub meet_cases : (k : ℕ) → Shared k (meet c parent at k) ⊎ Differ k (meet c parent at k)
  unfolding meet
  meet_cases zero = inl record { all = λ p h. absurd (not-suc-le-zero h.0); one = inl refl }
  meet_cases (suc k) = last (parent k) refl (meet_cases k)
    where
      last : (b : Bool) → parent k ≡ b → Cases k (meet c parent at k)
          → Cases (suc k) (elim b [ true ↦ join c (meet c parent at k) (at k) | false ↦ meet c parent at k ])
      last true u before = joined (meet c parent at k) u before
      last false u before = ⊎_elim (λ s. inl (shared_more s (λ h. absurd (true≢false (sym h.1 ∙ u))))) (λ d. inr (differ_more d)) before

  pub meet_shared : (k : ℕ) (v : Lookup) → ((p : ℕ) → Held k p → at p ≡ v) → (p : ℕ) → Held k p → meet c parent at k ≡ v
  meet_shared k v all p h =
      ⊎_elim (λ s. sym (s.all p h) ∙ all p h) (λ d. absurd (d.apart (all d.p d.p_held ∙ sym (all d.q d.q_held)))) (meet_cases k)

-- what holds of none, of a dispute at c and of each parent's lookup holds of what they share
module _ (P : Lookup → Type 0) (c : ℕ) (of_none : P None) (of-dispute : P (Dispute (kind c))) where
  pub meet_keeps : (parent : ℕ → Bool) (at : ℕ → Lookup) (k : ℕ) → ((p : ℕ) → p < k → parent p ≡ true → P (at p)) → P (meet c parent at k)
  meet_keeps parent at k of-parents =
      ⊎_elim
      (λ s. ⊎_elim (λ none. subst P (sym none) of_none) (λ (p, h). subst P (s.all p h) (of-parents p h.0 h.1)) s.one)
      (λ d. subst P (sym d.at_c) of-dispute) (meet_cases c parent at k)

-- ---- kinds that give the same

-- what a kind with lookup v gives, where b says whether it is a parent
abbrev pub given : Bool → Lookup → Lookup
given b v = elim b [ true ↦ v | false ↦ None ]

pub given_none : (b : Bool) {v : Lookup} → v ≡ None → given b v ≡ None
given_none true none = none
given_none false none = refl

pub given_same : (b : Bool) {b' : Bool} (v v' : Lookup) → b ≡ b' → (b ≡ true → v ≡ v') → given b v ≡ given b' v'
given_same b {b'} v v' s f = go b f ∙ ap (λ (x : Bool). given x v') s
  where
    go : (x : Bool) → (x ≡ true → v ≡ v') → given x v ≡ given x v'
    go true g = g refl
    go false g = refl

module _ (c : ℕ) where
  meet_given : (parent : ℕ → Bool) (at : ℕ → Lookup) (k : ℕ) → meet c parent at (suc k) ≡ join c (meet c parent at k) (given (parent k) (at k))
  unfolding meet
  meet_given parent at k = go (parent k)
    where
      go : (b : Bool) → ◌≡◌ {A = Lookup} (elim b [ true ↦ join c (meet c parent at k) (at k) | false ↦ meet c parent at k ])
          (join c (meet c parent at k) (given b (at k)))
      go true = refl
      go false = sym (join_passes c (meet c parent at k))

  meet_empty : (parent : ℕ → Bool) (at : ℕ → Lookup) → meet c parent at zero ≡ None
  unfolding meet
  meet_empty parent at = refl

  pub meet_same :
      (parent parent' : ℕ → Bool) (at at' : ℕ → Lookup) (k : ℕ)
      → ((p : ℕ) → p < k → given (parent p) (at p) ≡ given (parent' p) (at' p))
      → meet c parent at k ≡ meet c parent' at' k
  meet_same parent parent' at at' zero f = meet_empty parent at ∙ sym (meet_empty parent' at')
  meet_same parent parent' at at' (suc k) f =
      meet_given parent at k
      ∙ ap₂ (join c) (meet_same parent parent' at at' k (λ p l. f p (omega arith))) (f k (omega arith))
      ∙ sym (meet_given parent' at' k)
