-- What one edit can touch. The links and own rules of one mark are `up` and `own` before the edit, `up'` and `own'` after it; no kind is above
-- itself before or after. Each law serves the other way round with the versions swapped.
--     below_upto         what is below c, as chains by links of kinds with no own rule
--     below_carries      where the versions agree at every kind below n but e, what is below e before the edit is below e after it
--     upto_carries       so is whatever has a chain up to e
--     agree              kinds whose own rules, kinds left and parents' lookups are the same keep their lookups
--     rule_keeps         the rule of e is edited: a kind that is not below e keeps its lookup, and its kinds left (rule_keeps_left)
--     rule_touched       a kind whose lookup changed is below e, before and after
--     link_keeps         the link from e to q is made or removed: a kind that is neither e nor below it keeps its lookup, and its kinds left (link_keeps_left)
--     link_keeps_parent  so does q
--     link_touched       a kind whose lookup changed has no own rule and is e or below it, and q sees something
-- Assumes nothing.
use mathlib.Core.Path.{◌≡◌, refl, ap, sym, ◌∙◌}
use mathlib.Core.Logic.{◌≢◌, ◌⊎◌, inl, inr, ⊎_elim, ◌↔◌}
use mathlib.Core.Bool.{Bool, true, false, and-eq-true_iff, not-eq-not}
use Prim.Native.Nat.{ℕ, ◌<◌}
use native.Mathlib.Decide.{ℕ_discrete}
use borrow.Author.Tests.{not-true}
use Rattle.inheritance.specs.declared.Lookup.{Lookup}
use Rattle.inheritance.specs.declared.Lookup.TheVariants.{None}
use Rattle.inheritance.specs.Above.{Chain, link, step, Upto, Acyclic}
use Rattle.inheritance.specs.Lookup.{Seen, here, there, open_links, Left, lookup, Below, start, down}
use Rattle.inheritance.proofs.AboveLaws.{upto_step, upto_dec, by_parents, SameBut, old_or_new}
use Rattle.inheritance.proofs.MeetLaws.{given_none, given_same}
use Rattle.inheritance.proofs.LeftLaws.{seen_rule, left_under, seen_carries, left_carries, left_same}
use Rattle.inheritance.proofs.LookupLaws.{inherit_same, unfold_lookup, lookup_own, lookup_none_iff}

-- ---- what is below a kind

module _ (n : ℕ) (up : ℕ → ℕ → Bool) (own : ℕ → Bool) where
  chain_below : {c k : ℕ} → Chain n (open_links up own) k c → Below n up own c k
  chain_below (link l e) = let (f, u) = (and-eq-true_iff _ _).0 e in down start l u (not-true _ f)
  chain_below (step l e r) = let (f, u) = (and-eq-true_iff _ _).0 e in down (chain_below r) l u (not-true _ f)

  below_chain : {c k : ℕ} → Below n up own c k → Upto n (open_links up own) k c
  below_chain start = inl refl
  below_chain (down b l u f) = inr (upto_step n (open_links up own) l (rw (f, u)) (below_chain b))

  pub below_upto : (c k : ℕ) → Below n up own c k ↔ Upto n (open_links up own) k c
  below_upto c k = (below_chain, ⊎_elim (λ e. rw e start) chain_below)

-- a chain that comes back to e starts anew there, so it reads only rows that agree
module _ (n : ℕ) (up up' : ℕ → ℕ → Bool) (own own' : ℕ → Bool) (e : ℕ)
    (same_up : (c p : ℕ) → c < n → p < n → c ≢ e → up c p ≡ up' c p) (same-own : (c : ℕ) → c < n → c ≢ e → own c ≡ own' c) where
  pub below_carries : {k : ℕ} → k < n → Below n up own e k → Below n up' own' e k
  below_carries lk start = start
  below_carries lk (down {p} {k} b l u o) = go (ℕ_discrete k e) (below_carries l b)
    where
      go : Dec (k ≡ e) → Below n up' own' e p → Below n up' own' e k
      go (yes s) b' = rw s start
      go (no h) b' = down b' l (sym (same_up k p lk l h) ∙ u) (sym (same-own k lk h) ∙ o)

-- with no own rules, what is below e is what has a chain up to it
pub upto_carries : (n : ℕ) (up up' : ℕ → ℕ → Bool) (e : ℕ) → ((c p : ℕ) → c < n → p < n → c ≢ e → up c p ≡ up' c p)
    → {k : ℕ} → k < n → Upto n up k e → Upto n up' k e
upto_carries n up up' e same_up {k} l h =
    let free : ℕ → Bool = λ _. false in
    (below_upto n up' free e k).0 (below_carries n up up' free free e same_up (λ _ _ _. refl) l ((below_upto n up free e k).1 h))

-- ---- kinds that keep what their lookups follow from

module _ (n : ℕ) (up up' : ℕ → ℕ → Bool) (own own' : ℕ → Bool) where
  module _ (acyclic : Acyclic n up) (acyclic' : Acyclic n up') (Q : ℕ → Type 0)
      (same-own : (c : ℕ) → c < n → Q c → own c ≡ own' c)
      (same_left : (c o : ℕ) → c < n → Q c → own c ≡ false → Left n up own c o ↔ Left n up' own' c o)
      (same-parent : (c p : ℕ) → c < n → p < n → Q c → own c ≡ false
      → ((up c p ≡ up' c p) × (up c p ≡ true → Q p)) ⊎ ((lookup n up own p ≡ None) × (lookup n up' own' p ≡ None))) where
    pub agree : (c : ℕ) → c < n → Q c → lookup n up own c ≡ lookup n up' own' c
    agree = by_parents n up acyclic (λ c. Q c → at c ≡ at' c) (λ c l parents q. by_own c l parents q (own c) refl)
      where
        at : ℕ → Lookup
        at = lookup n up own

        at' : ℕ → Lookup
        at' = lookup n up' own'

        by_own : (c : ℕ) → c < n → ((p : ℕ) → p < n → up c p ≡ true → Q p → at p ≡ at' p) → Q c → (b : Bool) → own c ≡ b → at c ≡ at' c
        by_own c l parents q true t = lookup_own n up own acyclic c l t ∙ sym (lookup_own n up' own' acyclic' c l (sym (same-own c l q) ∙ t))
        by_own c l parents q false f =
            unfold_lookup n up own acyclic c l
            ∙ inherit_same n up up' own own' at at' c (λ o lo. left_same n up up' own own' l l lo (same_left c o l q f))
            (λ p lp. ⊎_elim (λ (s, h). given_same (up c p) (at p) (at' p) s (λ u. parents p lp u (h u)))
            (λ (none, none'). given_none (up c p) none ∙ sym (given_none (up' c p) none')) (same-parent c p l lp q f))
            ∙ sym (unfold_lookup n up' own' acyclic' c l)

-- ---- an edit of the rule of e

module _ (n : ℕ) (up : ℕ → ℕ → Bool) (acyclic : Acyclic n up) (own own' : ℕ → Bool) (e : ℕ) (same-own : (c : ℕ) → c < n → c ≢ e → own c ≡ own' c) where
  abbrev Far : ℕ → Type 0
  Far k = ¬ Below n up own e k

  far_own : (c : ℕ) → c < n → Far c → own c ≡ own' c
  far_own c l far = same-own c l (λ q. far (rw q start))

  further : {c p : ℕ} → Far c → p < n → up c p ≡ true → own c ≡ false → Far p
  further far lp u f b = far (down b lp u f)

  far_to : {c o : ℕ} → c < n → Far c → Seen n up own c o → Seen n up own' c o
  far_to = seen_carries n up up own own' Far far_own (λ c p l lp far u. (u, further far lp u))

  far_from : {c o : ℕ} → c < n → Far c → Seen n up own' c o → Seen n up own c o
  far_from = seen_carries n up up own' own Far (λ c l far. sym (far_own c l far)) (λ c p l lp far u. (u, λ f. further far lp u (far_own c l far ∙ f)))

  pub rule_keeps_left : (k o : ℕ) → k < n → ¬ Below n up own e k → Left n up own k o ↔ Left n up own' k o
  rule_keeps_left k o l far = (
    left_carries n up up own own' l (far_to l far) (λ o'. far_from l far) (λ _ _ _ r. r),
    left_carries n up up own' own l (far_from l far) (λ o'. far_to l far) (λ _ _ _ r. r),
  )

  pub rule_keeps : (k : ℕ) → k < n → ¬ Below n up own e k → lookup n up own k ≡ lookup n up own' k
  rule_keeps =
      agree n up up own own' acyclic acyclic Far far_own (λ c o l far f. rule_keeps_left c o l far) (λ c p l lp far f. inl (refl, λ u. further far lp u f))

  pub rule_touched : e < n → (k : ℕ) → k < n → lookup n up own k ≢ lookup n up own' k → Below n up own e k × Below n up own' e k
  rule_touched e<n k l differ = go (upto_dec n (open_links up own) k e e<n)
    where
      go : Dec (Upto n (open_links up own) k e) → Below n up own e k × Below n up own' e k
      go (yes h) = let b = (below_upto n up own e k).1 h in (b, below_carries n up up own own' e (λ _ _ _ _ _. refl) same-own l b)
      go (no h) = absurd (differ (rule_keeps k l (λ b. h ((below_upto n up own e k).0 b))))

-- ---- an edit of the link from e to q

module _ (n : ℕ) (up up' : ℕ → ℕ → Bool) (own : ℕ → Bool) (acyclic : Acyclic n up) (acyclic' : Acyclic n up') (e q : ℕ) (same : SameBut n up up' e q) where
  abbrev Clear : ℕ → Type 0
  Clear k = ¬ Upto n up k e

  clear_up : (c p : ℕ) → c < n → p < n → Clear c → up c p ≡ up' c p
  clear_up c p l lp clear = sym (same c p l lp (λ (h, _). clear (inl h)))

  clear_next : {c p : ℕ} → Clear c → p < n → up c p ≡ true → Clear p
  clear_next clear lp u h = clear (inr (upto_step n up lp u h))

  chain_to : {c p : ℕ} → c < n → Clear c → Chain n up c p → Chain n up' c p
  chain_to l clear (link lp u) = link lp (sym (clear_up _ _ l lp clear) ∙ u)
  chain_to l clear (step lp u r) = step lp (sym (clear_up _ _ l lp clear) ∙ u) (chain_to lp (clear_next clear lp u) r)

  chain_from : {c p : ℕ} → c < n → Clear c → Chain n up' c p → Chain n up c p
  chain_from l clear (link lp u) = link lp (clear_up _ _ l lp clear ∙ u)
  chain_from l clear (step lp u r) = let u₀ = clear_up _ _ l lp clear ∙ u in step lp u₀ (chain_from lp (clear_next clear lp u₀) r)

  -- a kind that is seen from one that is clear of e is clear of e
  clear_seen : {c o : ℕ} → Clear c → Seen n up own c o → Clear o
  clear_seen clear (here t) = clear
  clear_seen clear (there f lp u s) = clear_seen (clear_next clear lp u) s

  clear_to : {c o : ℕ} → c < n → Clear c → Seen n up own c o → Seen n up' own c o
  clear_to = seen_carries n up up' own own Clear (λ _ _ _. refl) (λ c p l lp clear u. (sym (clear_up c p l lp clear) ∙ u, λ _. clear_next clear lp u))

  clear_from : {c o : ℕ} → c < n → Clear c → Seen n up' own c o → Seen n up own c o
  clear_from =
      seen_carries n up' up own own Clear (λ _ _ _. refl) (λ c p l lp clear u. let u₀ = clear_up c p l lp clear ∙ u in (u₀, λ _. clear_next clear lp u₀))

  pub link_keeps_left : (k o : ℕ) → k < n → ¬ Upto n up k e → Left n up own k o ↔ Left n up' own k o
  link_keeps_left k o l clear = (
    left_carries n up up' own own l (clear_to l clear) (λ o'. clear_from l clear)
        (λ o' s _. chain_from (seen_rule n up' own l s).0 (clear_seen clear (clear_from l clear s))),
    left_carries n up' up own own l (clear_from l clear) (λ o'. clear_to l clear)
        (λ o' s _. chain_to (seen_rule n up own l s).0 (clear_seen clear s)),
  )

  pub link_keeps : (k : ℕ) → k < n → ¬ Upto n up k e → lookup n up own k ≡ lookup n up' own k
  link_keeps =
      agree n up up' own own acyclic acyclic' Clear (λ _ _ _. refl) (λ c o l clear f. link_keeps_left c o l clear)
      (λ c p l lp clear f. inl (clear_up c p l lp clear, clear_next clear lp))

-- nothing is seen from q, so neither what is seen nor a chain to a rule kind passes the link
module _ (n : ℕ) (up up' : ℕ → ℕ → Bool) (own : ℕ → Bool) (e q : ℕ) (same : SameBut n up up' e q) (unseen : (o : ℕ) → ¬ Seen n up own q o) where
  past : {c p : ℕ} → (o : ℕ) × Seen n up own p o → p < n → up c p ≡ true → (o : ℕ) × Seen n up own c o
  past {c} (o, s) lp u = by_own (own c) refl
    where
      by_own : (b : Bool) → own c ≡ b → (o : ℕ) × Seen n up own c o
      by_own true t = (c, here t)
      by_own false f = (o, there f lp u s)

  unseen_seen : {c o : ℕ} → c < n → Seen n up' own c o → Seen n up own c o
  unseen_seen l (here t) = here t
  unseen_seen l (there f lp u s) =
      let s₀ = unseen_seen lp s in
      ⊎_elim (λ old. there f lp old s₀) (λ (_, h). absurd (unseen _ (rw h at s₀))) (old_or_new n up up' e q same _ _ l lp u)

  -- a kind with a rule kind above it sees something
  sees : {c o : ℕ} → own o ≡ true → Chain n up c o → (o' : ℕ) × Seen n up own c o'
  sees t (link lp u) = past (_, here t) lp u
  sees t (step lp u r) = past (sees t r) lp u

  unseen_chain : {c o : ℕ} → c < n → own o ≡ true → Chain n up' c o → Chain n up c o
  unseen_chain l t (link lo u) = ⊎_elim (link lo) (λ (_, h). absurd (unseen q (here (rw h at t)))) (old_or_new n up up' e q same _ _ l lo u)
  unseen_chain l t (step lp u r) =
      let r₀ = unseen_chain lp t r in
      ⊎_elim (λ old. step lp old r₀) (λ (_, h). let (o', s) = sees t (rw h at r₀) in absurd (unseen o' s)) (old_or_new n up up' e q same _ _ l lp u)

module _ (n : ℕ) (up up' : ℕ → ℕ → Bool) (own : ℕ → Bool) (acyclic : Acyclic n up) (acyclic' : Acyclic n up') (e q : ℕ) (same : SameBut n up up' e q)
    (e<n : e < n) (q<n : q < n) (apart : ¬ Upto n up q e) where
  back : SameBut n up' up e q
  back c p l lp h = sym (same c p l lp h)

  pub link_keeps_parent : lookup n up own q ≡ lookup n up' own q
  link_keeps_parent = link_keeps n up up' own acyclic acyclic' e q same q q<n apart

  none_unseen : (up : ℕ → ℕ → Bool) → Acyclic n up → lookup n up own q ≡ None → (o : ℕ) → ¬ Seen n up own q o
  none_unseen up acyclic none o s = let (o', h, _) = left_under n up own acyclic q<n s in (lookup_none_iff n up own q q<n).0 none o' h

  none_keeps : lookup n up own q ≡ None → (k : ℕ) → k < n → lookup n up own k ≡ lookup n up' own k
  none_keeps none k l =
      agree n up up' own own acyclic acyclic' (λ _. Unit {0}) (λ _ _ _. refl)
      (λ c o l _ f. (
        left_carries n up up' own own l (to l) (λ o'. from l) (λ o' s t. unseen_chain n up up' own e q same unseen (seen_rule n up' own l s).0 t),
        left_carries n up' up own own l (from l) (λ o'. to l) (λ o' s t. unseen_chain n up' up own e q back unseen' (seen_rule n up own l s).0 t),
      ))
      (λ c p l lp _ f. parent c p l lp (ℕ_discrete c e) (ℕ_discrete p q)) k l tt
    where
      none' : lookup n up' own q ≡ None
      none' = sym link_keeps_parent ∙ none

      unseen : (o : ℕ) → ¬ Seen n up own q o
      unseen = none_unseen up acyclic none

      unseen' : (o : ℕ) → ¬ Seen n up' own q o
      unseen' = none_unseen up' acyclic' none'

      to : {c o : ℕ} → c < n → Seen n up own c o → Seen n up' own c o
      to = unseen_seen n up' up own e q back unseen'

      from : {c o : ℕ} → c < n → Seen n up' own c o → Seen n up own c o
      from = unseen_seen n up up' own e q same unseen

      parent : (c p : ℕ) → c < n → p < n → Dec (c ≡ e) → Dec (p ≡ q)
          → ((up c p ≡ up' c p) × (up c p ≡ true → Unit {0})) ⊎ ((lookup n up own p ≡ None) × (lookup n up' own p ≡ None))
      parent c p l lp (yes h) (yes j) = inr (ap (lookup n up own) j ∙ none, ap (lookup n up' own) j ∙ none')
      parent c p l lp (yes h) (no j) = inl (sym (same c p l lp (λ b. j b.1)), λ _. tt)
      parent c p l lp (no h) j = inl (sym (same c p l lp (λ b. h b.0)), λ _. tt)

  pub link_touched : (k : ℕ) → k < n → lookup n up own k ≢ lookup n up' own k → Upto n up k e × (own k ≡ false) × (lookup n up own q ≢ None)
  link_touched k l differ = (
    elim (upto_dec n up k e e<n) [ yes h ↦ h | no h ↦ absurd (differ (link_keeps n up up' own acyclic acyclic' e q same k l h)) ],
    (not-eq-not {b = false}).0 (λ t. differ (lookup_own n up own acyclic k l t ∙ sym (lookup_own n up' own acyclic' k l t))),
    λ none. differ (none_keeps none k l),
  )
