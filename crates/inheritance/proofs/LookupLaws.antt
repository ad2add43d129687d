-- The laws of the lookup of one mark. First what it says of the kinds left:
--     lookup_none_iff      the lookup is none exactly if nothing is left
--     lookup_rule_iff      the lookup is the rule of o exactly if only o is left
--     lookup_dispute_iff   the lookup is a dispute exactly if two or more are left
--     left_two             where two or more are left, the list of these begins with the two lowest
--     lookup_range         the lookup of a kind below n names a kind below n: a rule one with its own rule, a dispute one without
--     lookup_bare          with no rule at all every lookup is none
-- and, where no kind is above itself:
--     unfold_lookup, unique_by, unique     `lookup` solves the equation of `inherit`, and nothing else does, nor solves another that `lookup` does
--     lookup_own                           an own rule wins at its own kind
--     lookup_agreed, lookup_apart          a dispute is at x if every direct parent whose lookup is not none has the dispute at x, otherwise at the kind
--     same_left                            a kind disputed at x has the same kinds left as x
--     lookup_shared                        where all the direct parents' lookups that are not none are equal, that one
-- Assumes nothing.
use mathlib.Core.Path.{◌≡◌, refl, sym, ◌∙◌, ap, ap₂, subst}
use mathlib.Core.Logic.{◌↔◌, ◌⊎◌, inl, inr, ⊎_elim}
use mathlib.Core.Bool.{Bool, true, false, not-eq-not}
use mathlib.Core.List.{List, [], ◌∷◌}
use Prim.Native.Nat.{ℕ, zero, suc, ◌<◌}
use native.Mathlib.Nat.{not-suc-le-zero}
use native.Mathlib.Omega.{arith}
use Rattle.inheritance.specs.declared.Lookup.{Lookup}
use Rattle.inheritance.specs.declared.Lookup.TheVariants.{None, Rule, Dispute}
use Rattle.inheritance.specs.Above.{Acyclic, rank}
use Rattle.inheritance.specs.Checked.{kind}
use Rattle.inheritance.specs.Lookup.{seen, least, left, Left, Two, passing, meet, disputed, decided, inherit, within, lookup}
use Rattle.inheritance.proofs.AboveLaws.{rank_lt, rank_falls, by_parents}
use Rattle.inheritance.proofs.MeetLaws.{Held, Shared, meet_cases, meet_shared, meet_keeps, given, given_same, meet_same}
use Rattle.inheritance.proofs.DecideLaws.{Tells, tells_none, tells_rule, tells_dispute, passing_same, passing_cases, decided_cases, disputed_dispute, disputed_keeps, disputed_cases}
use Rattle.inheritance.proofs.LeftLaws.{seen_rule, seen_own, left_test, own_left, left_from, left_shared}

abbrev pub InRange : ℕ → (own : ℕ → Bool) → Lookup → Type 0
InRange n own None = Unit {0}
InRange n own (Rule k) = (k.0 < n) × (own k.0 ≡ true)
InRange n own (Dispute k) = (k.0 < n) × (own k.0 ≡ false)

-- ---- the theorem on the kinds left

module _ (n : ℕ) (up : ℕ → ℕ → Bool) (own : ℕ → Bool) where
  abbrev LeftAt : ℕ → ℕ → Type 0
  LeftAt = Left n up own

  -- two kinds are left only where there is no own rule
  two_bare : {c : ℕ} → Two (LeftAt c) → own c ≡ false
  two_bare {c} (o₁, o₂, h₁, h₂, d) =
      (not-eq-not {b = false}).0 (λ t. d (seen_own n up own t h₁.is_seen ∙ sym (seen_own n up own t h₂.is_seen)))

  -- what the kinds left decide, where with two or more left it is v
  module _ (P : Lookup → Type 0) (v : Lookup) (c : ℕ) (c<n : c < n)
      (none : ((o : ℕ) → ¬ LeftAt c o) → P None)
      (one : (o : ℕ) → LeftAt c o → ((o' : ℕ) → LeftAt c o' → o' ≡ o) → P (Rule (kind o)))
      (two : Two (LeftAt c) → P v) where
    decided_by : P (decided (passing (left n up own c) n) v)
    decided_by =
        decided_cases P (left n up own c) n v
        (λ h. none (λ o p. let l = below p in h o l ((left_test n up own c o c<n l).1 p)))
        (λ o l p only. one o ((left_test n up own c o c<n l).0 p) (λ o' h. let m = below h in only o' m ((left_test n up own c o' c<n m).1 h)))
        (λ o o' l l' p p' q. two (o, o', (left_test n up own c o c<n l).0 p, (left_test n up own c o' c<n l').0 p', λ e. omega arith))
      where
        below : {o : ℕ} → LeftAt c o → o < n
        below h = (seen_rule n up own c<n h.is_seen).0

  -- where two kinds are left, the list of these begins with the two lowest, and what holds of any such list holds of it
  pub left_two : (P : List ℕ → Type 0) (c : ℕ) → c < n → Two (Left n up own c)
      → ((o o' : ℕ) (os : List ℕ) → Left n up own c o → Left n up own c o' → o < o' → ((i : ℕ) → Left n up own c i → i < o' → i ≡ o) → P (o ∷ o' ∷ os))
      → P (passing (left n up own c) n)
  left_two P c c<n (o₁, o₂, h₁, h₂, apart) two =
      passing_cases P (left n up own c) n
      (λ none. absurd (none o₁ (below h₁) (test h₁)))
      (λ o l p only. absurd (apart (only o₁ (below h₁) (test h₁) ∙ sym (only o₂ (below h₂) (test h₂)))))
      (λ o o' os l l' p p' less first. two o o' os ((left_test n up own c o c<n l).0 p) ((left_test n up own c o' c<n l').0 p') less (λ i h before. first i before (test h)))
    where
      below : {o : ℕ} → LeftAt c o → o < n
      below h = (seen_rule n up own c<n h.is_seen).0

      test : {o : ℕ} → LeftAt c o → left n up own c o ≡ true
      test {o} h = (left_test n up own c o c<n (below h)).1 h

  inherit_tells : (at : ℕ → Lookup) (c : ℕ) → c < n → Tells (LeftAt c) (inherit n up own at c)
  unfolding inherit
  inherit_tells at c l =
      decided_by (Tells (LeftAt c)) (disputed c (meet c (up c) at n)) c l
      (λ none. record { shown = tt; allowed = none })
      (λ o h only. record { shown = h; allowed = only })
      (λ two. let (k, e) = disputed_dispute c (meet c (up c) at n) in rw e record { shown = two; allowed = λ o h. tt })

  within_tells : (d c : ℕ) → c < n → 0 < d → Tells (LeftAt c) (within n up own d c)
  unfolding within
  within_tells zero c l h = absurd (omega arith)
  within_tells (suc d) c l h = inherit_tells (within n up own d) c l

  tells : (c : ℕ) → c < n → Tells (LeftAt c) (lookup n up own c)
  unfolding lookup
  tells c l = within_tells n c l (omega arith)

  pub lookup_none_iff : (c : ℕ) → c < n → (lookup n up own c ≡ None) ↔ ((o : ℕ) → ¬ Left n up own c o)
  lookup_none_iff c l = (λ e. (subst (Tells (LeftAt c)) e (tells c l)).allowed, tells_none (LeftAt c) (lookup n up own c) (tells c l))

  pub lookup_rule_iff : (c o : ℕ) → c < n → (lookup n up own c ≡ Rule (kind o)) ↔ (Left n up own c o × ((o' : ℕ) → Left n up own c o' → o' ≡ o))
  lookup_rule_iff c o l = (
    λ e. let t = subst (Tells (LeftAt c)) e (tells c l) in (t.shown, t.allowed),
    λ (h, only). tells_rule (LeftAt c) (lookup n up own c) (tells c l) h only,
  )

  pub lookup_dispute_iff : (c : ℕ) → c < n → ((x : ℕ) × (lookup n up own c ≡ Dispute (kind x))) ↔ Two (Left n up own c)
  lookup_dispute_iff c l = (λ (x, e). (subst (Tells (LeftAt c)) e (tells c l)).shown, tells_dispute (LeftAt c) (lookup n up own c) (tells c l))

  within_range : (d c : ℕ) → c < n → InRange n own (within n up own d c)
  unfolding within inherit
  within_range zero c l = tt
  within_range (suc d) c l =
      decided_by (InRange n own) (disputed c (meet c (up c) (within n up own d) n)) c l
      (λ none. tt) (λ o h only. seen_rule n up own l h.is_seen)
      (λ two. let here : InRange n own (Dispute (kind c)) = (l, two_bare two) in
      disputed_keeps (InRange n own) (meet c (up c) (within n up own d) n) here
      (meet_keeps (InRange n own) c tt here (up c) (within n up own d) n (λ p lp _. within_range d p lp)))

  pub lookup_range : (c : ℕ) → c < n → InRange n own (lookup n up own c)
  unfolding lookup
  lookup_range c l = within_range n c l

  module _ (bare : (c : ℕ) → own c ≡ false) where
    none_passes : (c k : ℕ) → passing (left n up own c) k ≡ []
    unfolding passing left least seen
    none_passes c zero = refl
    none_passes c (suc k) = rw (none_passes c k, bare k) refl

    within_bare : (d c : ℕ) → within n up own d c ≡ None
    unfolding within inherit
    within_bare zero c = refl
    within_bare (suc d) c = ap (λ os. decided os (disputed c (meet c (up c) (within n up own d) n))) (none_passes c n)

    pub lookup_bare : (c : ℕ) → lookup n up own c ≡ None
    unfolding lookup
    lookup_bare c = within_bare n c

-- ---- the equation of the lookup

module _ (n : ℕ) (up up' : ℕ → ℕ → Bool) (own own' : ℕ → Bool) (at at' : ℕ → Lookup) (c : ℕ) where
  pub inherit_same : ((o : ℕ) → o < n → left n up own c o ≡ left n up' own' c o)
      → ((p : ℕ) → p < n → given (up c p) (at p) ≡ given (up' c p) (at' p))
      → inherit n up own at c ≡ inherit n up' own' at' c
  unfolding inherit
  inherit_same lefts parents = ap₂ decided (passing_same _ _ n lefts) (ap (disputed c) (meet_same c (up c) (up' c) at at' n parents))

module _ (n : ℕ) (up : ℕ → ℕ → Bool) (own : ℕ → Bool) where
  inherit_cong : (at at' : ℕ → Lookup) (c : ℕ) → ((p : ℕ) → p < n → up c p ≡ true → at p ≡ at' p) → inherit n up own at c ≡ inherit n up own at' c
  inherit_cong at at' c agree =
      inherit_same n up up own own at at' c (λ o l. refl) (λ p l. given_same (up c p) (at p) (at' p) refl (agree p l))

  module _ (acyclic : Acyclic n up) where
    -- no chain from c has more links than its rank, so looking further changes nothing
    within_enough : (d d' c : ℕ) → c < n → rank n up c < d → rank n up c < d' → within n up own d c ≡ within n up own d' c
    unfolding within
    within_enough zero d' c l h h' = absurd (not-suc-le-zero h)
    within_enough (suc d) zero c l h h' = absurd (not-suc-le-zero h')
    within_enough (suc d) (suc d') c l h h' =
        inherit_cong (within n up own d) (within n up own d') c
        (λ p lp u. let f = rank_falls n up acyclic c p lp u in within_enough d d' p lp (omega arith) (omega arith))

    abbrev at : ℕ → Lookup
    at = lookup n up own

    pub unfold_lookup : (c : ℕ) → c < n → lookup n up own c ≡ inherit n up own (lookup n up own) c
    unfolding lookup within
    unfold_lookup c l = let b = rank_lt n up acyclic c l in within_enough n (suc n) c l b (omega arith)

    -- a rule by which each lookup follows from those of the direct parents, and that `lookup` meets, is met by nothing else
    pub unique_by :
        (rule : (ℕ → Lookup) → ℕ → Lookup)
        → ((v : ℕ → Lookup) (c : ℕ) → c < n → ((p : ℕ) → p < n → up c p ≡ true → v p ≡ lookup n up own p) → rule v c ≡ lookup n up own c)
        → (v : ℕ → Lookup) → ((c : ℕ) → c < n → v c ≡ rule v c) → (c : ℕ) → c < n → v c ≡ lookup n up own c
    unique_by rule meets v solves = by_parents n up acyclic (λ c. v c ≡ lookup n up own c) (λ c l parents. solves c l ∙ meets v c l parents)

    pub unique : (v : ℕ → Lookup) → ((c : ℕ) → c < n → v c ≡ inherit n up own v c) → (c : ℕ) → c < n → v c ≡ lookup n up own c
    unique = unique_by (inherit n up own) (λ v c l parents. inherit_cong v at c parents ∙ sym (unfold_lookup c l))

    pub lookup_own : (c : ℕ) → c < n → own c ≡ true → lookup n up own c ≡ Rule (kind c)
    lookup_own c l t = (lookup_rule_iff n up own c c l).1 (own_left n up own acyclic l t, λ o h. seen_own n up own t h.is_seen)

    -- ---- where a dispute is

    -- p is a direct parent of c whose lookup is not none
    abbrev pub Parent : ℕ → ℕ → Type 0
    Parent c p = Held c (up c) at n p

    -- so is one at which something is left
    pub left_parent : {c p o : ℕ} → p < n → up c p ≡ true → LeftAt n up own p o → Parent c p
    left_parent {p = p} {o = o} l u h = (l, u, λ none. (lookup_none_iff n up own p l).0 none o h)

    placed : (c : ℕ) → c < n → Two (LeftAt n up own c) → lookup n up own c ≡ disputed c (meet c (up c) at n)
    unfolding inherit
    placed c l two =
        unfold_lookup c l
        ∙ decided_by n up own (λ w. w ≡ disputed c (meet c (up c) at n)) (disputed c (meet c (up c) at n)) c l
        (λ none. absurd (none two.0 two.2))
        (λ o h only. absurd (two.4 (only two.0 two.2 ∙ sym (only two.1 two.3))))
        (λ _. refl)

    two_parent : {c : ℕ} → Two (LeftAt n up own c) → (p : ℕ) × Parent c p
    two_parent two = let (p, l, u, h) = left_from n up own acyclic (two_bare n up own two) two.2 in (p, left_parent l u h)

    pub lookup_agreed : (c x : ℕ) → c < n → Two (Left n up own c) → ((p : ℕ) → Parent c p → lookup n up own p ≡ Dispute (kind x)) → lookup n up own c ≡ Dispute (kind x)
    lookup_agreed c x l two agreed =
        let (p, h) = two_parent two in
        placed c l two ∙ ap (disputed c) (meet_shared c (up c) at n (Dispute (kind x)) agreed p h)

    -- a dispute of c is at c, or is what the direct parents share
    dispute_cases : {c x : ℕ} → c < n → lookup n up own c ≡ Dispute (kind x) → (x ≡ c) ⊎ Shared c (up c) at n (Dispute (kind x))
    dispute_cases {c} {x} l e =
        let two = (lookup_dispute_iff n up own c l).0 (x, e) in
        ⊎_elim inl
        (λ m. ⊎_elim (λ s. inr (subst (Shared c (up c) at n) m s)) (λ d. inl (same_place (sym m ∙ d.at_c))) (meet_cases c (up c) at n))
        (disputed_cases (meet c (up c) at n) (sym (placed c l two) ∙ e))
      where
        same_place : Dispute (kind x) ≡ Dispute (kind c) → x ≡ c
        same_place q = let k : kind x ≡ kind c = cc in ap (λ k. k.0) k

    pub lookup_apart : (c : ℕ) → c < n → Two (Left n up own c) → ((x : ℕ) → ¬ ((p : ℕ) → Parent c p → lookup n up own p ≡ Dispute (kind x)))
        → lookup n up own c ≡ Dispute (kind c)
    lookup_apart c l two apart =
        let (x, e) = (lookup_dispute_iff n up own c l).1 two in
        e ∙ ⊎_elim (λ q. ap (λ y. Dispute (kind y)) q) (λ s. absurd (apart x s.all)) (dispute_cases l e)

    -- x has the kinds left that c has
    abbrev Same : ℕ → ℕ → Type 0
    Same c x = (x < n) × ((o : ℕ) → LeftAt n up own c o ↔ LeftAt n up own x o)

    pub same_left : (c : ℕ) → c < n → (x : ℕ) → lookup n up own c ≡ Dispute (kind x) → (x < n) × ((o : ℕ) → Left n up own c o ↔ Left n up own x o)
    same_left = by_parents n up acyclic (λ c. (x : ℕ) → at c ≡ Dispute (kind x) → Same c x) from_parents
      where
        none_no_dispute : {x : ℕ} → Dispute (kind x) ≡ None → ⊥
        none_no_dispute e = let z : ◌≡◌ {A = ℕ} 0 1 = cc in omega arith

        from_parents :
            (c : ℕ) → c < n → ((p : ℕ) → p < n → up c p ≡ true → (x : ℕ) → at p ≡ Dispute (kind x) → Same p x)
            → (x : ℕ) → at c ≡ Dispute (kind x) → Same c x
        from_parents c l parents x e = ⊎_elim (λ q. rw q (l, λ o. (λ h. h, λ h. h))) through (dispute_cases l e)
          where
            f : own c ≡ false
            f = two_bare n up own ((lookup_dispute_iff n up own c l).0 (x, e))

            through : Shared c (up c) at n (Dispute (kind x)) → Same c x
            through s = ⊎_elim (λ none. absurd (none_no_dispute none)) (λ (p, h). by_parent p h) s.one
              where
                same_as : (p : ℕ) → Parent c p → Same p x
                same_as p h = parents p h.0 h.1 x (s.all p h)

                by_parent : (p : ℕ) → Parent c p → Same c x
                by_parent p h =
                    let (lx, as-x) = same_as p h in
                    let as_p = left_shared n up own acyclic f h.0 h.1
                    (λ p' o l' u' h'. (as-x o).1 (((same_as p' (left_parent l' u' h')).1 o).0 h')) in
                    (lx, λ o. (λ g. (as-x o).0 ((as_p o).0 g), λ g. (as_p o).1 ((as-x o).1 g)))

    -- ---- direct parents that share a lookup

    -- kinds with the same lookup have the same kinds left
    same_lookup : {p q o : ℕ} (v : Lookup) → p < n → q < n → at p ≡ v → at q ≡ v → LeftAt n up own p o → LeftAt n up own q o
    same_lookup None lp lq ep eq h = absurd ((lookup_none_iff n up own _ lp).0 ep _ h)
    same_lookup {q = q} (Rule k) lp lq ep eq h =
        subst (LeftAt n up own q) (sym (((lookup_rule_iff n up own _ k.0 lp).0 ep).1 _ h)) ((lookup_rule_iff n up own q k.0 lq).0 eq).0
    same_lookup {o = o} (Dispute x) lp lq ep eq h = ((same_left _ lq x.0 eq).1 o).1 (((same_left _ lp x.0 ep).1 o).0 h)

    pub lookup_shared : (c : ℕ) → c < n → own c ≡ false → (p : ℕ) → Parent c p → ((q : ℕ) → Parent c q → lookup n up own q ≡ lookup n up own p)
        → lookup n up own c ≡ lookup n up own p
    lookup_shared c l f p h shared = by_lookup (at p) refl
      where
        as_p : (o : ℕ) → LeftAt n up own c o ↔ LeftAt n up own p o
        as_p = left_shared n up own acyclic f h.0 h.1
            (λ q o lq u g. same_lookup (at p) lq h.0 (shared q (left_parent lq u g)) refl g)

        by_lookup : (v : Lookup) → at p ≡ v → at c ≡ at p
        by_lookup None e = absurd (h.2 e)
        by_lookup (Rule k) e =
            let (g, only) = (lookup_rule_iff n up own p k.0 h.0).0 e in
            (lookup_rule_iff n up own c k.0 l).1 ((as_p k.0).1 g, λ o g'. only o ((as_p o).0 g')) ∙ sym e
        by_lookup (Dispute x) e =
            let (o₁, o₂, h₁, h₂, d) = (lookup_dispute_iff n up own p h.0).0 (x.0, e) in
            lookup_agreed c x.0 l (o₁, o₂, (as_p o₁).1 h₁, (as_p o₂).1 h₂, d) (λ q g. shared q g ∙ e) ∙ sym e
