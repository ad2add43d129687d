-- The rule kinds that are seen from a kind, and those left.
--     some_true, true_some, some_same    `some_below` passes exactly if some number does; tests that agree
--     seen_rule, seen_own, seen_test     a kind that is seen has its own rule; with an own rule only that is seen; the test `seen` is `Seen`
--     least_test                         `least` is: one of them, and above none of them
--     left_test                          the test `left` is `Left`
--     own_left                           with an own rule only that is left
-- and, where no kind is above itself:
--     left_under                         each kind that is seen is left, or is above one that is left
--     left_from, left_to                 at a kind without its own rule the least of the kinds left at its direct parents are left
--     left_shared                        that is, those left at one parent, where no other parent has more left
-- and of two versions of the links and own rules:
--     seen_carries, left_carries         what is seen or left by one is seen or left by the other
--     left_same                          where the same kinds are left, the tests are equal
--     least_agree, left_agree            only the links and own rules of the kinds below n play a part
-- Assumes nothing.
use mathlib.Core.Path.{◌≡◌, refl, sym, ◌∙◌, ap, ap₂}
use mathlib.Core.Logic.{inl, inr, ⊎_elim, ◌↔◌}
use mathlib.Core.Bool.{Bool, true, false, ◌&&◌, ◌||◌, not, true≢false, false≢true, and-eq-true_iff, or-true, not-eq-not}
use Prim.Native.Nat.{ℕ, zero, suc, ◌+◌, ◌≤◌, ◌<◌}
use native.Mathlib.Nat.{not-suc-le-zero}
use native.Mathlib.Omega.{arith}
use lib.Dec.{eqb}
use borrow.Author.Tests.{eqb-true, eq-eqb, not-true}
use Rattle.inheritance.specs.Above.{Chain, link, step, Upto, above, Acyclic, rank}
use Rattle.inheritance.specs.Lookup.{Seen, here, there, open_links, seen, some_below, least, left, Left}
use Rattle.inheritance.proofs.Bools.{same_bool}
use Rattle.inheritance.proofs.AboveLaws.{or_cases, lt_suc_cases, chain_above, above_chain, no_chain, above_same, rank_lt, chain_falls, upto_step, upto_chain}

-- ---- some number passes

module _ (f : ℕ → Bool) where
  pub some_true : (k : ℕ) → some_below f k ≡ true → (j : ℕ) × (j < k) × (f j ≡ true)
  unfolding some_below
  some_true zero e = absurd (false≢true e)
  some_true (suc k) e = ⊎_elim (λ h. let (j, l, p) = some_true k h in (j, omega arith, p)) (λ h. (k, omega arith, h)) (or_cases _ _ e)

  pub true_some : (k j : ℕ) → j < k → f j ≡ true → some_below f k ≡ true
  unfolding some_below
  true_some zero j l e = absurd (not-suc-le-zero l)
  true_some (suc k) j l e = ⊎_elim (λ q. let h : f k ≡ true = ap f (sym q) ∙ e in rw h (or-true (some_below f k))) (λ m. rw (true_some k j m e)) (lt_suc_cases l)

pub some_same : (f g : ℕ → Bool) (k : ℕ) → ((j : ℕ) → j < k → f j ≡ g j) → some_below f k ≡ some_below g k
unfolding some_below
some_same f g zero agree = refl
some_same f g (suc k) agree = ap₂ ◌||◌ (some_same f g k (λ j l. agree j (omega arith))) (agree k (omega arith))

-- ---- the least of some kinds

module _ (n : ℕ) (up : ℕ → ℕ → Bool) (among : ℕ → Bool) where
  -- o is one of them, and above none of them
  abbrev pub Least : ℕ → Type 0
  Least o = (among o ≡ true) × ((o' : ℕ) → o' < n → among o' ≡ true → ¬ Chain n up o' o)

  -- o' is one of them, and has o above it
  abbrev under : ℕ → ℕ → Bool
  under o o' = among o' && above n up o' o

  under_true : (o : ℕ) → o < n → some_below (under o) n ≡ true → (o' : ℕ) × (o' < n) × (among o' ≡ true) × Chain n up o' o
  under_true o l e =
      let (o', m, h) = some_true (under o) n e in
      let (is, a) = (and-eq-true_iff (among o') (above n up o' o)).0 h in
      (o', m, is, above_chain n up o' o l a)

  under_none : (o : ℕ) → some_below (under o) n ≡ false → (o' : ℕ) → o' < n → among o' ≡ true → ¬ Chain n up o' o
  under_none o e o' m is r = true≢false (sym (true_some (under o) n o' m ((and-eq-true_iff (among o') (above n up o' o)).1 (is, chain_above n up r))) ∙ e)

  pub least_test : (o : ℕ) → o < n → (least n up among o ≡ true) ↔ Least o
  unfolding least
  least_test o l = (to, from)
    where
      to : (among o && not (some_below (under o) n)) ≡ true → Least o
      to e = let (is, none) = (and-eq-true_iff (among o) _).0 e in (is, under_none o (not-true _ none))

      from : Least o → (among o && not (some_below (under o) n)) ≡ true
      from (is, none) =
          (and-eq-true_iff (among o) _).1
          (is, ap not ((not-eq-not {b = false}).0 (λ e. let (o', m, is', r) = under_true o l e in none o' m is' r)))

  -- one of the least is o or below it
  module _ (acyclic : Acyclic n up) where
    abbrev pub LeastUnder : ℕ → Type 0
    LeastUnder o = (o' : ℕ) × (o' < n) × Least o' × Upto n up o' o

    under_within : (d o : ℕ) → o < n → n ≤ rank n up o + d → among o ≡ true → LeastUnder o
    under_within zero o l h is = absurd (omega (arith, rank_lt n up acyclic o l))
    under_within (suc d) o l h is = by_some (some_below (under o) n) refl (under_within d)
      where
        by_some : (b : Bool) → some_below (under o) n ≡ b → ((o₁ : ℕ) → o₁ < n → n ≤ rank n up o₁ + d → among o₁ ≡ true → LeastUnder o₁) → LeastUnder o
        by_some true e nearer =
            let (o₁, m, is₁, r) = under_true o l e in
            let (o', m', h', q) = nearer o₁ m (omega (arith, chain_falls n up acyclic r)) is₁ in
            (o', m', h', inr (upto_chain n up q r))
        by_some false e nearer = (o, l, (is, under_none o e), inl refl)

    pub least_under : (o : ℕ) → o < n → among o ≡ true → LeastUnder o
    least_under o l is = under_within n o l (omega arith) is

-- ---- the kinds that are seen

module _ (n : ℕ) (up : ℕ → ℕ → Bool) (own : ℕ → Bool) where
  pub seen_rule : {c o : ℕ} → c < n → Seen n up own c o → (o < n) × (own o ≡ true)
  seen_rule h (here e) = (h, e)
  seen_rule h (there e l u s) = seen_rule l s

  pub seen_own : {c o : ℕ} → own c ≡ true → Seen n up own c o → o ≡ c
  seen_own t (here e) = refl
  seen_own t (there e h u s) = absurd (true≢false (sym t ∙ e))

  -- what is seen from a kind without its own rule is seen from a parent
  pub seen_parent : {c o : ℕ} → own c ≡ false → Seen n up own c o → (p : ℕ) × (p < n) × (up c p ≡ true) × Seen n up own p o
  seen_parent f (here t) = absurd (true≢false (sym t ∙ f))
  seen_parent f (there {p = p} _ l u s) = (p, l, u, s)

  -- the links of kinds without their own rule
  open_free : {c p : ℕ} → open_links up own c p ≡ true → (own c ≡ false) × (up c p ≡ true)
  open_free {c} {p} e = let (f, u) = (and-eq-true_iff (not (own c)) (up c p)).0 e in (not-true (own c) f, u)

  seen_chain : {c o : ℕ} → Seen n up own c o → (own o ≡ true) × Upto n (open_links up own) c o
  seen_chain (here t) = (t, inl refl)
  seen_chain (there f l u s) = let (t, r) = seen_chain s in (t, inr (upto_step n (open_links up own) l (rw (f, u)) r))

  chain_seen : {c o : ℕ} → own o ≡ true → Chain n (open_links up own) c o → Seen n up own c o
  chain_seen t (link l e) = let (f, u) = open_free e in there f l u (here t)
  chain_seen t (step l e r) = let (f, u) = open_free e in there f l u (chain_seen t r)

  pub seen_test : (c o : ℕ) → o < n → (seen n up own c o ≡ true) ↔ Seen n up own c o
  unfolding seen
  seen_test c o l = (to, from)
    where
      reached : Bool
      reached = eqb c o || above n (open_links up own) c o

      to : (own o && reached) ≡ true → Seen n up own c o
      to e =
          let (t, r) = (and-eq-true_iff (own o) reached).0 e in
          ⊎_elim (λ h. rw (eqb-true c o h) (here t)) (λ h. chain_seen t (above_chain n (open_links up own) c o l h)) (or_cases (eqb c o) _ r)

      reaches : Upto n (open_links up own) c o → reached ≡ true
      reaches (inl h) = rw (eq-eqb c o h)
      reaches (inr r) = rw (chain_above n (open_links up own) r) (or-true (eqb c o))

      from : Seen n up own c o → (own o && reached) ≡ true
      from s = let (t, r) = seen_chain s in (and-eq-true_iff (own o) reached).1 (t, reaches r)

  -- ---- the kinds left

  pub left_test : (c o : ℕ) → c < n → o < n → (left n up own c o ≡ true) ↔ Left n up own c o
  unfolding left
  left_test c o lc l = (
    λ e. let (s, none) = (least_test n up (seen n up own c) o l).0 e in
        record { is_seen = (seen_test c o l).0 s; above_none = λ o' s'. let m = (seen_rule lc s').0 in none o' m ((seen_test c o' m).1 s') },
    λ h. (least_test n up (seen n up own c) o l).1 ((seen_test c o l).1 h.is_seen, λ o' m s. h.above_none o' ((seen_test c o' m).0 s)),
  )

  module _ (acyclic : Acyclic n up) where
    -- some kind is left at c that is o or below o
    pub left_under : {c o : ℕ} → c < n → Seen n up own c o → (o' : ℕ) × Left n up own c o' × Upto n up o' o
    unfolding left
    left_under {c} {o} lc s =
        let l = (seen_rule lc s).0 in
        let (o', m, h, q) = least_under n up (seen n up own c) acyclic o l ((seen_test c o l).1 s) in
        (o', (left_test c o' lc m).0 ((least_test n up (seen n up own c) o' m).1 h), q)

    pub own_left : {c : ℕ} → c < n → own c ≡ true → Left n up own c c
    own_left l t = record { is_seen = here t; above_none = λ o' s r. no_chain n up acyclic l (rw (seen_own t s) at r) }

    pub left_from : {c o : ℕ} → own c ≡ false → Left n up own c o → (p : ℕ) × (p < n) × (up c p ≡ true) × Left n up own p o
    left_from f h =
        let (p, l, u, s) = seen_parent f h.is_seen in
        (p, l, u, record { is_seen = s; above_none = λ o' s'. h.above_none o' (there f l u s') })

    pub left_to :
        {c p o : ℕ} → own c ≡ false → p < n → up c p ≡ true → Left n up own p o
        → ((p' o' : ℕ) → p' < n → up c p' ≡ true → Left n up own p' o' → ¬ Chain n up o' o)
        → Left n up own c o
    left_to {c} {p} {o} f l u h clear = record { is_seen = there f l u h.is_seen; above_none = alone }
      where
        alone : (o' : ℕ) → Seen n up own c o' → ¬ Chain n up o' o
        alone o' s r =
            let (p', l', u', s') = seen_parent f s in
            let (o'', h'', q) = left_under l' s' in
            clear p' o'' l' u' h'' (upto_chain n up q r)

    -- where whatever is left at a direct parent is left at the direct parent p, the same is left at c
    pub left_shared :
        {c p : ℕ} → own c ≡ false → p < n → up c p ≡ true
        → ((p' o : ℕ) → p' < n → up c p' ≡ true → Left n up own p' o → Left n up own p o)
        → (o : ℕ) → Left n up own c o ↔ Left n up own p o
    left_shared f l u to-p o = (
      λ h. let (p', l', u', h') = left_from f h in to-p p' o l' u' h',
      λ h. left_to f l u h (λ p' o' l' u' h'. h.above_none o' (to-p p' o' l' u' h').is_seen),
    )

-- ---- two versions of the links and own rules

-- what is seen from the kinds in Q, where Q has with a kind its direct parents, unless it has its own rule
pub seen_carries : (n : ℕ) (up up' : ℕ → ℕ → Bool) (own own' : ℕ → Bool) (Q : ℕ → Type 0)
    → ((c : ℕ) → c < n → Q c → own c ≡ own' c)
    → ((c p : ℕ) → c < n → p < n → Q c → up c p ≡ true → (up' c p ≡ true) × (own c ≡ false → Q p))
    → {c o : ℕ} → c < n → Q c → Seen n up own c o → Seen n up' own' c o
seen_carries n up up' own own' Q same-own next l q (here t) = here (sym (same-own _ l q) ∙ t)
seen_carries n up up' own own' Q same-own next l q (there f lp u s) =
    let (u', h) = next _ _ l lp q u in
    there (sym (same-own _ l q) ∙ f) lp u' (seen_carries n up up' own own' Q same-own next lp (h f) s)

module _ (n : ℕ) (up up' : ℕ → ℕ → Bool) (own own' : ℕ → Bool) where
  pub left_carries : {c o : ℕ} → c < n → (Seen n up own c o → Seen n up' own' c o) → ((o' : ℕ) → Seen n up' own' c o' → Seen n up own c o')
      → ((o' : ℕ) → Seen n up' own' c o' → own o ≡ true → Chain n up' o' o → Chain n up o' o)
      → Left n up own c o → Left n up' own' c o
  left_carries l to from chain h = record {
    is_seen = to h.is_seen;
    above_none = λ o' s r. h.above_none o' (from o' s) (chain o' s (seen_rule n up own l h.is_seen).1 r);
  }

  pub left_same : {c x o : ℕ} → c < n → x < n → o < n → Left n up own c o ↔ Left n up' own' x o → left n up own c o ≡ left n up' own' x o
  left_same {c} {x} {o} l lx lo same =
      same_bool _ _ (λ e. (left_test n up' own' x o lx lo).1 (same.0 ((left_test n up own c o l lo).0 e)))
      (λ e. (left_test n up own c o l lo).1 (same.1 ((left_test n up' own' x o lx lo).0 e)))

-- only the links and own rules of the kinds below n play a part
module _ (n : ℕ) (up up' : ℕ → ℕ → Bool) (same_up : (c p : ℕ) → c < n → p < n → up c p ≡ up' c p) where
  pub least_agree : (among among' : ℕ → Bool) → ((o : ℕ) → o < n → among o ≡ among' o) → (o : ℕ) → o < n → least n up among o ≡ least n up' among' o
  unfolding least
  least_agree among among' same o l =
      ap₂ (λ (a b : Bool). a && not b) (same o l) (some_same _ _ n (λ o' m. ap₂ ◌&&◌ (same o' m) (above_same n up up' same_up o' o m l)))

  pub left_agree : (own own' : ℕ → Bool) → ((c : ℕ) → c < n → own c ≡ own' c) → (c o : ℕ) → c < n → o < n → left n up own c o ≡ left n up' own' c o
  unfolding left seen
  left_agree own own' same c o l lo =
      least_agree (seen n up own c) (seen n up' own' c)
      (λ o m. ap₂ (λ (a b : Bool). a && (eqb c o || b)) (same o m)
      (above_same n (open_links up own) (open_links up' own') (λ c p h k. ap₂ (λ (a b : Bool). not a && b) (same c h) (same_up c p h k)) c o l m)) o lo
