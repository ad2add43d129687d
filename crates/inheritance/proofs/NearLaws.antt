-- The kinds left without the kinds seen: of the rule kinds that are c or above it those that are above no other of them.
--     Near, near, near_test          a rule kind that is c or above it; the same as a test
--     seen_near, near_seen           a kind that is seen is near; each near kind is seen, or is above one that is
--     left_near                      the kinds left are the least of the near ones
-- and, where no kind is above itself, what the kinds left decide by one near kind o:
--     near_none, near_one, near_two     none is near; o is near and all that are near are o or above it; o is above none that is near, and some near kind is
--                                       not o or above it
-- Assumes nothing.
use mathlib.Core.Path.{◌≡◌, refl, sym, ◌∙◌, ap, subst}
use mathlib.Core.Logic.{inl, inr, ⊎_elim, ◌↔◌}
use mathlib.Core.Bool.{Bool, true, false, ◌&&◌, ◌||◌, and-eq-true_iff, or-true}
use Prim.Native.Nat.{ℕ, ◌<◌}
use native.Mathlib.Omega.{arith}
use lib.Dec.{eqb}
use borrow.Author.Tests.{eqb-true, eq-eqb}
use Rattle.inheritance.specs.declared.Lookup.{Lookup}
use Rattle.inheritance.specs.declared.Lookup.TheVariants.{None, Rule}
use Rattle.inheritance.specs.Above.{Chain, link, step, Upto, above, Acyclic}
use Rattle.inheritance.specs.Checked.{kind}
use Rattle.inheritance.specs.Lookup.{Seen, here, there, least, left, Left, passing, decided}
use Rattle.inheritance.proofs.AboveLaws.{or_cases, above_chain, chain_above, no_chain, upto_step, upto_chain}
use Rattle.inheritance.proofs.Bools.{same_bool}
use Rattle.inheritance.proofs.LeftLaws.{Least, least_test, least_under, left_test, seen_rule}
use Rattle.inheritance.proofs.DecideLaws.{decided_cases}

module _ (n : ℕ) (up : ℕ → ℕ → Bool) (own : ℕ → Bool) where
  abbrev pub Near : ℕ → ℕ → Type 0
  Near c o = (own o ≡ true) × Upto n up c o

  abbrev pub near : ℕ → ℕ → Bool
  near c o = own o && (eqb c o || above n up c o)

  pub near_test : (c o : ℕ) → o < n → (near c o ≡ true) ↔ Near c o
  near_test c o l = (to, from)
    where
      to : near c o ≡ true → Near c o
      to e =
          let (t, r) = (and-eq-true_iff (own o) _).0 e in
          (t, ⊎_elim (λ h. inl (eqb-true c o h)) (λ h. inr (above_chain n up c o l h)) (or_cases (eqb c o) _ r))

      reaches : Upto n up c o → (eqb c o || above n up c o) ≡ true
      reaches (inl h) = rw (eq-eqb c o h)
      reaches (inr r) = rw (chain_above n up r) (or-true (eqb c o))

      from : Near c o → near c o ≡ true
      from (t, r) = (and-eq-true_iff (own o) _).1 (t, reaches r)

  pub seen_near : {c o : ℕ} → Seen n up own c o → Near c o
  seen_near (here t) = (t, inl refl)
  seen_near (there f l u s) = let (t, r) = seen_near s in (t, inr (upto_step n up l u r))

  -- one is seen that is o or below o
  abbrev SeenUnder : ℕ → ℕ → Type 0
  SeenUnder c o = (o' : ℕ) × Seen n up own c o' × Upto n up o' o

  chain_seen : {c o : ℕ} → own o ≡ true → Chain n up c o → SeenUnder c o
  chain_seen {c} {o} t (link l u) = by_own (own c) refl
    where
      by_own : (b : Bool) → own c ≡ b → SeenUnder c o
      by_own true e = (c, here e, inr (link l u))
      by_own false e = (o, there e l u (here t), inl refl)
  chain_seen {c} {o} t (step {q = q} l u r) = by_own (own c) refl (chain_seen t r)
    where
      by_own : (b : Bool) → own c ≡ b → SeenUnder q o → SeenUnder c o
      by_own true e s = (c, here e, inr (step l u r))
      by_own false e (o', s, h) = (o', there e l u s, h)

  pub near_seen : {c o : ℕ} → Near c o → SeenUnder c o
  near_seen {c} (t, inl e) = (c, here {c = c} (rw e t), inl e)
  near_seen (t, inr r) = chain_seen t r

  module _ (c : ℕ) (c<n : c < n) where
    left_least : (o : ℕ) → o < n → Left n up own c o ↔ Least n up (near c) o
    left_least o l = (to, from)
      where
        to : Left n up own c o → Least n up (near c) o
        to h = (
          (near_test c o l).1 (seen_near h.is_seen),
          λ o' m is r. let (o'', s, q) = near_seen ((near_test c o' m).0 is) in h.above_none o'' s (upto_chain n up q r),
        )

        from : Least n up (near c) o → Left n up own c o
        from (is, none) = record { is_seen = nearest (near_seen ((near_test c o l).0 is)); above_none = alone }
          where
            alone : (o' : ℕ) → Seen n up own c o' → ¬ Chain n up o' o
            alone o' s = let m = (seen_rule n up own c<n s).0 in none o' m ((near_test c o' m).1 (seen_near s))

            nearest : SeenUnder c o → Seen n up own c o
            nearest (o', s, inl e) = subst (Seen n up own c) e s
            nearest (o', s, inr r) = absurd (alone o' s r)

    is_left : (o : ℕ) → o < n → (left n up own c o ≡ true) ↔ Least n up (near c) o
    is_left o l = (λ e. (left_least o l).0 ((left_test n up own c o c<n l).0 e), λ h. (left_test n up own c o c<n l).1 ((left_least o l).1 h))

    pub left_near : (o : ℕ) → o < n → left n up own c o ≡ least n up (near c) o
    left_near o l = same_bool _ _ (λ e. (least_test n up (near c) o l).1 ((is_left o l).0 e)) (λ e. (is_left o l).1 ((least_test n up (near c) o l).0 e))

    module _ (v : Lookup) where
      abbrev decision : Lookup
      decision = decided (passing (left n up own c) n) v

      pub near_none : ((o : ℕ) → o < n → ¬ Near c o) → decision ≡ None
      near_none none =
          let not_left : (o : ℕ) → o < n → left n up own c o ≡ true → ⊥ = λ o l e. none o l ((near_test c o l).0 ((is_left o l).0 e).0) in
          decided_cases (λ w. w ≡ None) (left n up own c) n v (λ _. refl) (λ o l e only. absurd (not_left o l e)) (λ o o' l l' e e' q. absurd (not_left o l e))

      module _ (acyclic : Acyclic n up) (o : ℕ) (l : o < n) (is : Near c o) where
        -- those that are near are o or above it
        pub near_one : ((o' : ℕ) → o' < n → Near c o' → Upto n up o o') → decision ≡ Rule (kind o)
        near_one covers =
            decided_cases (λ w. w ≡ Rule (kind o)) (left n up own c) n v (λ none. absurd (none o l alone))
            (λ o' l' e _. ap (λ (x : ℕ). Rule (kind x)) (only o' l' e)) (λ o₁ o₂ l₁ l₂ e₁ e₂ q. absurd (omega (arith, only o₁ l₁ e₁, only o₂ l₂ e₂)))
          where
            alone : left n up own c o ≡ true
            alone = (is_left o l).1 ((near_test c o l).1 is, λ o' l' is' r. no_chain n up acyclic l (upto_chain n up (covers o' l' ((near_test c o' l').0 is')) r))

            only : (o' : ℕ) → o' < n → left n up own c o' ≡ true → o' ≡ o
            only o' l' e =
                let (is', none) = (is_left o' l').0 e in
                ⊎_elim (λ q. sym q) (λ r. absurd (none o l ((near_test c o l).1 is) r)) (covers o' l' ((near_test c o' l').0 is'))

        -- o is above none that is near, and not all of these are o or above it
        pub near_two : ((o' : ℕ) → o' < n → Near c o' → ¬ Chain n up o' o) → (o₂ : ℕ) → o₂ < n → Near c o₂ → ¬ Upto n up o o₂ → decision ≡ v
        near_two first o₂ l₂ is₂ apart =
            let is-first : left n up own c o ≡ true = (is_left o l).1 ((near_test c o l).1 is, λ o' l' is'. first o' l' ((near_test c o' l').0 is')) in
            let (o₃, l₃, h, q) = least_under n up (near c) acyclic o₂ l₂ ((near_test c o₂ l₂).1 is₂) in
            let is-other : left n up own c o₃ ≡ true = (is_left o₃ l₃).1 h in
            decided_cases (λ w. w ≡ v) (left n up own c) n v (λ none. absurd (none o l is-first))
            (λ o' _ _ only. absurd (apart (subst (λ (x : ℕ). Upto n up x o₂) (only o₃ l₃ is-other ∙ sym (only o l is-first)) q)))
            (λ _ _ _ _ _ _ _. refl)
