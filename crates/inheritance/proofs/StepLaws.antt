-- The lookup by one step, as code takes it.
--     step_same, step_keeps     two versions in which c has the same own rule, kinds left and parents' lookups; what holds of all that a step can give
-- and, where no kind is above itself:
--     lookup_step               one step from the lookups of the direct parents and the kinds left gives the lookup
-- Assumes nothing.
use mathlib.Core.Path.{◌≡◌, refl, sym, ◌∙◌, ap, ap₂}
use mathlib.Core.Logic.{⊎_elim}
use mathlib.Core.Bool.{Bool, true, false, true≢false}
use mathlib.Core.List.{List}
use Prim.Native.Nat.{ℕ, ◌<◌}
use Rattle.inheritance.specs.declared.Lookup.{Lookup}
use Rattle.inheritance.specs.declared.Lookup.TheVariants.{None, Rule, Dispute}
use Rattle.inheritance.specs.Above.{Acyclic}
use Rattle.inheritance.specs.Checked.{kind}
use Rattle.inheritance.specs.Lookup.{left, passing, same, meet, disputed, decided, inherit, lookup}
use Rattle.inheritance.specs.Step.{narrowed, step}
use Rattle.inheritance.proofs.MeetLaws.{same_true, same_refl, Shared, meet_cases, meet_keeps, given, given_same, meet_same}
use Rattle.inheritance.proofs.DecideLaws.{passing_same, decided_cases}
use Rattle.inheritance.proofs.LookupLaws.{lookup_none_iff, unfold_lookup, lookup_own, Parent, left_parent, lookup_shared}
use Rattle.inheritance.proofs.LeftLaws.{left_from}

module _ (n : ℕ) (up up' : ℕ → ℕ → Bool) (own own' : ℕ → Bool) (at at' : ℕ → Lookup) (c : ℕ) where
  pub step_same : (lefts lefts' : ℕ → Bool) → own c ≡ own' c → ((o : ℕ) → o < n → lefts o ≡ lefts' o)
      → ((p : ℕ) → p < n → given (up c p) (at p) ≡ given (up' c p) (at' p))
      → step n up own lefts at c ≡ step n up' own' lefts' at' c
  unfolding step
  step_same lefts lefts' s same-lefts parents =
      ap₂ (λ (b : Bool) (v : Lookup). let w : Lookup = elim b [ true ↦ Rule (kind c) | false ↦ v ] in w) s
      (ap₂ (narrowed c) (passing_same lefts lefts' n same-lefts) (meet_same c (up c) (up' c) at at' n parents))

-- what holds of none, of each rule, of a dispute at c and of the lookups of the direct parents holds of the lookup by one step
pub step_keeps :
    (P : Lookup → Type 0) (n : ℕ) (up : ℕ → ℕ → Bool) (own lefts : ℕ → Bool) (at : ℕ → Lookup) (c : ℕ) → c < n
    → P None → ((o : ℕ) → o < n → P (Rule (kind o))) → P (Dispute (kind c)) → ((p : ℕ) → p < n → up c p ≡ true → P (at p))
    → P (step n up own lefts at c)
unfolding step narrowed
step_keeps P n up own lefts at c l of_none of-rule of-dispute of-parents = by_own (own c)
  where
    m : Lookup
    m = meet c (up c) at n

    of_m : P m
    of_m = meet_keeps P c of_none of-dispute (up c) at n of-parents

    by_place : (b : Bool) → P (elim b [ true ↦ decided (passing lefts n) m | false ↦ m ])
    by_place true = decided_cases P lefts n m (λ _. of_none) (λ o lo _ _. of-rule o lo) (λ _ _ _ _ _ _ _. of_m)
    by_place false = of_m

    by_own : (b : Bool) → P (elim b [ true ↦ Rule (kind c) | false ↦ elim (same m (Dispute (kind c))) [ true ↦ decided (passing lefts n) m | false ↦ m ] ])
    by_own true = of-rule c l
    by_own false = by_place (same m (Dispute (kind c)))

module _ (n : ℕ) (up : ℕ → ℕ → Bool) (own : ℕ → Bool) (acyclic : Acyclic n up) where
  abbrev at : ℕ → Lookup
  at = lookup n up own

  -- where the direct parents share another lookup than a dispute at c, it is that of c; otherwise the kinds left decide
  narrowed_lookup : (c : ℕ) → c < n → own c ≡ false → narrowed c (passing (left n up own c) n) (meet c (up c) at n) ≡ lookup n up own c
  unfolding narrowed inherit
  narrowed_lookup c l f = by_place (same m (Dispute (kind c))) refl
    where
      m : Lookup
      m = meet c (up c) at n

      os : List ℕ
      os = passing (left n up own c) n

      nothing : m ≡ None → ((p : ℕ) → Parent n up own acyclic c p → at p ≡ m) → at c ≡ m
      nothing e all =
          (lookup_none_iff n up own c l).1
          (λ o h. let (p, lp, u, g) = left_from n up own acyclic f h in let held = left_parent n up own acyclic lp u g in held.2 (all p held ∙ e))
          ∙ sym e

      shares : Shared c (up c) at n m → at c ≡ m
      shares s = ⊎_elim (λ e. nothing e s.all) (λ (p, h). lookup_shared n up own acyclic c l f p h (λ q g. s.all q g ∙ sym (s.all p h)) ∙ s.all p h) s.one

      by_place : (b : Bool) → same m (Dispute (kind c)) ≡ b → ◌≡◌ {A = Lookup} (elim b [ true ↦ decided os m | false ↦ m ]) (at c)
      by_place true e = let q = same_true m _ e in ap (decided os) (q ∙ sym (ap (disputed c) q)) ∙ sym (unfold_lookup n up own acyclic c l)
      by_place false e =
          ⊎_elim (λ s. sym (shares s)) (λ d. absurd (true≢false (sym (ap (λ v. same v (Dispute (kind c))) d.at_c ∙ same_refl (Dispute (kind c))) ∙ e)))
          (meet_cases c (up c) at n)

  pub lookup_step : (lefts : ℕ → Bool) (v : ℕ → Lookup) (c : ℕ) → c < n → ((o : ℕ) → o < n → lefts o ≡ left n up own c o)
      → ((p : ℕ) → p < n → up c p ≡ true → v p ≡ lookup n up own p) → step n up own lefts v c ≡ lookup n up own c
  unfolding step
  lookup_step lefts v c l same-lefts parents = by_own (own c) refl
    where
      by_own : (b : Bool) → own c ≡ b → ◌≡◌ {A = Lookup} (elim b [ true ↦ Rule (kind c) | false ↦ narrowed c (passing lefts n) (meet c (up c) v n) ]) (at c)
      by_own true t = sym (lookup_own n up own acyclic c l t)
      by_own false f =
          ap₂ (narrowed c) (passing_same lefts (left n up own c) n same-lefts)
          (meet_same c (up c) (up c) v at n (λ p lp. given_same (up c p) (v p) (at p) refl (parents p lp)))
          ∙ narrowed_lookup c l f
