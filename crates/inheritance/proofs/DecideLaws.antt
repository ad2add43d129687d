-- What the kinds left decide, whatever kinds these are.
--     Tells, tells_none, tells_rule, tells_dispute          a lookup that tells how many kinds hold P, none, one, or two and more, is the only one
--     passing_same                                          tests that agree pass the same numbers
--     passing_cases                                         the numbers that pass, as a list: none pass, one does, two do
--     decided_cases                                         what `decided` gives: none pass, one does, two do
--     disputed_dispute, disputed_keeps, disputed_cases      a dispute is at c, or what the direct parents share
-- Assumes nothing.
use mathlib.Core.Path.{◌≡◌, refl, sym, ◌∙◌, ap, ap₂}
use mathlib.Core.Logic.{◌⊎◌, inl, inr, ⊎_elim}
use mathlib.Core.Bool.{Bool, true, false, true≢false}
use mathlib.Core.List.{List, [], ◌∷◌, ◌++◌}
use Prim.Native.Nat.{ℕ, zero, suc, ◌<◌}
use native.Mathlib.Nat.{not-suc-le-zero}
use native.Mathlib.Omega.{arith}
use Rattle.inheritance.specs.declared.Kind.{Kind}
use Rattle.inheritance.specs.declared.Lookup.{Lookup}
use Rattle.inheritance.specs.declared.Lookup.TheVariants.{None, Rule, Dispute}
use Rattle.inheritance.specs.Checked.{kind}
use Rattle.inheritance.specs.Lookup.{Two, passing, disputed, decided}
use Rattle.inheritance.proofs.AboveLaws.{lt_suc_cases}

-- ---- a lookup tells which kinds hold P: none, one, or two and more

module _ (P : ℕ → Type 0) where
  -- what the lookup says holds P
  abbrev pub Shown : Lookup → Type 0
  Shown None = Unit {0}
  Shown (Rule k) = P k.0
  Shown (Dispute k) = Two P

  -- the lookup leaves it open that o holds P
  abbrev pub Allowed : Lookup → ℕ → Type 0
  Allowed None o = ⊥
  Allowed (Rule k) o = o ≡ k.0
  Allowed (Dispute k) o = Unit {0}

  pub record Tells (v : Lookup) : Type 0 where
    pub shown : Shown v
    pub allowed : (o : ℕ) → P o → Allowed v o

  pub tells_none : (v : Lookup) → Tells v → ((o : ℕ) → ¬ P o) → v ≡ None
  tells_none None t nothing = refl
  tells_none (Rule k) t nothing = absurd (nothing k.0 t.shown)
  tells_none (Dispute k) t nothing = absurd (nothing t.shown.0 t.shown.2)

  pub tells_rule : {o : ℕ} (v : Lookup) → Tells v → P o → ((o' : ℕ) → P o' → o' ≡ o) → v ≡ Rule (kind o)
  tells_rule None t h only = absurd (t.allowed _ h)
  tells_rule (Rule k) t h only = ap (λ x. Rule (kind x)) (only k.0 t.shown)
  tells_rule (Dispute k) t h only = let (o₁, o₂, h₁, h₂, d) = t.shown in absurd (d (only o₁ h₁ ∙ sym (only o₂ h₂)))

  pub tells_dispute : (v : Lookup) → Tells v → Two P → (x : ℕ) × (v ≡ Dispute (kind x))
  tells_dispute None t (o₁, o₂, h₁, h₂, d) = absurd (t.allowed o₁ h₁)
  tells_dispute (Rule k) t (o₁, o₂, h₁, h₂, d) = absurd (d (t.allowed o₁ h₁ ∙ sym (t.allowed o₂ h₂)))
  tells_dispute (Dispute k) t two = (k.0, refl)

-- ---- the numbers that pass, as a list

pub passing_same : (f g : ℕ → Bool) (k : ℕ) → ((j : ℕ) → j < k → f j ≡ g j) → passing f k ≡ passing g k
unfolding passing
passing_same f g zero agree = refl
passing_same f g (suc k) agree = ap₂ ◌++◌ (passing_same f g k (λ j l. agree j (omega arith))) (ap last (agree k (omega arith)))
  where
    last : Bool → List ℕ
    last b = elim b [ true ↦ k ∷ [] | false ↦ [] ]

-- how many numbers below n pass f, by their list
data Few (f : ℕ → Bool) (n : ℕ) : List ℕ → Type 0 where
  no_kind : ((j : ℕ) → j < n → f j ≡ true → ⊥) → Few f n []
  one_kind : {o : ℕ} → o < n → f o ≡ true → ((j : ℕ) → j < n → f j ≡ true → j ≡ o) → Few f n (o ∷ [])
  two_kinds : {o o' : ℕ} {os : List ℕ} → o < n → o' < n → f o ≡ true → f o' ≡ true → o < o' → ((j : ℕ) → j < o' → f j ≡ true → j ≡ o)
      → Few f n (o ∷ o' ∷ os)

module _ (f : ℕ → Bool) where
  earlier : {j k : ℕ} → f k ≡ false → j < suc k → f j ≡ true → j < k
  earlier e l p = ⊎_elim (λ q. absurd (true≢false (sym p ∙ ap f q ∙ e))) (λ m. m) (lt_suc_cases l)

  few_more : {k : ℕ} {os : List ℕ} → Few f k os → (b : Bool) → f k ≡ b → Few f (suc k) (os ++ (elim b [ true ↦ k ∷ [] | false ↦ [] ]))
  few_more {k} (no_kind h) true e = one_kind {o = k} (omega arith) e (λ j l p. ⊎_elim (λ q. q) (λ m. absurd (h j m p)) (lt_suc_cases l))
  few_more {k} (no_kind h) false e = no_kind (λ j l p. h j (earlier e l p) p)
  few_more {k} (one_kind {o} l p only) true e = two_kinds {o = o} {o' = k} (omega arith) (omega arith) p e l only
  few_more {k} (one_kind {o} l p only) false e = one_kind {o = o} (omega arith) p (λ j m q. only j (earlier e m q) q)
  few_more {k} (two_kinds {o} {o'} l l' p p' q lowest) b e = two_kinds {o = o} {o' = o'} (omega arith) (omega arith) p p' q lowest

  few : (n : ℕ) → Few f n (passing f n)
  unfolding passing
  few zero = no_kind (λ j l p. not-suc-le-zero l)
  few (suc k) = few_more (few k) (f k) refl

-- none passes, one does, or two do, of which no other is below the second
pub passing_cases : (P : List ℕ → Type 0) (f : ℕ → Bool) (n : ℕ)
    → (((o : ℕ) → o < n → f o ≡ true → ⊥) → P [])
    → ((o : ℕ) → o < n → f o ≡ true → ((o' : ℕ) → o' < n → f o' ≡ true → o' ≡ o) → P (o ∷ []))
    → ((o o' : ℕ) (os : List ℕ) → o < n → o' < n → f o ≡ true → f o' ≡ true → o < o' → ((j : ℕ) → j < o' → f j ≡ true → j ≡ o) → P (o ∷ o' ∷ os))
    → P (passing f n)
passing_cases P f n none one two = by_few (few f n)
  where
    by_few : {os : List ℕ} → Few f n os → P os
    by_few (no_kind h) = none h
    by_few (one_kind {o} l p only) = one o l p only
    by_few (two_kinds {o} {o'} {os} l l' p p' q lowest) = two o o' os l l' p p' q lowest

-- what the numbers that pass decide
pub decided_cases : (P : Lookup → Type 0) (f : ℕ → Bool) (n : ℕ) (v : Lookup)
    → (((o : ℕ) → o < n → f o ≡ true → ⊥) → P None)
    → ((o : ℕ) → o < n → f o ≡ true → ((o' : ℕ) → o' < n → f o' ≡ true → o' ≡ o) → P (Rule (kind o)))
    → ((o o' : ℕ) → o < n → o' < n → f o ≡ true → f o' ≡ true → o < o' → P v)
    → P (decided (passing f n) v)
decided_cases P f n v none one two = passing_cases (λ os. P (decided os v)) f n none one (λ o o' os l l' p p' q _. two o o' l l' p p' q)

-- ---- a dispute

pub disputed_dispute : (c : ℕ) (v : Lookup) → (k : Kind) × (disputed c v ≡ Dispute k)
disputed_dispute c None = (kind c, refl)
disputed_dispute c (Rule k) = (kind c, refl)
disputed_dispute c (Dispute k) = (k, refl)

pub disputed_keeps : (P : Lookup → Type 0) {c : ℕ} (v : Lookup) → P (Dispute (kind c)) → P v → P (disputed c v)
disputed_keeps P None d h = d
disputed_keeps P (Rule k) d h = d
disputed_keeps P (Dispute k) d h = h

-- it is at c, or v is the dispute
pub disputed_cases : {c x : ℕ} (v : Lookup) → disputed c v ≡ Dispute (kind x) → (x ≡ c) ⊎ (v ≡ Dispute (kind x))
disputed_cases {c} {x} v = go v refl
  where
    at_c : Dispute (kind c) ≡ Dispute (kind x) → x ≡ c
    at_c e = let q : kind c ≡ kind x = cc in sym (ap (λ k. k.0) q)

    go : (w : Lookup) → v ≡ w → disputed c w ≡ Dispute (kind x) → (x ≡ c) ⊎ (v ≡ Dispute (kind x))
    go None q e = inl (at_c e)
    go (Rule k) q e = inl (at_c e)
    go (Dispute k) q e = inr (q ∙ e)
