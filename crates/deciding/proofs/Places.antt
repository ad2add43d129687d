-- The first of some places.
--     first_same                   tests that agree have the same first place
--     first_is                     the first place is `first_below`
-- Assumes nothing.
use mathlib.Core.Path.{◌≡◌, refl, sym, ◌∙◌, ap}
use mathlib.Core.Logic.{by_cases}
use mathlib.Core.Bool.{Bool, true, false, true≢false}
use Prim.Native.Nat.{ℕ, zero, suc, ◌<◌}
use native.Mathlib.Decide.{dec_lt}
use native.Mathlib.Omega.{arith}
use Rattle.inheritance.specs.Lookup.{some_below}
use Rattle.inheritance.proofs.LeftLaws.{some_true, true_some}
use Rattle.relation.specs.First.{First}
use Rattle.deciding.specs.Deciding.{first_below}

module _ (f : ℕ → Bool) where
  pub first_same : (g : ℕ → Bool) {from end r : ℕ} → ((i : ℕ) → i < end → f i ≡ g i) → First f from end r → First g from end r
  first_same g same s = record {
    low = s.low;
    high = s.high;
    none = λ q a b. sym (same q (omega (arith, s.high))) ∙ s.none q a b;
    found = λ h. sym (same _ h) ∙ s.found h;
  }

  first_unique : {from end r r' : ℕ} → First f from end r → First f from end r' → r ≡ r'
  first_unique {r = r} {r' = r'} s s' = by_cases (dec_lt r r')
      (λ h. absurd (true≢false (sym (s.found (omega (arith, s'.high))) ∙ s'.none r s.low h)))
      (λ h. by_cases (dec_lt r' r)
      (λ h'. absurd (true≢false (sym (s'.found (omega (arith, s.high))) ∙ s.none r' s'.low h')))
      (λ h'. omega arith))

  none_false : (k : ℕ) → some_below f k ≡ false → (i : ℕ) → i < k → f i ≡ false
  none_false k e i h = by_bool (f i) refl
    where
      by_bool : (b : Bool) → f i ≡ b → f i ≡ false
      by_bool true t = absurd (true≢false (sym (true_some f k i h t) ∙ e))
      by_bool false t = t

  pub below_first : (k : ℕ) → First f 0 k (first_below f k)
  unfolding first_below
  below_first zero = record { low = omega arith; high = omega arith; none = λ q a (b : q < 0). absurd (omega arith); found = λ (h : 0 < 0). absurd (omega arith) }
  below_first (suc k) = by_some (some_below f k) refl (f k) refl (below_first k)
    where
      by_some : (b : Bool) → some_below f k ≡ b → (t : Bool) → f k ≡ t → First f 0 k (first_below f k)
          → First f 0 (suc k) (elim b [ true ↦ first_below f k | false ↦ elim t [ true ↦ k | false ↦ suc k ] ])
      by_some true e t q s =
          let (i, l, p) = some_true f k e in
          let less : first_below f k < k = by_cases (dec_lt (first_below f k) k) (λ h. h)
          (λ h. absurd (true≢false (sym p ∙ s.none i (omega arith) (omega arith)))) in
          record { low = omega arith; high = omega arith; none = s.none; found = λ _. s.found less }
      by_some false e true q s = record { low = omega arith; high = omega arith; none = λ i a b. none_false k e i b; found = λ _. q }
      by_some false e false q s = record {
        low = omega arith;
        high = omega arith;
        none = λ i a b. by_cases (dec_lt i k) (λ h. none_false k e i h) (λ h. let at : i ≡ k = omega arith in ap f at ∙ q);
        found = λ (h : suc k < suc k). absurd (omega arith);
      }

  pub first_is : {k r : ℕ} → First f 0 k r → r ≡ first_below f k
  first_is {k} s = first_unique s (below_first k)
