-- Laws of truth values and of the tests on numbers.
--     same_test                         two tests are equal where each equation follows from the other
--     both_eqb, eqb_both                two tests of equality at once
--     ltb_more                          what is below b + 1
--     one_more                          what passes below b, and what passes at b
-- Assumes nothing.
use mathlib.Core.Path.{◌≡◌, refl}
use mathlib.Core.Bool.{Bool, true, false, ◌&&◌, ◌||◌, and-eq-true_iff, or-false}
use Prim.Native.Nat.{ℕ, ◌+◌}
use native.Mathlib.Nat.{le_refl}
use native.Mathlib.Omega.{arith}
use borrow.Author.Tests.{eq-eqb, eqb-true, eqb-false, lt-ltb, le-ltb, ltb-true}
use lib.Dec.{eqb, ltb}
use Rattle.inheritance.proofs.Bools.{same_bool}

pub same_test : (a b c d : ℕ) → (a ≡ b → c ≡ d) → (c ≡ d → a ≡ b) → eqb a b ≡ eqb c d
same_test a b c d there back =
    same_bool (eqb a b) (eqb c d) (λ e. eq-eqb c d (there (eqb-true a b e))) (λ e. eq-eqb a b (back (eqb-true c d e)))

pub both_eqb : (a b c d : ℕ) → (eqb a b && eqb c d) ≡ true → (a ≡ b) × (c ≡ d)
both_eqb a b c d e = let t = (and-eq-true_iff (eqb a b) (eqb c d)).0 e in (eqb-true a b t.0, eqb-true c d t.1)

pub eqb_both : (a b c d : ℕ) → a ≡ b → c ≡ d → (eqb a b && eqb c d) ≡ true
eqb_both a b c d p q = rw (eq-eqb a b p) (eq-eqb c d q)

pub ltb_more : (a b : ℕ) → ltb a (b + 1) ≡ (ltb a b || eqb a b)
ltb_more a b = go (eqb a b) refl
  where
    go : (t : Bool) → eqb a b ≡ t → ltb a (b + 1) ≡ (ltb a b || t)
    go true e = let h = eqb-true a b e in rw (lt-ltb a (b + 1) (omega arith), le-ltb a b (omega arith)) refl
    go false e =
        let h = eqb-false a b e in
        rw or-false
        (same_bool (ltb a (b + 1)) (ltb a b)
        (λ t. let l = ltb-true a (b + 1) t in lt-ltb a b (omega arith))
        (λ t. let l = ltb-true a b t in lt-ltb a (b + 1) (omega arith)))

pub one_more : (is : ℕ → Bool) (a b : ℕ) → ((ltb a b && is a) || (eqb a b && is b)) ≡ (ltb a (b + 1) && is a)
one_more is a b = rw ltb_more (go (eqb a b) refl)
  where
    go : (t : Bool) → eqb a b ≡ t → ((ltb a b && is a) || (t && is b)) ≡ ((ltb a b || t) && is a)
    go true e = let same = eqb-true a b e in rw (same, le-ltb b b (le_refl b)) refl
    go false e = simp or-false
