-- The stops while a loop goes through the kinds.
--     Stopping                   the kinds below k are gone through, and no other is a stop yet: the invariant of the loop
--     has_own, no_own            the number at a place of the rules
--     stopping_none              no kind is gone through
--     stopping_with, _keep       one more is, which has its own rule, or has none
-- Assumes nothing.
use mathlib.Core.Path.{◌≡◌, refl, sym, ◌∙◌, subst}
use mathlib.Core.Logic.{⊎_elim}
use mathlib.Core.Bool.{true, false, or-true, or-false}
use mathlib.Core.List.{List}
use Prim.Native.Nat.{ℕ, ◌+◌, ◌*◌, ◌<◌, ◌≤◌}
use native.Mathlib.Nat.{eq-or-lt_of_le}
use native.Mathlib.Omega.{arith}
use borrow.Author.Tests.{eq-eqb, ne_eqb}
use lib.Dec.{eqb}
use lib.ListN.{get_or}
use Rattle.relation.specs.declared.KindSet.{KindSet}
use Rattle.relation.specs.Bit.{holds, none_of, Gains}
use Rattle.relation.proofs.Zeros.{holds_none}
use Rattle.tables.specs.Tables.{own_of}
use Rattle.resettling.specs.Stops.{Stops}

pub record Stopping (k m : ℕ) (rules : List ℕ) (mark : ℕ) (stops : KindSet) : Type 0 where
  pub done : Stops k m rules mark stops
  pub rest : (c : ℕ) → k ≤ c → c < 128 → holds stops c ≡ false

module _ (m : ℕ) (rules : List ℕ) (mark : ℕ) where
  -- a kind has its own rule where the number there is not 0
  pub has_own : (k : ℕ) → (get_or rules (k * m + mark) 0 ≡ 0 → ⊥) → own_of m rules mark k ≡ true
  has_own k ne = rw (ne_eqb (get_or rules (k * m + mark) 0) 0 ne) refl

  pub no_own : (k : ℕ) → get_or rules (k * m + mark) 0 ≡ 0 → own_of m rules mark k ≡ false
  no_own k e = rw (eq-eqb (get_or rules (k * m + mark) 0) 0 e) refl

  pub stopping_none : Stopping 0 m rules mark none_of
  stopping_none = record { done = record { at = λ c h. absurd (omega arith) }; rest = λ c h l. holds_none c }

  module _ {k : ℕ} {stops : KindSet} (h : k < 128) (s : Stopping k m rules mark stops) where
    more : (new : KindSet) → ((c : ℕ) → c < k → holds new c ≡ holds stops c) → holds new k ≡ own_of m rules mark k → Stops (k + 1) m rules mark new
    more new before here = record {
      at = λ c hc. ⊎_elim
          (λ (same : c ≡ k). subst (λ (x : ℕ). holds new x ≡ own_of m rules mark x) (sym same) here)
          (λ (less : c < k). before c less ∙ s.done.at c less)
          (eq-or-lt_of_le (omega arith));
    }

    pub stopping_with : {new : KindSet} → own_of m rules mark k ≡ true → Gains stops new (λ q. eqb q k) → Stopping (k + 1) m rules mark new
    stopping_with {new} own g = record {
      done = more new (λ c less. other c (omega arith) (λ e. omega arith)) (g.each k h ∙ rw (eq-eqb k k refl, own) (or-true (holds stops k)));
      rest = λ c l hc. other c hc (λ e. omega arith) ∙ s.rest c (omega arith) hc;
    }
      where
        other : (c : ℕ) → c < 128 → (c ≡ k → ⊥) → holds new c ≡ holds stops c
        other c hc ne = g.each c hc ∙ rw (ne_eqb c k ne) (or-false (holds stops c))

    pub stopping_keep : own_of m rules mark k ≡ false → Stopping (k + 1) m rules mark stops
    stopping_keep own = record {
      done = more stops (λ c less. refl) (s.rest k (omega arith) h ∙ sym own);
      rest = λ c l hc. s.rest c (omega arith) hc;
    }
