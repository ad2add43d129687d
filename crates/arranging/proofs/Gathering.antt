-- The kinds of the parents' rows of c, gathered in a set while `climb` goes through them, and then stored as row c.
--     Gathered                           the set has what the rows of the parents of c before p have
--     gathered_none, -kept, -more        no parent yet; in rows that are the same where it counts; one parent more
--     gathered_written, gathered_joined  row c is the set, which takes nothing from it; and row c has what it has
-- Assumes nothing.
use mathlib.Core.Path.{◌≡◌, refl, sym, subst, ◌∙◌}
use mathlib.Core.Logic.{inr, ⊎_elim}
use mathlib.Core.Bool.{Bool, true, ◌||◌, or-true, true≢false}
use Prim.Native.Nat.{ℕ, ◌+◌, ◌<◌}
use native.Mathlib.Decide.{ℕ_discrete}
use native.Mathlib.Omega.{arith}
use Rattle.inheritance.proofs.AboveLaws.{or_cases}
use Rattle.relation.specs.declared.KindSet.{KindSet}
use Rattle.relation.specs.declared.Relation.{Relation}
use Rattle.relation.specs.Bit.{holds, bit, none_of, row_of, Gains, RowSet}
use Rattle.arranging.specs.Arranged.{Joined}
use Rattle.relation.proofs.BitLaws.{holds_row, row_same, row_other}
use Rattle.relation.proofs.Zeros.{holds_none}

-- ---- the parents gone through

pub record Gathered (up : ℕ → ℕ → Bool) (reach : Relation) (c p : ℕ) (above : KindSet) : Type 0 where
  pub theirs : (x q : ℕ) → x < p → q < 128 → up c x ≡ true → bit reach x q ≡ true → holds above q ≡ true
  pub only : (q : ℕ) → q < 128 → holds above q ≡ true → (x : ℕ) × (x < p) × (up c x ≡ true) × (bit reach x q ≡ true)

module _ {up : ℕ → ℕ → Bool} {c : ℕ} where
  pub gathered_none : (reach : Relation) → Gathered up reach c 0 none_of
  gathered_none reach = record {
    theirs = λ x q l h u e. absurd (omega arith);
    only = λ q h e. absurd (true≢false (sym e ∙ holds_none q));
  }

  module _ {p : ℕ} {above : KindSet} where
    pub gathered_kept : (old new : Relation) → ((x q : ℕ) → x < p → q < 128 → up c x ≡ true → bit new x q ≡ bit old x q)
        → Gathered up old c p above → Gathered up new c p above
    gathered_kept old new rows g = record {
      theirs = λ x q l h u e. g.theirs x q l h u (sym (rows x q l h u) ∙ e);
      only = λ q h e. let (x, l, u, b) = g.only q h e in (x, l, u, rows x q l h u ∙ b);
    }

    pub gathered_more : {reach : Relation} {row next : KindSet} → row ≡ row_of reach p → Gains above next (holds row) → up c p ≡ true
        → Gathered up reach c p above → Gathered up reach c (p + 1) next
    gathered_more {reach} {row} {next} is gains u g = record {
      theirs = λ x q l h v e. more q h ∙ go x q l h v e (ℕ_discrete x p);
      only = λ q h e.
          ⊎_elim
          (λ had. let (x, l, v, b) = g.only q h had in (x, omega arith, v, b))
          (λ got. (p, omega arith, u, got))
          (or_cases (holds above q) (bit reach p q) (sym (more q h) ∙ e));
    }
      where
        more : (q : ℕ) → q < 128 → holds next q ≡ (holds above q || bit reach p q)
        more q h = gains.each q h ∙ rw (is, holds_row reach p q) refl

        go : (x q : ℕ) → x < p + 1 → q < 128 → up c x ≡ true → bit reach x q ≡ true → Dec (x ≡ p) → (holds above q || bit reach p q) ≡ true
        go x q l h v e (yes same) = rw (subst (λ (y : ℕ). bit reach y q ≡ true) same e) (or-true (holds above q))
        go x q l h v e (no ne) = rw (g.theirs x q (omega arith) h v e) refl

    pub gathered_written : {old new : Relation} → RowSet c above old new → Gathered up old c p above → Gathered up new c p above
    gathered_written {old} {new} w g = record {
      theirs = λ x q l h u e. before x q l h u e (ℕ_discrete x c);
      only = λ q h e. let (x, l, u, b) = g.only q h e in (x, l, u, after x q e b (ℕ_discrete x c));
    }
      where
        before : (x q : ℕ) → x < p → q < 128 → up c x ≡ true → bit new x q ≡ true → Dec (x ≡ c) → holds above q ≡ true
        before x q l h u e (yes same) = sym (row_same w q) ∙ subst (λ (y : ℕ). bit new y q ≡ true) same e
        before x q l h u e (no ne) = g.theirs x q l h u (sym (row_other w x q ne) ∙ e)

        after : (x q : ℕ) → holds above q ≡ true → bit old x q ≡ true → Dec (x ≡ c) → bit new x q ≡ true
        after x q e b (yes same) = subst (λ (y : ℕ). bit new y q ≡ true) (sym same) (row_same w q ∙ e)
        after x q e b (no ne) = row_other w x q ne ∙ b

    pub gathered_joined : {reach : Relation} → ((q : ℕ) → bit reach c q ≡ holds above q) → Gathered up reach c p above
        → Joined up reach c p (λ q. ⊥)
    gathered_joined own g = record {
      ours = λ q h o. absurd o;
      theirs = λ x q l h u e. own q ∙ g.theirs x q l h u e;
      only = λ q h e. inr (g.only q h (sym (own q) ∙ e));
    }
