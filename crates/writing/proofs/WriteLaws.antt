-- Entries that are written, place by place, and counted where they were others.
--     written_none, written_store      no mark is written; one more is
--     written_one                      one mark alone is
--     written_as                       the same under another description of the entries
-- Assumes nothing.
use mathlib.Core.Path.{◌≡◌, refl, sym, ◌∙◌, ap, subst}
use mathlib.Core.Logic.{◌≢◌, ⊎_elim}
use mathlib.Core.List.{List}
use Prim.Native.Nat.{ℕ, ◌+◌, ◌*◌, ◌<◌, ◌≤◌}
use native.Mathlib.Nat.{eq-or-lt_of_le, add-zero, zero-add, add_assoc}
use native.Mathlib.Omega.{arith}
use lib.ListN.{length, get_or, set, length-set}
use lib.Seq.{get_or-set_same, get_or-set_other}
use Rattle.tables.specs.Tables.{differ, differing}
use Rattle.tables.proofs.TableLaws.{differing_set}
use Rattle.writing.specs.Written.{Written}

pub written_none : (m lo c : ℕ) (f : ℕ → ℕ) (xs : List ℕ) → Written m lo lo c f xs xs 0
written_none m lo c f xs = record {
  size = refl;
  at = λ j a b. absurd (omega arith);
  kept = λ i out. refl;
  counted = λ start len same. sym (add-zero (differing start xs));
}

pub written_store : {m lo j c : ℕ} {f : ℕ → ℕ} {old new : List ℕ} {count : ℕ} (v : ℕ) → Written m lo j c f old new count → lo ≤ j → c * m + j < length old → v ≡ f j
    → Written m lo (j + 1) c f old (set new (c * m + j) v) (count + differ (get_or new (c * m + j) 0) v)
written_store {m} {lo} {j} {c} {f} {old} {new} {count} v w l h e = record {
  size = length-set new (c * m + j) v ∙ w.size;
  at = λ i a b. ⊎_elim
      (λ (same : i ≡ j). subst (λ (k : ℕ). get_or (set new (c * m + j) v) (c * m + k) 0 ≡ f k) (sym same) (get_or-set_same new (c * m + j) v 0 inside ∙ e))
      (λ (less : i < j). other (c * m + i) (λ q. omega arith) ∙ w.at i a less) (eq-or-lt_of_le (omega arith));
  kept = λ i out. other i (out j l (omega arith)) ∙ w.kept i (λ k a b. out k a (omega arith));
  counted = λ start len same.
      differing_set start new (c * m + j) v (len ∙ sym w.size) inside (same j l (omega arith) ∙ sym here)
      ∙ ap (λ (x : ℕ). x + differ (get_or new (c * m + j) 0) v) (w.counted start len (λ k a b. same k a (omega arith)))
      ∙ add_assoc (differing start old) count (differ (get_or new (c * m + j) 0) v);
}
  where
    inside : c * m + j < length new
    inside = rw w.size h

    other : (i : ℕ) → i ≢ c * m + j → get_or (set new (c * m + j) v) i 0 ≡ get_or new i 0
    other i ne = get_or-set_other new (c * m + j) i v 0 ne

    here : get_or new (c * m + j) 0 ≡ get_or old (c * m + j) 0
    here = w.kept (c * m + j) (λ k a b q. omega arith)

-- one mark alone
pub written_one : (m lo c : ℕ) (f : ℕ → ℕ) (old : List ℕ) (v : ℕ) → c * m + lo < length old → v ≡ f lo
    → Written m lo (lo + 1) c f old (set old (c * m + lo) v) (differ (get_or old (c * m + lo) 0) v)
written_one m lo c f old v h e =
    subst (Written m lo (lo + 1) c f old (set old (c * m + lo) v)) (zero-add (differ (get_or old (c * m + lo) 0) v)) (written_store v (written_none m lo c f old) (omega arith) h e)

pub written_as : {m lo hi c : ℕ} {f : ℕ → ℕ} {old new : List ℕ} {count : ℕ} (g : ℕ → ℕ) → ((j : ℕ) → lo ≤ j → j < hi → f j ≡ g j)
    → Written m lo hi c f old new count → Written m lo hi c g old new count
written_as g same w = record { size = w.size; at = λ j a b. w.at j a b ∙ same j a b; kept = w.kept; counted = w.counted }
