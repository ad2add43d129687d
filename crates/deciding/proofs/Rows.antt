-- A row of 64 entries while a loop goes through the marks from lo, and the laws of `Row` and `Changed`.
--     Progress                       the entry x of each mark i from lo to below j has become g i x, and from j on nothing has changed
--     progress_none, progress_store    no mark is passed; one more is passed by a store
--     progress_row                   the marks up to hi are passed
--     changed_none, changed_store  `Changed` while a loop goes through the marks from lo: none is changed; one more is, by a store
--     changed_kept                 .. one more is as it should be, without a store
--     progress_kept, progress_changed  a group of eight marks is passed: nothing changes there; it is changed as a whole
--     row_wider                    the marks that are passed have lo to below hi among them
--     row_same                     a row under another description of its marks
-- Assumes nothing.
use mathlib.Core.Path.{◌≡◌, refl, sym, ◌∙◌, ap, subst}
use mathlib.Core.Logic.{◌≢◌, ⊎_elim, by_cases}
use mathlib.Core.List.{List}
use Prim.Native.Nat.{ℕ, ◌+◌, ◌*◌, ◌<◌, ◌≤◌}
use native.Mathlib.Nat.{eq-or-lt_of_le}
use native.Mathlib.Decide.{dec_lt}
use native.Mathlib.Omega.{arith}
use lib.ListN.{length, get_or, set, length-set}
use lib.Seq.{get_or-set_same, get_or-set_other}
use Rattle.deciding.specs.Row.{Row, Changed}

pub record Progress (lo j : ℕ) (g : ℕ → ℕ → ℕ) (old new : List ℕ) : Type 0 where
  pub long : length new ≡ 64
  pub done : (i : ℕ) → lo ≤ i → i < j → get_or new i 0 ≡ g i (get_or old i 0)
  pub left : (i : ℕ) → j ≤ i → get_or new i 0 ≡ get_or old i 0

pub progress_none : (lo : ℕ) (g : ℕ → ℕ → ℕ) (out : List ℕ) → length out ≡ 64 → Progress lo lo g out out
progress_none lo g out l = record { long = l; done = λ i h h'. absurd (omega arith); left = λ i h. refl }

pub progress_store : {lo j : ℕ} {g : ℕ → ℕ → ℕ} {old new : List ℕ} (v : ℕ) → Progress lo j g old new → j < 64 → v ≡ g j (get_or new j 0) → Progress lo (j + 1) g old (set new j v)
progress_store {lo} {j} {g} {old} {new} v s h e = record {
  long = length-set new j v ∙ s.long;
  done = λ i a b. ⊎_elim
      (λ (same : i ≡ j). subst (λ (k : ℕ). get_or (set new j v) k 0 ≡ g k (get_or old k 0)) (sym same) here)
      (λ (less : i < j). other i (omega arith) ∙ s.done i a less) (eq-or-lt_of_le (omega arith));
  left = λ i a. other i (omega arith) ∙ s.left i (omega arith);
}
  where
    here : get_or (set new j v) j 0 ≡ g j (get_or old j 0)
    here = get_or-set_same new j v 0 (omega (arith, s.long)) ∙ e ∙ ap (g j) (s.left j (omega arith))

    other : (i : ℕ) → i ≢ j → get_or (set new j v) i 0 ≡ get_or new i 0
    other i ne = get_or-set_other new j i v 0 ne

pub progress_row : {lo hi : ℕ} {g : ℕ → ℕ → ℕ} {old new : List ℕ} → Progress lo hi g old new → Row lo hi (λ j. g j (get_or old j 0)) new
progress_row s = record { long = s.long; at = s.done }

pub changed_none : (lo : ℕ) (g : ℕ → ℕ → ℕ) (out : List ℕ) → length out ≡ 64 → Changed lo lo g out out
changed_none lo g out l = record { long = l; at = λ i h h'. absurd (omega arith); before = λ i h. refl; after = λ i h. refl }

pub changed_store : {lo j : ℕ} {g : ℕ → ℕ → ℕ} {old new : List ℕ} (v : ℕ) → Changed lo j g old new → lo ≤ j → j < 64 → v ≡ g j (get_or new j 0)
    → Changed lo (j + 1) g old (set new j v)
changed_store {lo} {j} {g} {old} {new} v s low h e =
    let t : Progress lo (j + 1) g old (set new j v) = progress_store {old = old} {new = new} v (record { long = s.long; done = s.at; left = s.after }) h e in
    record {
      long = t.long;
      at = t.done;
      before = λ i a. get_or-set_other new j i v 0 (omega arith) ∙ s.before i a;
      after = t.left;
    }

pub changed_kept : {lo j : ℕ} {g : ℕ → ℕ → ℕ} {old new : List ℕ} → Changed lo j g old new → get_or new j 0 ≡ g j (get_or new j 0) → Changed lo (j + 1) g old new
changed_kept {lo} {j} {g} {old} {new} s e = record {
  long = s.long;
  at = λ i a b. ⊎_elim
      (λ (same : i ≡ j). subst (λ (k : ℕ). get_or new k 0 ≡ g k (get_or old k 0)) (sym same) (e ∙ ap (g j) (s.after j (omega arith))))
      (λ (less : i < j). s.at i a less) (eq-or-lt_of_le (omega arith));
  before = s.before;
  after = λ i a. s.after i (omega arith);
}

-- group q is the eight marks from 8 * q on
module _ (q : ℕ) {lo : ℕ} {g : ℕ → ℕ → ℕ} {old : List ℕ} where
  pub progress_kept : {new : List ℕ} → Progress lo (8 * q) g old new → ((i : ℕ) → 8 * q ≤ i → i < 8 * q + 8 → get_or new i 0 ≡ g i (get_or new i 0)) → Progress lo (8 * (q + 1)) g old new
  progress_kept s same = record {
    long = s.long;
    done = λ i a b. by_cases (dec_lt i (8 * q)) (λ less. s.done i a less) (λ more. same i (omega arith) (omega arith) ∙ ap (g i) (s.left i (omega arith)));
    left = λ i a. s.left i (omega arith);
  }

  pub progress_changed : {mid new : List ℕ} → Progress lo (8 * q) g old mid → Changed (8 * q) (8 * q + 8) g mid new → Progress lo (8 * (q + 1)) g old new
  progress_changed s t = record {
    long = t.long;
    done = λ i a b. by_cases (dec_lt i (8 * q)) (λ less. t.before i less ∙ s.done i a less) (λ more. t.at i (omega arith) (omega arith) ∙ ap (g i) (s.left i (omega arith)));
    left = λ i a. t.after i (omega arith) ∙ s.left i (omega arith);
  }

pub row_wider : {from to lo hi : ℕ} {g : ℕ → ℕ → ℕ} {old new : List ℕ} → from ≤ lo → hi ≤ to → Progress from to g old new → Row lo hi (λ j. g j (get_or old j 0)) new
row_wider low high s = record { long = s.long; at = λ i a b. s.done i (omega arith) (omega arith) }

pub row_same : {lo hi : ℕ} {f : ℕ → ℕ} {out : List ℕ} (g : ℕ → ℕ) → ((j : ℕ) → lo ≤ j → j < hi → f j ≡ g j) → Row lo hi f out → Row lo hi g out
row_same g same r = record { long = r.long; at = λ j a b. r.at j a b ∙ same j a b }
