-- The entries of a kind, checked in the pass that works them out.
--     plain_none, plain_more     no mark is checked yet; one more is
--     plain_means                where the answer is yes: the entries are those of the row, and none says that the parents differ
--     checked_as, checked_twice  the same under another description of what the parents give, and of a row that is given twice
--     none_taken                 no kind is taken out of a set
--     rows_same                  a row and the entries of a kind, compared as lists
--     row_kind                   a row that is worked out, compared with the entries of its kind
-- Assumes nothing.
use mathlib.Core.Path.{◌≡◌, refl, sym, ◌∙◌, ap}
use mathlib.Core.Bool.{Bool, true, true≢false, ◌&&◌, ◌||◌, not, and-eq-true_iff, or-true}
use mathlib.Core.List.{List}
use Prim.Native.Nat.{ℕ, ◌+◌, ◌*◌, ◌<◌, ◌≤◌}
use native.Mathlib.Omega.{arith}
use borrow.Author.Tests.{eqb-true, eq-eqb}
use Rattle.std.proofs.Common.{IsTrue, ◌↔◌, Option, Some, None, take, drop, length}
use Rattle.std.specs.Option.{is_some}
use Rattle.std.proofs.lemmas.List.{get_or-take, get_or-drop, length-take-le, length-drop, ext_get_or}
use Rattle.inheritance.proofs.Bools.{same_bool}
use Rattle.relation.specs.declared.KindSet.{KindSet}
use Rattle.relation.specs.Bit.{holds}
use Rattle.relation.specs.First.{First}
use Rattle.relation.specs.Taken.{Taken}
use lib.Dec.{eqb, ltb}
use lib.ListN.{get_or}
use Rattle.tables.specs.Step.{stepped, kind_right}
use Rattle.tables.specs.Tables.{all_below}
use Rattle.tables.proofs.TableLaws.{below_suc, below_true, true_below, below_same}
use Rattle.deciding.specs.Row.{Row}
use Rattle.deciding.proofs.Rows.{row_same}
use Rattle.merging.specs.Merged.{merged, ruled, agreed}
use Rattle.checking.specs.Checked.{plain, Checked}
use Rattle.merging.proofs.MergeLaws.{merge_same}

module _ (m c : ℕ) (rules entries : List ℕ) (f : ℕ → ℕ) where
  abbrev entry : ℕ → ℕ
  entry j = ruled c (get_or rules (c * m + j) 0) (f j)

  abbrev passes : ℕ → Bool
  passes j = eqb (entry j) (get_or entries (c * m + j) 0) && not (eqb (entry j) (257 + c))

  pub plain_none : true ≡ plain m c rules entries f 0
  unfolding plain all_below
  plain_none = refl

  pub plain_more : (k : ℕ) {e : ℕ} {all : Bool} → all ≡ plain m c rules entries f k → e ≡ ruled c (get_or rules (c * m + k) 0) (f k)
      → (all && (eqb e (get_or entries (c * m + k) 0) && not (eqb e (257 + c)))) ≡ plain m c rules entries f (k + 1)
  unfolding plain
  plain_more k is at = rw (below_suc, is, at) refl

  pub plain_means : (k : ℕ) → plain m c rules entries f k ≡ true
      → (agreed c 0 k (λ j. ruled c (get_or rules (c * m + j) 0) (f j)) ≡ true) × ((j : ℕ) → j < k → ruled c (get_or rules (c * m + j) 0) (f j) ≡ get_or entries (c * m + j) 0)
  unfolding plain agreed
  plain_means k is = (
    true_below (λ j. ltb j 0 || not (eqb (entry j) (257 + c))) k (λ j h. ap (λ (b : Bool). ltb j 0 || b) (both j h).1 ∙ or-true (ltb j 0)),
    λ j h. eqb-true _ _ (both j h).0,
  )
    where
      both : (j : ℕ) → j < k → (eqb (entry j) (get_or entries (c * m + j) 0) ≡ true) × (not (eqb (entry j) (257 + c)) ≡ true)
      both j h = (and-eq-true_iff (eqb (entry j) (get_or entries (c * m + j) 0)) _).0 (below_true passes k is j h)

  pub checked_as : (g : ℕ → ℕ) {out : List ℕ} {r : Bool} → ((j : ℕ) → j < m → f j ≡ g j) → Checked m c rules entries f out r → Checked m c rules entries g out r
  unfolding plain
  checked_as g same s = record {
    row = row_same _ (λ j a b. ap (ruled c (get_or rules (c * m + j) 0)) (same j b)) s.row;
    answer = s.answer ∙ below_same _ _ m (λ j h. ap
        (λ (x : ℕ). let e = ruled c (get_or rules (c * m + j) 0) x in eqb e (get_or entries (c * m + j) 0) && not (eqb e (257 + c))) (same j h));
  }

-- a row that is given twice
pub checked_twice : (m c : ℕ) (rules entries : List ℕ) (g : ℕ → ℕ) (xs : List ℕ) {out : List ℕ} {r : Bool} → Row 0 m g xs
    → Checked m c rules entries (λ j. merged c (get_or xs (0 + j) 0) (get_or xs (0 + j) 0)) out r → Checked m c rules entries g out r
checked_twice m c rules entries g xs x s = checked_as m c rules entries _ g
    (λ j h. let at : 0 + j ≡ j = omega arith in merge_same c _ _ refl ∙ ap (λ (i : ℕ). get_or xs i 0) at ∙ x.at j (omega arith) h) s

-- nothing is taken out of a set that has no kind before the end
pub none_taken : {end : ℕ} (old new : KindSet) (r : Option ℕ) {b : Bool} → is_some r ≡ not b → b ≡ true → Taken end old new r → First (holds old) 0 end end
none_taken old new None is e taken = taken
none_taken old new (Some k) is e taken = absurd (true≢false (is ∙ ap not e))

-- the entries of a kind and a row are the same lists just where they agree at each mark
module _ (m c : ℕ) (entries out : List ℕ) (room : c * m + m ≤ length entries) (long : m ≤ length out) where
  abbrev own_entries : List ℕ
  own_entries = take m (drop (c * m) entries)

  entry_at : (j : ℕ) → j < m → get_or own_entries j 0 ≡ get_or entries (c * m + j) 0
  entry_at j h = get_or-take m (drop (c * m) entries) j 0 h ∙ get_or-drop (c * m) entries j 0

  entries_long : length own_entries ≡ m
  entries_long = length-take-le m (drop (c * m) entries) (omega (arith, length-drop (c * m) entries))

  pub rows_same : {same : Bool} → IsTrue same ↔ (own_entries ≡ take m out) → same ≡ all_below (λ j. eqb (get_or entries (c * m + j) 0) (get_or out j 0)) m
  rows_same {same} is = same_bool same _
      (λ e. true_below _ m (λ j h. eq-eqb _ _ (sym (entry_at j h) ∙ ap (λ (l : List ℕ). get_or l j 0) (is.0 e) ∙ get_or-take m out j 0 h)))
      (λ e. is.1 (ext_get_or 0 own_entries (take m out) (entries_long ∙ sym (length-take-le m out long))
      (λ j h. let below : j < m = omega (arith, entries_long, h) in entry_at j below ∙ eqb-true _ _ (below_true _ m e j below) ∙ sym (get_or-take m out j 0 below))))

pub row_kind : (n m : ℕ) (up : ℕ → ℕ → Bool) (rules entries : List ℕ) (c : ℕ) {out : List ℕ} → Row 0 m (stepped n m up rules entries c) out
    → all_below (λ j. eqb (get_or entries (c * m + j) 0) (get_or out j 0)) m ≡ kind_right n m up rules entries c
unfolding kind_right
row_kind n m up rules entries c r = below_same _ _ m (λ j h. ap (eqb (get_or entries (c * m + j) 0)) (r.at j (omega arith) h))
