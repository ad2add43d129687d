-- The laws of the tables' definitions.
--     below_suc, below_true, true_below, below_same     `all_below`: one more, all of them, and tests that agree
--     length_grid, grid_at, grid_ext                    a grid has its values at its places, and a list that has them is the grid
--     row_in                                            the m places of kind p are within a table of n kinds
--     place_split                                       a place tells its kind and its mark
--     differ_same, differ_le                            whether two numbers differ
--     differing_self, differing_set                     how many places differ: none from the list itself, and after a store where none did
--     differing_count                                   it is the number of places i at which the two are not the same
--     saturated_next, saturated_full                    one more, up to 4,294,967,295
--     tally_next, tally_full                            a tally counts one more, up to 4,294,967,295, where it stays; length_tallied: as long as before
-- Assumes nothing.
use mathlib.Core.Path.{◌≡◌, refl, sym, ap, ap₂, ◌∙◌, subst}
use mathlib.Core.Bool.{Bool, true, false, ◌&&◌, not, and-eq-true_iff}
use mathlib.Core.Logic.{⊎_elim}
use mathlib.Core.List.{List, [], ◌∷◌, ◌++◌}
use Prim.Native.Nat.{ℕ, zero, suc, ◌+◌, ◌*◌, ◌/◌, ◌%◌, ◌<◌, ◌≤◌}
use native.Mathlib.Nat.{eq-or-lt_of_le, le_of_suc-le-suc, not-suc-le-zero, suc-mul, zero-mul, mul-zero, mul-le-mul_right, mod-lt, div-lt_iff_lt-mul, div-add-mod'}
use native.Mathlib.Numerals.{add-one}
use native.Mathlib.Omega.{arith}
use borrow.Author.Tests.{eq-eqb, lt-ltb, le-ltb}
use lib.Arith.{digits_lt, digits_div, digits_mod}
use lib.Dec.{eqb}
use lib.ListN.{length, get_or, set, length-append, length-set, get_or-append}
use lib.Seq.{ext_get_or, get_or-append-add, get_or_at, set-get_or}
use Rattle.inheritance.specs.Above.{one_if, count}
use Rattle.tables.specs.Edit.{apart}
use Rattle.tables.specs.Tables.{all_below, listed, grid, differ, differing, saturated, tallied}

-- ---- every number below k

pub below_suc : (f : ℕ → Bool) (k : ℕ) → all_below f (k + 1) ≡ (all_below f k && f k)
unfolding all_below
below_suc f k = rw add-one

pub below_true : (f : ℕ → Bool) (k : ℕ) → all_below f k ≡ true → (i : ℕ) → i < k → f i ≡ true
unfolding all_below
below_true f zero e i h = absurd (not-suc-le-zero h)
below_true f (suc k) e i h =
    let both = (and-eq-true_iff (all_below f k) (f k)).0 e in
    ⊎_elim (λ (same : i ≡ k). ap f same ∙ both.1) (below_true f k both.0 i) (eq-or-lt_of_le (le_of_suc-le-suc h))

pub true_below : (f : ℕ → Bool) (k : ℕ) → ((i : ℕ) → i < k → f i ≡ true) → all_below f k ≡ true
unfolding all_below
true_below f zero h = refl
true_below f (suc k) h = rw (true_below f k (λ i l. h i (omega arith))) (h k (omega arith))

pub below_same : (f g : ℕ → Bool) (k : ℕ) → ((i : ℕ) → i < k → f i ≡ g i) → all_below f k ≡ all_below g k
unfolding all_below
below_same f g zero h = refl
below_same f g (suc k) h = ap₂ ◌&&◌ (below_same f g k (λ i l. h i (omega arith))) (h k (omega arith))

-- ---- the grid of a table

pub length_listed : (f : ℕ → ℕ) (k : ℕ) → length (listed f k) ≡ k
unfolding listed
length_listed f zero = refl
length_listed f (suc k) = length-append (listed f k) (f k ∷ []) ∙ ap (λ (x : ℕ). x + 1) (length_listed f k) ∙ add-one k

pub length_grid : (f : ℕ → ℕ → ℕ) (m k : ℕ) → length (grid f m k) ≡ k * m
unfolding grid
length_grid f m zero = sym (zero-mul m)
length_grid f m (suc k) = length-append (grid f m k) (listed (f k) m) ∙ ap₂ ◌+◌ (length_grid f m k) (length_listed (f k) m) ∙ sym (suc-mul k m)

-- the last of one list more, and what stands before it
at_front : (xs ys : List ℕ) (i : ℕ) (h : i < length xs) → get_or (xs ++ ys) i 0 ≡ get_or xs i 0
at_front xs ys i h = get_or-append xs ys 0 i h

at_back : (xs ys : List ℕ) (k i : ℕ) → length xs ≡ k → get_or (xs ++ ys) (k + i) 0 ≡ get_or ys i 0
at_back xs ys k i e = ap (λ (x : ℕ). get_or (xs ++ ys) (x + i) 0) (sym e) ∙ get_or-append-add xs ys i 0

pub listed_at : (f : ℕ → ℕ) (k j : ℕ) → j < k → get_or (listed f k) j 0 ≡ f j
unfolding listed
listed_at f zero j h = absurd (not-suc-le-zero h)
listed_at f (suc k) j h = ⊎_elim
    (λ (same : j ≡ k). subst (λ (x : ℕ). get_or (listed f k ++ (f k ∷ [])) x 0 ≡ f x) (sym same) (get_or_at (listed f k) (f k) [] 0 k (length_listed f k)))
    (λ (less : j < k). at_front (listed f k) (f k ∷ []) j (rw length_listed less) ∙ listed_at f k j less) (eq-or-lt_of_le (le_of_suc-le-suc h))

pub grid_at : (f : ℕ → ℕ → ℕ) (m k c j : ℕ) → c < k → j < m → get_or (grid f m k) (c * m + j) 0 ≡ f c j
unfolding grid
grid_at f m zero c j hc hj = absurd (not-suc-le-zero hc)
grid_at f m (suc k) c j hc hj = ⊎_elim
    (λ (same : c ≡ k). subst (λ (x : ℕ). get_or (grid f m k ++ listed (f k) m) (x * m + j) 0 ≡ f x j) (sym same)
    (at_back (grid f m k) (listed (f k) m) (k * m) j (length_grid f m k) ∙ listed_at (f k) m j hj))
    (λ (less : c < k). at_front (grid f m k) (listed (f k) m) (c * m + j) (rw length_grid (digits_lt less hj)) ∙ grid_at f m k c j less hj)
    (eq-or-lt_of_le (le_of_suc-le-suc hc))

pub grid_ext : (f : ℕ → ℕ → ℕ) (m k : ℕ) (xs : List ℕ) → length xs ≡ k * m → ((c j : ℕ) → c < k → j < m → get_or xs (c * m + j) 0 ≡ f c j) → xs ≡ grid f m k
grid_ext f zero k xs len at = ext_get_or 0 xs (grid f zero k) (len ∙ sym (length_grid f zero k)) (λ i h. absurd (omega (arith, mul-zero k)))
grid_ext f (suc m) k xs len at = ext_get_or 0 xs (grid f (suc m) k) (len ∙ sym (length_grid f (suc m) k)) (λ i h. place i (rw len at h))
  where
    place : (i : ℕ) → i < k * suc m → get_or xs i 0 ≡ get_or (grid f (suc m) k) i 0
    place i h =
        let low : i % suc m < suc m = mod-lt i (omega arith) in
        let high : i / suc m < k = (div-lt_iff_lt-mul {k = suc m} {x = i} {y = k} (omega arith)).1 h in
        subst (λ (x : ℕ). get_or xs x 0 ≡ get_or (grid f (suc m) k) x 0) (div-add-mod' i (suc m))
        (at (i / suc m) (i % suc m) high low ∙ sym (grid_at f (suc m) k (i / suc m) (i % suc m) high low))

-- ---- how many places differ

differ_by : (x y : ℕ) {b : Bool} → eqb x y ≡ b → differ x y ≡ (elim b [ true ↦ 0 | false ↦ 1 ])
differ_by x y e = ap (λ (b : Bool). let d : ℕ = elim b [ true ↦ 0 | false ↦ 1 ] in d) e

pub differ_same : (x y : ℕ) → x ≡ y → differ x y ≡ 0
differ_same x y e = differ_by x y (eq-eqb x y e)

pub differ_le : (x y : ℕ) → differ x y ≤ 1
differ_le x y = go (eqb x y)
  where
    go : (b : Bool) → ◌≤◌ (elim b [ true ↦ 0 | false ↦ 1 ]) 1
    go true = omega arith
    go false = omega arith

pub differing_self : (xs : List ℕ) → differing xs xs ≡ 0
unfolding differing
differing_self [] = refl
differing_self (x ∷ xs) = omega (arith, differ_same x x refl, differing_self xs)

pub differing_set : (xs ys : List ℕ) (i v : ℕ) → length xs ≡ length ys → i < length ys → get_or xs i 0 ≡ get_or ys i 0
    → differing xs (set ys i v) ≡ differing xs ys + differ (get_or ys i 0) v
unfolding differing
differing_set xs [] i v len h e = absurd (not-suc-le-zero h)
differing_set [] (y ∷ ys) i v len h e = absurd (omega arith)
differing_set (x ∷ xs) (y ∷ ys) zero v len h e = omega (arith, differ_same x y e, ap (λ (z : ℕ). differ z v) e)
differing_set (x ∷ xs) (y ∷ ys) (suc i) v len h e = omega (arith, differing_set xs ys i v (omega arith) (omega arith) e)

-- the place by place count from the front: one more place at the front of both lists
count_front : (f : ℕ → Bool) (k : ℕ) → count f (suc k) ≡ one_if (f 0) + count (λ i. f (suc i)) k
unfolding count
count_front f zero = omega arith
count_front f (suc k) = omega (arith, count_front f k)

differ_one : (x y : ℕ) → differ x y ≡ one_if (not (eqb x y))
differ_one x y = go (eqb x y)
  where
    go : (b : Bool) → ◌≡◌ {A = ℕ} (elim b [ true ↦ 0 | false ↦ 1 ]) (one_if (not b))
    go true = refl
    go false = refl

pub differing_count : (xs ys : List ℕ) → length xs ≡ length ys → differing xs ys ≡ count (apart xs ys) (length xs)
unfolding differing count
differing_count [] ys len = refl
differing_count (x ∷ xs) [] len = absurd (omega arith)
differing_count (x ∷ xs) (y ∷ ys) len =
    omega (arith, count_front (apart (x ∷ xs) (y ∷ ys)) (length xs), differ_one x y, differing_count xs ys (omega arith))

-- ---- the tally

pub saturated_next : (x : ℕ) → x < 4294967295 → saturated x ≡ x + 1
saturated_next x h = rw (lt-ltb x 4294967295 h, saturated) refl

pub saturated_full : (x : ℕ) → 4294967295 ≤ x → saturated x ≡ x
saturated_full x h = rw (le-ltb x 4294967295 h, saturated) refl

module _ (caller : ℕ) (tally : List ℕ) where
  pub tally_next : get_or tally caller 0 < 4294967295 → tallied caller tally ≡ set tally caller (get_or tally caller 0 + 1)
  unfolding tallied
  tally_next h = ap (set tally caller) (saturated_next (get_or tally caller 0) h)

  pub tally_full : 4294967295 ≤ get_or tally caller 0 → tallied caller tally ≡ tally
  unfolding tallied
  tally_full h = ap (set tally caller) (saturated_full (get_or tally caller 0) h) ∙ set-get_or tally caller 0

  pub length_tallied : length (tallied caller tally) ≡ length tally
  unfolding tallied
  length_tallied = length-set tally caller _

-- ---- places

-- the m places of kind p are within a table of n kinds
pub row_in : (n m p : ℕ) {size : ℕ} → size ≡ n * m → p < n → p * m + m ≤ size
row_in n m p e h = omega (arith, suc-mul p m, mul-le-mul_right m h)

pub place_split : {m k j k' j' : ℕ} → j < m → j' < m → k * m + j ≡ k' * m + j' → (k ≡ k') × (j ≡ j')
place_split {m} {k} {j} {k'} {j'} hj hj' e =
    (sym (digits_div k hj) ∙ ap (λ (x : ℕ). x / m) e ∙ digits_div k' hj', sym (digits_mod k hj) ∙ ap (λ (x : ℕ). x % m) e ∙ digits_mod k' hj')
