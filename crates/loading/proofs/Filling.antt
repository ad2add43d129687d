-- The rows while `load` goes through the bytes, row by row.
--     filled_none       nothing, in blank rows
--     filled_mark, filled_keep     one place more, which is a link or is none
--     filled_end        a row's end
--     loaded            after the last row
--     row_within        the bytes of a row are there
-- Assumes nothing.
use mathlib.Core.Path.{◌≡◌, refl, sym, ap₂, ◌∙◌}
use mathlib.Core.Bool.{Bool, true, false, ◌&&◌, ◌||◌, or-false, and-false, and-true, and-eq-true_iff}
use mathlib.Core.List.{List}
use Prim.Native.Nat.{ℕ, ◌+◌, ◌*◌, ◌<◌, ◌≤◌, zero-le}
use native.Mathlib.Nat.{suc-mul, mul-le-mul_right}
use native.Mathlib.Omega.{arith}
use borrow.Author.Tests.{eq-eqb, ne_eqb, lt-ltb, le-ltb, ltb-true}
use lib.Dec.{eqb, ltb}
use lib.ListN.{get_or}
use Rattle.relation.specs.declared.Relation.{Relation}
use Rattle.relation.specs.Bit.{Blank, Added}
use Rattle.loading.specs.Loaded.{link, Loaded, Filled, rows_before, before}
use Rattle.relation.proofs.Bools.{both_eqb, ltb_more}

-- ---- tests

and_again : (s t : Bool) → (s && (s && t)) ≡ (s && t)
and_again true t = refl
and_again false t = refl

spread : (a e s t : Bool) → (a || (e && (s || t))) ≡ ((a || (e && s)) || (e && t))
spread true e s t = refl
spread false true s t = refl
spread false false s t = refl

-- one place t more, which is in l, or is not
place_in : (b t l : Bool) → (t ≡ true → l ≡ true) → ((b && l) || t) ≡ ((b || t) && l)
place_in true true true h = refl
place_in true true false h = sym (h refl)
place_in true false l h = or-false l
place_in false true true h = refl
place_in false true false h = sym (h refl)
place_in false false l h = refl

place_out : (b t l : Bool) → (t ≡ true → l ≡ false) → (b && l) ≡ ((b || t) && l)
place_out true t l h = refl
place_out false true l h = sym (h refl)
place_out false false l h = refl

before_more : (c p d q : ℕ) → before c (p + 1) d q ≡ (before c p d q || (eqb d c && eqb q p))
before_more c p d q = rw ltb_more (spread (ltb d c) (eqb d c) (ltb q p) (eqb q p))

-- ---- links

link_is : (n : ℕ) (links : List ℕ) (c p : ℕ) → c < n → p < n → get_or links (c * n + p) 0 ≡ 1 → link n links c p ≡ true
unfolding link
link_is n links c p hc hp is = rw (lt-ltb c n hc, lt-ltb p n hp) (eq-eqb _ 1 is)

link_not : (n : ℕ) (links : List ℕ) (c p : ℕ) → (get_or links (c * n + p) 0 ≡ 1 → ⊥) → link n links c p ≡ false
unfolding link
link_not n links c p off = rw (ne_eqb _ 1 off) (simp and-false)

link_within : (n : ℕ) (links : List ℕ) (c p : ℕ) → link n links c p ≡ true → p < n
unfolding link
link_within n links c p e = ltb-true p n ((and-eq-true_iff (ltb p n) _).0 ((and-eq-true_iff (ltb c n) _).0 e).1).0

same_link : (n : ℕ) (links : List ℕ) (c p d q : ℕ) → (eqb d c && eqb q p) ≡ true → link n links d q ≡ link n links c p
same_link n links c p d q e = let h = both_eqb d c q p e in ap₂ (link n links) h.0 h.1

-- ---- blank rows

pub filled_none : (n : ℕ) (links : List ℕ) {rows : Relation} → Blank rows → Filled (rows_before 0) n links rows
filled_none n links b = record { bits = λ d q h. rw (le-ltb d 0 zero-le) (b.none d q) }

-- ---- a row

pub filled_mark : (c p n : ℕ) (links : List ℕ) (rows next : Relation) → c < n → p < n → Filled (before c p) n links rows
    → get_or links (c * n + p) 0 ≡ 1 → Added rows next (λ d q. eqb d c && eqb q p) → Filled (before c (p + 1)) n links next
filled_mark c p n links rows next hc hp f is a =
    record {
      bits = λ d q h.
          rw (a.bits d q h, f.bits d q h, before_more)
          (place_in (before c p d q) (eqb d c && eqb q p) (link n links d q)
          (λ e. same_link n links c p d q e ∙ link_is n links c p hc hp is));
    }

pub filled_keep : (c p n : ℕ) (links : List ℕ) (rows : Relation) → Filled (before c p) n links rows
    → (get_or links (c * n + p) 0 ≡ 1 → ⊥) → Filled (before c (p + 1)) n links rows
filled_keep c p n links rows f off =
    record {
      bits = λ d q h.
          rw (f.bits d q h, before_more)
          (place_out (before c p d q) (eqb d c && eqb q p) (link n links d q)
          (λ e. same_link n links c p d q e ∙ link_not n links c p off));
    }

pub filled_end : (c n : ℕ) (links : List ℕ) (rows : Relation) → Filled (before c n) n links rows → Filled (rows_before (c + 1)) n links rows
filled_end c n links rows f = record { bits = λ d q h. f.bits d q h ∙ go d q (link n links d q) refl }
  where
    go : (d q : ℕ) (l : Bool) → link n links d q ≡ l → (before c n d q && l) ≡ (ltb d (c + 1) && l)
    go d q true e = simp (lt-ltb q n (link_within n links d q e), ltb_more, and-true)
    go d q false e = simp and-false

pub loaded : (n : ℕ) (links : List ℕ) (rows : Relation) → Filled (rows_before n) n links rows → Loaded n links rows
unfolding link
loaded n links rows f = record { bits = λ c p h. f.bits c p h ∙ and_again (ltb c n) _ }

-- ---- bytes

-- the n bytes of row c are within the n × n
pub row_within : (n c : ℕ) {size : ℕ} → n * n ≤ size → c < n → c * n + n ≤ size
row_within n c e h = omega (arith, suc-mul c n, mul-le-mul_right n h)
