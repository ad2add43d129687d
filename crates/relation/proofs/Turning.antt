-- The rows while `turn` goes through them, and through the kinds of each.
--     below                        what the kinds of a row below some place put into the rows
--     kinds_none, kinds_more       no kind of the row is gone through; the first of those left, too
--     kinds_passed                 those up to the first that is left
--     turn_none, turn_more         the rows: none is turned; one more
--     turned_within                what `Turned` says of the kinds below n, as a caller uses it
-- Assumes nothing.
use mathlib.Core.Path.{◌≡◌, refl, sym, ap, ◌∙◌}
use mathlib.Core.Logic.{by_cases}
use mathlib.Core.Bool.{Bool, true, false, ◌&&◌, ◌||◌, or-false, and-false, and-true}
use Prim.Native.Nat.{ℕ, ◌+◌, ◌<◌, ◌≤◌, zero-le}
use native.Mathlib.Decide.{dec_lt}
use native.Mathlib.Omega.{arith}
use borrow.Author.Tests.{lt-ltb, le-ltb}
use lib.Dec.{eqb, ltb}
use Rattle.relation.specs.declared.Relation.{Relation}
use Rattle.relation.specs.Bit.{bit, Blank, Added}
use Rattle.relation.specs.First.{First}
use Rattle.relation.specs.Turned.{Turned}
use Rattle.relation.proofs.Bools.{one_more}

added_none : (rows : Relation) (more : ℕ → ℕ → Bool) → ((d q : ℕ) → more d q ≡ false) → Added rows rows more
added_none rows more none = record { bits = λ d q h. sym (rw (none d q) (or-false (bit rows d q))) }

or_or : (r s t : Bool) → ((r || s) || t) ≡ (r || (s || t))
or_or true s t = refl
or_or false s t = refl

added_more : {old mid new : Relation} {f g : ℕ → ℕ → Bool} (more : ℕ → ℕ → Bool) → Added old mid f → Added mid new g
    → ((d q : ℕ) → (f d q || g d q) ≡ more d q) → Added old new more
added_more {old} {f = f} {g = g} more a b sum = record {
  bits = λ d q h.
      b.bits d q h ∙ ap (λ (t : Bool). t || g d q) (a.bits d q h) ∙ or_or (bit old d q) (f d q) (g d q)
      ∙ ap (λ (t : Bool). bit old d q || t) (sum d q);
}

-- ---- the kinds of a row

-- kind d is put into row p: it is c, and p is one of the kinds f of its row, below i
abbrev pub below : ℕ → (ℕ → Bool) → ℕ → ℕ → ℕ → Bool
below c f i p d = eqb d c && (ltb p i && f p)

either : (e s t u : Bool) → (s || t) ≡ u → ((e && s) || (t && e)) ≡ (e && u)
either true s t u h = rw and-true h
either false s t u h = and-false t

module _ (c : ℕ) (f : ℕ → Bool) where
  pub kinds_none : {old : Relation} → Added old old (below c f 0)
  kinds_none {old} = added_none old (below c f 0) (λ p d. rw (le-ltb p 0 zero-le) (and-false (eqb d c)))

  module _ {i end q : ℕ} (t : First f i end q) where
    -- none is in between
    passed : (p : ℕ) → (ltb p i && f p) ≡ (ltb p q && f p)
    passed p = by_cases (dec_lt p i)
        (λ before. rw (lt-ltb p i before, lt-ltb p q (omega (arith, t.low))) refl)
        (λ after. by_cases (dec_lt p q)
        (λ less. rw (t.none p (omega arith) less) (and-false (ltb p i) ∙ sym (and-false (ltb p q))))
        (λ more. rw (le-ltb p i (omega arith), le-ltb p q (omega arith)) refl))

    pub kinds_passed : {old new : Relation} → Added old new (below c f i) → Added old new (below c f q)
    kinds_passed {old} a = record { bits = λ p d h. a.bits p d h ∙ ap (λ (s : Bool). bit old p d || (eqb d c && s)) (passed p) }

    pub kinds_more : {old mid new : Relation} → q < end → Added old mid (below c f i) → Added mid new (λ p d. eqb p q && eqb d c) → Added old new (below c f (q + 1))
    kinds_more h a b = added_more (below c f (q + 1)) (kinds_passed a) b (λ p d. either (eqb d c) _ _ _ (rw (t.found h, and-true) at (one_more f p q)))

-- ---- the rows

module _ (rows : Relation) where
  pub turn_none : {old : Relation} → Blank old → Turned 0 rows old
  turn_none b = record { bits = λ p c hp hc. b.none p c ∙ sym (rw (le-ltb c 0 zero-le) refl) }

  pub turn_more : (k : ℕ) {mid new : Relation} → Turned k rows mid
      → Added mid new (λ p d. eqb d k && (ltb p 128 && bit rows k p)) → Turned (k + 1) rows new
  turn_more k a b = record {
    bits = λ p c hp hc.
        b.bits p c hc ∙ rw (a.bits p c hp hc, lt-ltb p 128 hp) (one_more (λ x. bit rows x p) c k);
  }

pub turned_within : {n : ℕ} {rows turned : Relation} → Turned n rows turned → (p c : ℕ) → n ≤ 128 → p < n → c < n → bit turned p c ≡ bit rows c p
turned_within {n} s p c most hp hc = s.bits p c (omega arith) (omega arith) ∙ rw (lt-ltb c n hc) refl
