-- The rows of rule kinds while they are made, place by place and mark by mark.
--     standing                                    kinds of the book stand in its rules
--     ruled_none, ruled_more                      the rule kinds of no place; of one place more
--     ruled_octet                                 of eight places more
--     octets_none, octets_store                   .. for no mark, and for one mark more
--     put_none, put_more                          .. put into the rows of no mark, and of one mark more
--     marks_none, marks_more, marks_skip          the marks of one place: none yet; one more with an own rule; one without
-- Assumes nothing.
use mathlib.Core.Path.{◌≡◌, refl, sym, ◌∙◌, ap, subst}
use mathlib.Core.Logic.{by_cases}
use mathlib.Core.Bool.{Bool, true, false, ◌&&◌, ◌||◌, or_assoc, or-false, and-false}
use mathlib.Core.List.{List}
use Prim.Native.Nat.{ℕ, ◌+◌, ◌-◌, ◌*◌, ◌<◌, ◌≤◌, zero-le}
use native.Mathlib.Decide.{ℕ_discrete, dec_lt}
use native.Mathlib.Omega.{arith}
use borrow.Author.Tests.{lt-ltb, le-ltb, ltb-true, lt-leb, le-leb}
use lib.Dec.{eqb, leb, ltb}
use lib.ListN.{get_or, length, set, length-set}
use lib.Seq.{get_or-set_same, get_or-set_other}
use Rattle.relation.specs.declared.Relation.{Relation}
use Rattle.relation.specs.Bit.{bit, on, Blank, Octet, Added}
use Rattle.inheritance.proofs.Bools.{same_bool}
use Rattle.relation.proofs.Bools.{one_more}
use Rattle.tables.specs.Tables.{own_of}
use Rattle.tables.proofs.TableLaws.{row_in}
use Rattle.ruling.specs.Ruling.{Ruled, Standing, Octets}

same_below : (a b c d : ℕ) → (a < b → c < d) → (c < d → a < b) → ltb a b ≡ ltb c d
same_below a b c d to from = same_bool _ _ (λ t. lt-ltb c d (to (ltb-true a b t))) (λ t. lt-ltb a b (from (ltb-true c d t)))

-- eight places at once
module _ (q : ℕ) (bits : List ℕ) where
  -- what the bits of the marks below k put into the rows
  abbrev pub eights : ℕ → ℕ → ℕ → Bool
  eights k j p = ltb j k && (leb (8 * q) p && on (get_or bits j 0) (p - 8 * q))

  pub put_none : (rows : Relation) → Added rows rows (eights 0)
  put_none rows = record { bits = λ j p h. rw (le-ltb j 0 zero-le, or-false) refl }

  pub put_more : (k : ℕ) {old mid new : Relation} → Added old mid (eights k)
      → Added mid new (λ j p. eqb j k && (leb (8 * q) p && on (get_or bits k 0) (p - 8 * q))) → Added old new (eights (k + 1))
  put_more k {old} a b = record {
    bits = λ j p h. b.bits j p h ∙ rw (a.bits j p h) (or_assoc (bit old j p) _ _
        ∙ ap (λ (t : Bool). bit old j p || t) (one_more (λ j. leb (8 * q) p && on (get_or bits j 0) (p - 8 * q)) j k));
  }

module _ (m : ℕ) (rules order : List ℕ) where
  pub standing : {n : ℕ} → n ≤ 128 → length rules ≡ n * m → ((i : ℕ) → i < n → get_or order i 0 < n) → Standing m rules order n
  standing {n} most size kinds i h = let k = kinds i h in (omega arith, row_in n m (get_or order i 0) size k)

  pub ruled_none : {ruled : Relation} → Blank ruled → Ruled 0 m rules order ruled
  ruled_none b = record { bits = λ j i h. rw (le-ltb i 0 zero-le) (b.none j i) }

  pub ruled_more : (i : ℕ) {old new : Relation} → Ruled i m rules order old
      → Added old new (λ j q. eqb q i && (ltb j m && own_of m rules j (get_or order i 0))) → Ruled (i + 1) m rules order new
  ruled_more i r a = record {
    bits = λ j q h. a.bits j q h ∙ rw (r.bits j q h) (one_more (λ q. ltb j m && own_of m rules j (get_or order q 0)) q i);
  }

  module _ (q : ℕ) (bits : List ℕ) where
    pub ruled_octet : {old new : Relation} → Octets m m rules order (8 * q) bits → Ruled (8 * q) m rules order old → Added old new (eights q bits m) → Ruled (8 * (q + 1)) m rules order new
    ruled_octet o r a = record { bits = λ j p h. a.bits j p h ∙ rw (r.bits j p h) (go j p (ltb j m) refl) }
      where
        is : ℕ → ℕ → Bool
        is j p = own_of m rules j (get_or order p 0)

        here : (j p : ℕ) → j < m → 8 * q ≤ p → on (get_or bits j 0) (p - 8 * q) ≡ (ltb (p - 8 * q) 8 && is j p)
        here j p h l = let place : 8 * q + (p - 8 * q) ≡ p = omega arith in (o.each j h).at (p - 8 * q) ∙ ap (λ (x : ℕ). ltb (p - 8 * q) 8 && is j x) place

        inside : (j p : ℕ) → j < m → ((ltb p (8 * q) && is j p) || (leb (8 * q) p && on (get_or bits j 0) (p - 8 * q))) ≡ (ltb p (8 * (q + 1)) && is j p)
        inside j p h = by_cases (dec_lt p (8 * q))
            (λ less. rw (lt-ltb p (8 * q) less, lt-leb (8 * q) p less, lt-ltb p (8 * (q + 1)) (omega arith)) (or-false (is j p)))
            (λ more. rw (le-ltb p (8 * q) (omega arith), le-leb (8 * q) p (omega arith))
            (here j p h (omega arith) ∙ ap (λ (t : Bool). t && is j p) (same_below (p - 8 * q) 8 p (8 * (q + 1)) (λ l. omega arith) (λ l. omega arith))))

        go : (j p : ℕ) (t : Bool) → ltb j m ≡ t
            → ((ltb p (8 * q) && (t && is j p)) || (t && (leb (8 * q) p && on (get_or bits j 0) (p - 8 * q)))) ≡ (ltb p (8 * (q + 1)) && (t && is j p))
        go j p true e = inside j p (ltb-true j m e)
        go j p false e = rw (and-false, and-false) refl

  pub octets_none : (i : ℕ) (bits : List ℕ) → length bits ≡ 64 → Octets 0 m rules order i bits
  octets_none i bits l = record { long = l; each = λ j (h : j < 0). absurd (omega arith) }

  pub octets_store : (i k v : ℕ) (bits : List ℕ) → k < 64 → Octet (λ p. own_of m rules k (get_or order (i + p) 0)) 8 v → Octets k m rules order i bits
      → Octets (k + 1) m rules order i (set bits k v)
  octets_store i k v bits h o s = record { long = length-set bits k v ∙ s.long; each = each }
    where
      each : (j : ℕ) → j < k + 1 → Octet (λ p. own_of m rules j (get_or order (i + p) 0)) 8 (get_or (set bits k v) j 0)
      each j l = by_cases (ℕ_discrete j k)
          (λ (same : j ≡ k). subst (λ (x : ℕ). Octet (λ p. own_of m rules x (get_or order (i + p) 0)) 8 (get_or (set bits k v) x 0)) (sym same)
          (rw (get_or-set_same bits k v 0 (omega (arith, s.long))) o))
          (λ ne. rw (get_or-set_other bits k j v 0 ne) (s.each j (omega arith)))

-- the marks below k that pass `own`, at place i
module _ (own : ℕ → Bool) (i : ℕ) where
  abbrev pub marks : ℕ → ℕ → ℕ → Bool
  marks k j q = eqb q i && (ltb j k && own j)

  pub marks_none : (rows : Relation) → Added rows rows (marks 0)
  marks_none rows = record { bits = λ j q h. rw (le-ltb j 0 zero-le, and-false, or-false) refl }

  pub marks_more : (k : ℕ) {old mid new : Relation} → own k ≡ true → Added old mid (marks k) → Added mid new (λ j q. eqb j k && eqb q i) → Added old new (marks (k + 1))
  marks_more k {old} is a b =
      record { bits = λ j q h. b.bits j q h ∙ rw (a.bits j q h) (or_assoc (bit old j q) _ _ ∙ ap (λ (t : Bool). bit old j q || t) (go j q (eqb q i))) }
    where
      go : (j q : ℕ) (t : Bool) → ((t && (ltb j k && own j)) || (eqb j k && t)) ≡ (t && (ltb j (k + 1) && own j))
      go j q true = rw (← is) (one_more own j k)
      go j q false = and-false (eqb j k)

  pub marks_skip : (k : ℕ) {old mid : Relation} → own k ≡ false → Added old mid (marks k) → Added old mid (marks (k + 1))
  marks_skip k {old} off a = record { bits = λ j q h. a.bits j q h ∙ ap (λ (t : Bool). bit old j q || (eqb q i && t)) (go j) }
    where
      go : (j : ℕ) → (ltb j k && own j) ≡ (ltb j (k + 1) && own j)
      go j = sym (or-false (ltb j k && own j)) ∙ ap (λ (t : Bool). (ltb j k && own j) || t) (sym (and-false (eqb j k)) ∙ ap (λ (t : Bool). eqb j k && t) (sym off)) ∙ one_more own j k
