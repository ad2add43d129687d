-- The change of a link, step by step.
--     link_loaded, link_prepared    the rows have the links once the link is changed in table and rows, and what is then prepared
--     link_untouched                what is then known of the entries
--     link_done                     what the change leaves and answers
-- Assumes nothing.
use mathlib.Core.Path.{◌≡◌, refl, sym, ◌∙◌, ap}
use mathlib.Core.Bool.{Bool, true, false, ◌&&◌, false≢true}
use mathlib.Core.List.{List}
use Prim.Native.Nat.{ℕ, ◌+◌, ◌*◌, ◌<◌}
use native.Mathlib.Omega.{arith}
use borrow.Author.Tests.{lt-ltb, ltb-true}
use lib.Arith.{digits_lt}
use lib.Dec.{eqb, ltb}
use lib.ListN.{length, get_or, set}
use lib.Seq.{get_or-set_same, get_or-set_other}
use Rattle.inheritance.specs.Above.{Acyclic, one_if}
use Rattle.inheritance.proofs.AboveLaws.{SameBut}
use Rattle.counting.specs.Counting.{Counted}
use Rattle.relation.specs.declared.Relation.{Relation}
use Rattle.relation.specs.Bit.{bit}
use Rattle.relation.proofs.Bools.{both_eqb, eqb_both}
use Rattle.loading.specs.Loaded.{Loaded, link}
use Rattle.ruling.specs.declared.Prepared.{Prepared}
use Rattle.ruling.specs.Ready.{Ready}
use Rattle.settling.specs.Settled.{Settled}
use Rattle.settling.proofs.Editing.{all_settled, link_awaiting}
use Rattle.soundness.proofs.Soundness.{links_rows}
use Rattle.tables.specs.Calls.{leaves, accepted}
use Rattle.tables.specs.Reply.{given}
use Rattle.tables.specs.Tables.{Tables, lent, up_of, tallied}
use Rattle.tables.proofs.SoundLaws.{acyclic_agree}
use Rattle.tables.proofs.TableLaws.{place_split}
use Rattle.resettling.specs.Edits.{Untouched, changed, Reset}
use Rattle.resettling.specs.Known.{Known}
use Rattle.resettling.proofs.KnownLaws.{has, acyclic, looked, given_accepted}
use Rattle.relinking.specs.Relinked.{linked, Relinked}

-- ---- the rows with the link changed

not_both : (d c q p : ℕ) → ((d ≡ c) × (q ≡ p) → ⊥) → (eqb d c && eqb q p) ≡ false
not_both d c q p other = go (eqb d c && eqb q p) refl
  where
    go : (b : Bool) → (eqb d c && eqb q p) ≡ b → b ≡ false
    go true e = absurd (other (both_eqb d c q p e))
    go false e = refl

eqb_one : (b : Bool) → eqb (one_if b) 1 ≡ b
eqb_one true = refl
eqb_one false = refl

module _ (n : ℕ) (links : List ℕ) (c p : ℕ) (c-in : c < n) (p-in : p < n) (size : length links ≡ n * n) (adding : Bool) where
  changed_link : (d q : ℕ) → link n (set links (c * n + p) (one_if adding)) d q ≡ changed adding (eqb d c && eqb q p) (link n links d q)
  unfolding link
  changed_link d q = go (eqb d c && eqb q p) refl
    where
      there : link n (set links (c * n + p) (one_if adding)) c p ≡ adding
      there =
          rw (lt-ltb c n c-in, lt-ltb p n p-in, get_or-set_same links (c * n + p) (one_if adding) 0 (rw size (digits_lt c-in p-in)))
          (eqb_one adding)

      elsewhere : (b : Bool) → ltb q n ≡ b → (eqb d c && eqb q p) ≡ false
          → (ltb d n && (b && eqb (get_or (set links (c * n + p) (one_if adding)) (d * n + q) 0) 1)) ≡ (ltb d n && (b && eqb (get_or links (d * n + q) 0) 1))
      elsewhere false e other = refl
      elsewhere true e other =
          ap (λ (x : ℕ). ltb d n && (true && eqb x 1)) (get_or-set_other links (c * n + p) (d * n + q) (one_if adding) 0 apart)
        where
          apart : d * n + q ≡ c * n + p → ⊥
          apart same =
              let (d-same, q-same) = place_split {k = d} {k' = c} (ltb-true q n e) p-in same in
              false≢true (sym other ∙ eqb_both d c q p d-same q-same)

      go : (t : Bool) → (eqb d c && eqb q p) ≡ t
          → link n (set links (c * n + p) (one_if adding)) d q ≡ changed adding t (link n links d q)
      go true e =
          let (d-same, q-same) = both_eqb d c q p e in
          rw (d-same, q-same) there
      go false e = elsewhere (ltb q n) refl e

  reset_loaded : {old rows : Relation} → Loaded n links old → Reset c p adding old rows → Loaded n (set links (c * n + p) (one_if adding)) rows
  reset_loaded loaded r = record {
    bits = λ d q h. r.bits d q h ∙ ap (changed adding (eqb d c && eqb q p)) (loaded.bits d q h) ∙ sym (changed_link d q);
  }

-- ---- the change

module _ (n m : ℕ) (t : Tables) (c p : ℕ) (adding : Bool) {d : Prepared} (k : Known n m t d) (c-in : c < n) (p-in : p < n)
    (calm : Acyclic n (up_of n (linked n t.links c p adding)))
    {d' : Prepared} (r : Relinked n m c p adding t.rules d.order.rows d') where
  abbrev rows : Relation
  rows = d.order.rows

  abbrev rows' : Relation
  rows' = d'.order.rows

  pub link_loaded : Loaded n (linked n t.links c p adding) rows'
  link_loaded = reset_loaded n t.links c p c-in p-in (has k).lengths.links_length adding k.tracked.loaded r.reset

  acyclic_after : Acyclic n (bit rows')
  acyclic_after = acyclic_agree n (up_of n (linked n t.links c p adding)) (bit rows') (links_rows n (linked n t.links c p adding) rows' (has k).sizes.kinds link_loaded) calm

  same_but : SameBut n (bit rows') (bit rows) c p
  same_but e q he hq other =
      sym (r.reset.bits e q (omega (arith, (has k).sizes.kinds)) ∙ ap (λ (here : Bool). changed adding here (bit rows e q)) (not_both e c q p other))

  pub link_prepared : Ready n m t.rules d'
  link_prepared = r.ready acyclic_after

  pub link_untouched : Untouched n m 0 m (bit rows') (λ _. false) c t.rules t.entries
  unfolding Untouched
  link_untouched =
      link_awaiting n m (bit rows) t.rules t.entries (has k).sizes.entries_size (acyclic k) (looked k) (bit rows') c p same_but acyclic_after

  pub link_done : (caller : ℕ) {links new tally disputes : List ℕ} {count : ℕ} → links ≡ linked n t.links c p adding
      → Settled n m 0 m (bit rows') t.rules t.entries new count → Counted m new disputes → tally ≡ tallied caller t.tally
      → leaves (given count) (lent links t.rules new tally disputes) ≡ accepted n m t caller (linked n t.links c p adding) t.rules
  link_done caller {new = new} stored s recounted counted =
      rw (stored, counted)
      (given_accepted n m t caller (linked n t.links c p adding) t.rules rows' (has k).lengths link_loaded acyclic_after
      (all_settled n m (bit rows') t.rules t.entries new (has k).sizes.entries_size s) recounted)
