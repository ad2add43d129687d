-- What an edit knows once the tables are found sound.
--     fits_sized, fits_tally    what `examine` asks of tables that have their lengths, and the length of the tally
--     known           what is known, from what `examine` answers
--     has, acyclic, looked, counts    what sound tables have; no kind is above itself, the entries are the lookups by the rows, and the dispute counts
--                     are those of the entries
--     known_place, known_place_found    the place of a kind of the book, which a search along its row finds
--     given_accepted  entries, dispute counts and count of an accepted edit, as the whole that it leaves
-- Assumes nothing.
use mathlib.Core.Path.{◌≡◌, refl, sym, ◌∙◌, ap}
use mathlib.Core.Bool.{Bool, true}
use mathlib.Core.List.{List}
use Prim.Native.Nat.{ℕ, ◌*◌, ◌<◌}
use native.Mathlib.Omega.{arith}
use lib.ListN.{length, get_or}
use Rattle.std.specs.Prelude.{Option, Some}
use Rattle.std.specs.Option.{IsSome}
use Rattle.inheritance.specs.Above.{Acyclic}
use Rattle.counting.specs.Counting.{Counted}
use Rattle.counting.proofs.CountLaws.{counted, counts_of}
use Rattle.relation.specs.declared.Relation.{Relation}
use Rattle.relation.specs.Bit.{bit, holds, row_of}
use Rattle.relation.specs.First.{First, Found}
use Rattle.loading.specs.Loaded.{Loaded}
use Rattle.ruling.specs.declared.Prepared.{Prepared}
use Rattle.soundness.specs.Examined.{Examined}
use Rattle.settling.proofs.Editing.{Accepted}
use Rattle.deciding.proofs.Preparing.{kind_place, place_found}
use Rattle.soundness.proofs.Soundness.{rows_links, links_rows}
use Rattle.tables.specs.Caller.{callers}
use Rattle.tables.specs.Calls.{leaves, accepted}
use Rattle.tables.specs.Reply.{given}
use Rattle.tables.specs.Tables.{Tables, lent, shaped, LengthsOf, Sized, up_of, entries_of, tallied}
use Rattle.tables.proofs.EditLaws.{Passed, passed}
use Rattle.tables.proofs.ShapeLaws.{sized_facts, shape_sized}
use Rattle.tables.proofs.SoundLaws.{acyclic_agree, entries_of_agree, length_entries_of}
use Rattle.resettling.specs.Known.{Known}

module _ (n m : ℕ) (t : Tables) where
  pub fits_sized : shaped n m t ≡ true → Sized n m t.rules t.entries × (length t.links ≡ n * n) × (length t.disputes ≡ m)
  fits_sized fits = let s = sized_facts 1 1 n m _ _ _ _ _ fits in (shape_sized n m t s, s.links_length, omega (arith, s.disputes_length))

  pub fits_tally : shaped n m t ≡ true → length t.tally ≡ callers
  fits_tally fits = let s = sized_facts 1 1 n m _ _ _ _ _ fits in omega (arith, s.tally_length)

  pub known : (p : Prepared) {r : Bool} → shaped n m t ≡ true → Examined n m t.links t.rules t.entries t.disputes p r → r ≡ true
      → Known n m t p
  known p fits examined found = record {
    fits = fits;
    is_sound = sym (examined.answer t.tally) ∙ found;
    tracked = record { loaded = examined.loaded found; prepared = examined.prepared found };
  }

  -- the rows have the links
  pub given_accepted : (caller : ℕ) (links rules : List ℕ) (rows : Relation) → LengthsOf n m t → Loaded n links rows → Acyclic n (bit rows)
      → {new disputes : List ℕ} {count : ℕ} → Accepted n m (bit rows) rules t.entries new count → Counted m new disputes
      → leaves (given count) (lent links rules new (tallied caller t.tally) disputes) ≡ accepted n m t caller links rules
  unfolding accepted
  given_accepted caller links rules rows lengths loaded acyclic a counts =
      let same = entries_of_agree n (bit rows) (up_of n links) (rows_links n links rows lengths.kinds.1 loaded) m (omega (arith, lengths.kinds.1)) acyclic rules in
      let counted = counts_of n m (ap length a.0 ∙ length_entries_of n m (bit rows) rules) lengths.marks.0 counts in
      rw (counted, a.0, a.1, same) refl

module _ {n m : ℕ} {t : Tables} {p : Prepared} (k : Known n m t p) where
  abbrev rows : Relation
  rows = p.order.rows

  pub has : Passed n m t
  has = passed n m t k.fits k.is_sound

  pub acyclic : Acyclic n (bit rows)
  acyclic = acyclic_agree n (up_of n t.links) (bit rows) (links_rows n t.links rows has.sizes.kinds k.tracked.loaded) has.before.acyclic

  -- the entries are the lookups by the rows
  pub looked : t.entries ≡ entries_of n m (bit rows) t.rules
  looked =
      has.before.entries
      ∙ entries_of_agree n (up_of n t.links) (bit rows) (links_rows n t.links rows has.sizes.kinds k.tracked.loaded) m (omega (arith, has.sizes.kinds)) has.before.acyclic t.rules

  -- the dispute counts are those of the entries
  pub counts : Counted m t.entries t.disputes
  counts = counted n m has.sizes.entries_size has.sizes.kinds has.before.disputes

  pub known_place : (c : ℕ) → c < n → {i : ℕ} → First (bit p.order.reach c) 0 128 i → (i < n) × (get_or p.order.kinds i 0 ≡ c)
  known_place c h first = kind_place n rows p.order.kinds p.order.reach k.tracked.prepared.arranged has.sizes.kinds c h first

  pub known_place_found : (c : ℕ) → c < n → {answer : Option ℕ} → Found (holds (row_of p.order.reach c)) 0 128 answer
      → IsSome answer × ((i : ℕ) → answer ≡ Some i → First (bit p.order.reach c) 0 128 i)
  known_place_found c h {answer} found = place_found n rows p.order.kinds p.order.reach k.tracked.prepared.arranged has.sizes.kinds c h answer found
