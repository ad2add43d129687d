-- What the find of line controllers gives on sound tables that are spelled in bytes.
--     lane_sound       the lookup, a rule with its handling number, packed
--     lane_halves      .. as a number: the upper half is the entry of the lookup, the lower half the handling number of its rule
--     spelled_shape    where the bytes have their lengths, so have the numbers that they spell
-- Assumes nothing.
use mathlib.Core.Path.{◌≡◌, ap, ◌∙◌}
use mathlib.Core.Bool.{true}
use Prim.Native.Nat.{ℕ, ◌+◌, ◌*◌, ◌<◌}
use native.Mathlib.Omega.{arith}
use lib.ListN.{length, get_or}
use Rattle.inheritance.specs.declared.Lookup.{Lookup}
use Rattle.inheritance.specs.declared.Lookup.TheVariants.{None, Rule, Dispute}
use Rattle.inheritance.specs.Lookup.{lookup}
use Rattle.tables.specs.Caller.{callers}
use Rattle.inheritance.specs.Entry.{entry_of}
use Rattle.tables.specs.Reply.{given}
use Rattle.tables.specs.Tables.{Tables, shaped, sound, up_of, own_of}
use Rattle.tables.specs.Controller.{words16, spelled, shaped_bytes, packed, find_packed}
use Rattle.tables.proofs.ByteLaws.{joined_length}
use Rattle.tables.proofs.CallLaws.{finding_for, find_sound}
use Rattle.tables.proofs.ShapeLaws.{sized_facts, facts_sized}

module _ (n m : ℕ) (t : Tables) where
  pub spelled_shape : shaped_bytes n m t ≡ true → shaped n m (spelled t) ≡ true
  spelled_shape e =
      let s = sized_facts 2 4 n m (length t.links) (length t.rules) (length t.entries) (length t.tally) (length t.disputes) e in
      facts_sized 1 1 n m (length t.links) _ _ _ _ (record {
        kinds = s.kinds;
        marks = s.marks;
        links_length = s.links_length;
        rules_length = joined_length 256 t.rules _ (omega arith);
        entries_length = joined_length 256 t.entries _ (omega arith);
        tally_length = joined_length 65536 (words16 t.tally) _ (joined_length 256 t.tally (2 * callers) s.tally_length);
        disputes_length = joined_length 256 t.disputes _ (omega arith);
      })

-- the handling number of a lookup, where `rule o` is that of kind o; 0 where it is no rule
abbrev pub handling_for : (rule : ℕ → ℕ) → Lookup → ℕ
handling_for rule None = 0
handling_for rule (Rule o) = rule o.0
handling_for rule (Dispute x) = 0

packed_halves : (rule : ℕ → ℕ) (v : Lookup) → packed (given (finding_for rule v)) ≡ 65536 * entry_of v + handling_for rule v
packed_halves rule None = omega arith
packed_halves rule (Rule o) = omega arith
packed_halves rule (Dispute x) = omega arith

module _ (n m : ℕ) (bytes : Tables) (k j : ℕ) (fits : shaped_bytes n m bytes ≡ true) (k<n : k < n) (j<m : j < m) (is_sound : sound n m (spelled bytes) ≡ true) where
  -- the lookup, and the own rule of a kind for the mark
  abbrev looked : Lookup
  looked = lookup n (up_of n bytes.links) (own_of m (words16 bytes.rules) j) k

  abbrev rule : ℕ → ℕ
  rule o = get_or (words16 bytes.rules) (o * m + j) 0

  pub lane_sound : find_packed n m bytes k j ≡ packed (given (finding_for rule looked))
  unfolding find_packed
  lane_sound = rw (fits, find_packed) (ap packed (find_sound n m (spelled bytes) k j (spelled_shape n m bytes fits) k<n j<m is_sound))

  pub lane_halves : find_packed n m bytes k j ≡ 65536 * entry_of looked + handling_for rule looked
  lane_halves = lane_sound ∙ packed_halves rule looked
