-- Settling a whole book.
--     settle_ready     what `examine_links` and `settle_all` ask, of tables that have their lengths: the entries may be others of the same length
--     all_visited      where every kind is visited, `settle` asks nothing of the entries
-- Assumes nothing.
use mathlib.Core.Path.{◌≡◌, ◌∙◌}
use mathlib.Core.Bool.{Bool, true}
use mathlib.Core.List.{List}
use Prim.Native.Nat.{ℕ, ◌*◌, ◌≤◌}
use native.Mathlib.Omega.{arith}
use lib.ListN.{length}
use Rattle.relation.proofs.Full.{all_of, holds_all}
use Rattle.tables.specs.Tables.{Tables, shaped, Sized}
use Rattle.tables.proofs.ShapeLaws.{sized_facts, shape_sized}
use Rattle.settling.specs.Settled.{Awaiting}

pub settle_ready : (n m : ℕ) (t : Tables) → shaped n m t ≡ true → (entries : List ℕ) {marks : ℕ} → length entries ≡ length t.entries → marks ≡ length t.disputes
    → Sized n m t.rules entries × (length t.links ≡ n * n) × (1 ≤ m) × (marks ≡ m)
settle_ready n m t is entries same same-marks =
    let s = sized_facts 1 1 n m _ _ _ _ _ is in
    let z = shape_sized n m t s in (
      record { kinds = z.kinds; marks = z.marks; rules_size = z.rules_size; entries_size = same ∙ z.entries_size },
      s.links_length,
      s.marks.0,
      omega (arith, same-marks, s.disputes_length),
    )

pub all_visited : (m : ℕ) {n lo hi : ℕ} (up : ℕ → ℕ → Bool) (rules entries : List ℕ) → n ≤ 128 → Awaiting n m lo hi up rules all_of entries
all_visited m up rules entries kinds c j hc a b fresh = absurd (fresh (holds_all c (omega arith)))
