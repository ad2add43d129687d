-- What open does.
--     open_done, open_refused    where the tables have their lengths, and where not
-- Assumes nothing.
use mathlib.Core.Path.{◌≡◌, refl}
use mathlib.Core.List.{List}
use mathlib.Core.Bool.{true, false}
use Prim.Native.Nat.{ℕ, ◌*◌}
use native.Mathlib.Omega.{arith}
use lib.ListN.{length, replicate}
use Rattle.tables.specs.Reply.{refused, given}
use Rattle.tables.specs.Caller.{callers}
use Rattle.tables.specs.Tables.{Tables, lent, shaped}
use Rattle.tables.specs.Calls.{leaves, check, open_book}
use Rattle.tables.proofs.ShapeLaws.{sized_facts}

module _ (n m : ℕ) (t : Tables) where
  pub open_done : {links rules entries tally disputes : List ℕ} → shaped n m t ≡ true
      → links ≡ replicate (length t.links) 0 → rules ≡ replicate (length t.rules) 0 → entries ≡ replicate (length t.entries) 0 → tally ≡ replicate (length t.tally) 0
      → disputes ≡ replicate (length t.disputes) 0 → leaves (given tt) (lent links rules entries tally disputes) ≡ open_book n m t
  unfolding open_book check
  open_done is l r e y d =
      let s = sized_facts 1 1 n m (length t.links) (length t.rules) (length t.entries) (length t.tally) (length t.disputes) is in
      let places : 1 * (n * m) ≡ n * m = omega arith in
      let numbers : length t.tally ≡ callers = omega (arith, s.tally_length) in
      let marks : length t.disputes ≡ m = omega (arith, s.disputes_length) in
      rw (is, check, l, r, e, y, d, s.links_length, s.rules_length, s.entries_length, places, numbers, marks) refl

  pub open_refused : shaped n m t ≡ false → leaves (refused 1) t ≡ open_book n m t
  unfolding open_book check
  open_refused is = rw (is, check) refl
