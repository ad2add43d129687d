-- The lengths of the tables.
--     product_fits               the product of two 16-bit numbers has room for a third below 2 ^ 32
--     and_iff                    both tests of a pair
--     sized_facts, facts_sized   what `sized` tests, as facts, there and back
--     shape_sized                what of it a part of a call asks
--     zeros_lengths              the tables that an accepted open leaves have their lengths
-- Assumes nothing.
use mathlib.Core.Path.{◌≡◌, refl, ◌∙◌}
use mathlib.Core.Bool.{Bool, true, false, ◌&&◌}
use mathlib.Core.Logic.{◌↔◌}
use Prim.Native.Nat.{ℕ, ◌*◌, ◌^◌, ◌≤◌, ◌<◌}
use native.Mathlib.Nat.{mul-le-mul}
use native.Mathlib.Omega.{arith}
use lib.ListN.{length-replicate}
use borrow.Author.Tests.{leb-true, eqb-true, le-leb, eq-eqb}
use Rattle.tables.specs.Calls.{zeros}
use Rattle.tables.specs.Tables.{Tables, sized, Lengths, LengthsOf, Sized}

pub product_fits : {a b : ℕ} → a < 2 ^ 16 → b < 2 ^ 16 → a * b ≤ 65535 * 65535
product_fits ha hb = mul-le-mul {n₂ = 65535} {m₂ = 65535} (omega arith) (omega arith)

pub and_iff : (a b : Bool) → ((a && b) ≡ true) ↔ ((a ≡ true) × (b ≡ true))
and_iff true b = (λ e. (refl, e), λ e. e.1)
and_iff false b = (λ e. (e, cc), λ e. e.0)

module _ (short long n m links rules entries tally disputes : ℕ) where
  pub sized_facts : sized short long n m links rules entries tally disputes ≡ true → Lengths short long n m links rules entries tally disputes
  unfolding sized
  sized_facts s =
      let tests = simp and_iff at s in
      omega (arith, leb-true, eqb-true)

  pub facts_sized : Lengths short long n m links rules entries tally disputes → sized short long n m links rules entries tally disputes ≡ true
  unfolding sized
  facts_sized s = simp and_iff (search (le-leb, eq-eqb, s.tally_length))

pub shape_sized : (n m : ℕ) (t : Tables) → LengthsOf n m t → Sized n m t.rules t.entries
shape_sized n m t s = record { kinds = s.kinds.1; marks = s.marks.1; rules_size = omega (arith, s.rules_length); entries_size = omega (arith, s.entries_length) }

pub zeros_lengths : (n m : ℕ) (t : Tables) → LengthsOf n m t → LengthsOf n m (zeros n m)
zeros_lengths n m t s = record {
  kinds = s.kinds;
  marks = s.marks;
  links_length = length-replicate (n * n) _;
  rules_length = length-replicate (n * m) _ ∙ omega arith;
  entries_length = length-replicate (n * m) _ ∙ omega arith;
  tally_length = refl;
  disputes_length = length-replicate m _ ∙ omega arith;
}
