-- What parties answers, case by case.
--     parties_shape, parties_kind, parties_mark, parties_unsound     refusals 1, 2, 3 and 5, each where the ones before it do not hold
--     parties_dispute        on sound tables it gives the two lowest kinds left where the lookup is a dispute: the two are there, are left, the first
--                            has the lower number, and no other kind left has a number below the second (`LowestTwo`)
--     parties_no_dispute     .. and refusal 11 where it is not
-- Assumes nothing.
use mathlib.Core.Path.{◌≡◌, refl, ◌∙◌, ap}
use mathlib.Core.Bool.{Bool, true, false}
use mathlib.Core.Logic.{◌≢◌}
use Prim.Native.Nat.{ℕ, ◌+◌, ◌*◌, ◌<◌, ◌≤◌}
use native.Mathlib.Omega.{arith}
use borrow.Author.Tests.{lt-ltb, le-ltb, le-leb, lt-leb}
use lib.Dec.{ltb}
use lib.ListN.{get_or}
use Rattle.inheritance.specs.declared.Kind.{Kind}
use Rattle.inheritance.specs.declared.Lookup.{Lookup}
use Rattle.inheritance.specs.declared.Lookup.TheVariants.{None, Rule, Dispute}
use Rattle.inheritance.specs.Lookup.{lookup, Left, Two}
use Rattle.inheritance.proofs.LookupLaws.{InRange, left_two, lookup_range, lookup_dispute_iff}
use Rattle.inheritance.specs.Entry.{entry_of}
use Rattle.tables.specs.Reply.{refused, given, TwoKinds}
use Rattle.tables.specs.Tables.{Tables, shaped, up_of, own_of, entry_at, is_dispute, sound}
use Rattle.tables.specs.Calls.{check, leaves, kinds_left, lowest_two, parties}
use Rattle.tables.proofs.CallLaws.{check_stops}
use Rattle.tables.proofs.EditLaws.{passed}
use Rattle.tables.proofs.SoundLaws.{entries_looked}

-- the lowest number that holds P, then the second lowest
pub record LowestTwo (P : ℕ → Type 0) (pair : TwoKinds) : Type 0 where
  pub one_holds : P pair.one
  pub other_holds : P pair.other
  pub in_order : pair.one < pair.other
  pub no_other : (o : ℕ) → P o → o < pair.other → o ≡ pair.one

module _ (n m : ℕ) (t : Tables) (k j : ℕ) where
  two_lowest : k < n → Two (Left n (up_of n t.links) (own_of m t.rules j) k)
      → LowestTwo (Left n (up_of n t.links) (own_of m t.rules j) k) (lowest_two (kinds_left n m t k j))
  two_lowest hk two =
      left_two n (up_of n t.links) (own_of m t.rules j) (λ os. LowestTwo (Left n (up_of n t.links) (own_of m t.rules j) k) (lowest_two os)) k hk two
      (λ o o' os h h' less first. record { one_holds = h; other_holds = h'; in_order = less; no_other = first })

  -- ---- the refusals

  pub parties_shape : shaped n m t ≡ false → (parties n m t k j).reply ≡ refused 1
  unfolding parties
  parties_shape unfit = check_stops 1 t _ (shaped n m t) unfit

  module _ (fits : shaped n m t ≡ true) where
    pub parties_kind : n ≤ k → (parties n m t k j).reply ≡ refused 2
    unfolding parties check
    parties_kind past = rw fits (check_stops 2 t _ (ltb k n) (le-ltb k n past))

    module _ (kind_in : k < n) where
      pub parties_mark : m ≤ j → (parties n m t k j).reply ≡ refused 3
      unfolding parties check
      parties_mark past = rw (fits, lt-ltb k n kind_in) (check_stops 3 t _ (ltb j m) (le-ltb j m past))

      module _ (mark-in : j < m) where
        pub parties_unsound : sound n m t ≡ false → (parties n m t k j).reply ≡ refused 5
        unfolding parties check
        parties_unsound unsound = rw (fits, lt-ltb k n kind_in, lt-ltb j m mark-in) (check_stops 5 t _ (sound n m t) unsound)

        -- ---- on sound tables

        module _ (is_sound : sound n m t ≡ true) where
          abbrev looked : Lookup
          looked = lookup n (up_of n t.links) (own_of m t.rules j) k

          entry : get_or t.entries (k * m + j) 0 ≡ entry_of looked
          unfolding entry_at
          entry = entries_looked n m (up_of n t.links) t.rules t.entries (passed n m t fits is_sound).before.entries k j kind_in mark-in

          by_entry : (b : Bool) → is_dispute (entry_of looked) ≡ b
              → (parties n m t k j).reply ≡ (check 11 b t (leaves (given (lowest_two (kinds_left n m t k j))) t)).reply
          unfolding parties check
          by_entry b is =
              rw (fits, lt-ltb k n kind_in, lt-ltb j m mark-in, is_sound)
              (ap (λ (test : Bool). (check 11 test t (leaves (given (lowest_two (kinds_left n m t k j))) t)).reply) (ap is_dispute entry ∙ is))

          below_257 : (v : Lookup) → InRange n (own_of m t.rules j) v → ((x : Kind) → v ≢ Dispute x) → entry_of v < 257
          below_257 None r not-one = omega arith
          below_257 (Rule o) r not-one = let few = (passed n m t fits is_sound).sizes.kinds in omega (arith, r.0)
          below_257 (Dispute x) r not-one = absurd (not-one x refl)

          pub parties_dispute : (x : Kind) → looked ≡ Dispute x
              → (pair : TwoKinds) × ((parties n m t k j).reply ≡ given pair) × LowestTwo (Left n (up_of n t.links) (own_of m t.rules j) k) pair
          unfolding check
          parties_dispute x is = (
            lowest_two (kinds_left n m t k j),
            by_entry true (ap (λ (v : Lookup). is_dispute (entry_of v)) is ∙ le-leb 257 (257 + x.0) (omega arith)),
            two_lowest kind_in ((lookup_dispute_iff n (up_of n t.links) (own_of m t.rules j) k kind_in).0 (x.0, is)),
          )

          pub parties_no_dispute : ((x : Kind) → looked ≢ Dispute x) → (parties n m t k j).reply ≡ refused 11
          unfolding check
          parties_no_dispute not-one =
              let range = lookup_range n (up_of n t.links) (own_of m t.rules j) k kind_in in
              by_entry false (lt-leb 257 (entry_of looked) (below_257 looked range not-one))
