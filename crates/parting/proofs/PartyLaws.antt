-- The parties of a dispute.
--     dispute_two       on sound tables two kinds are left at a kind whose entry is a dispute
--     pair_lowest       where two are left, the pair that code finds is the two lowest
-- Assumes nothing.
use mathlib.Core.Path.{◌≡◌, refl, sym, ◌∙◌, ap}
use mathlib.Core.Bool.{Bool, true}
use mathlib.Core.List.{List}
use Prim.Native.Nat.{ℕ, ◌+◌, ◌*◌, ◌-◌, ◌<◌, ◌≤◌}
use native.Mathlib.Omega.{arith}
use lib.ListN.{length, get_or}
use Rattle.inheritance.specs.Lookup.{left, Left, Two, passing}
use Rattle.inheritance.proofs.DecideLaws.{passing_same}
use Rattle.inheritance.proofs.LeftLaws.{left_agree}
use Rattle.inheritance.proofs.LookupLaws.{left_two, lookup_dispute_iff}
use Rattle.relation.specs.declared.Relation.{Relation}
use Rattle.relation.specs.Bit.{bit}
use Rattle.tables.specs.Calls.{kinds_left, lowest_two}
use Rattle.inheritance.specs.Entry.{lookup_of}
use Rattle.tables.specs.Reply.{given, replied_as, kinds_of}
use Rattle.tables.specs.Tables.{Tables, up_of, own_of, sound}
use Rattle.inheritance.proofs.EntryLaws.{lookup_dispute}
use Rattle.tables.proofs.SoundLaws.{sound_means, entries_looked, lookup_read}
use Rattle.parting.specs.Parting.{pair_of}

module _ (n m : ℕ) (t : Tables) {c j : ℕ} (c<n : c < n) (j<m : j < m) where
  abbrev up : ℕ → ℕ → Bool
  up = up_of n t.links

  abbrev own : ℕ → Bool
  own = own_of m t.rules j

  pub dispute_two : n ≤ 128 → length t.entries ≡ n * m → length t.disputes ≡ m → sound n m t ≡ true → 257 ≤ get_or t.entries (c * m + j) 0
      → Two (Left n (up_of n t.links) (own_of m t.rules j) c)
  dispute_two kinds size counts is high =
      let s = sound_means n m t size counts is in
      let e = get_or t.entries (c * m + j) 0 in
      let looked = entries_looked n m (up_of n t.links) t.rules t.entries s.entries c j c<n j<m in
      let read = sym (lookup_read n m up t.rules t.entries (omega arith) c j c<n) ∙ ap lookup_of (sym looked) ∙ lookup_dispute e high in
      (lookup_dispute_iff n up own c c<n).0 (e - 257, read)

  -- the rows have the links
  pub pair_lowest : (rows : Relation) → ((c p : ℕ) → c < n → p < n → bit rows c p ≡ up_of n t.links c p) → Two (Left n (up_of n t.links) (own_of m t.rules j) c)
      → replied_as kinds_of (pair_of (passing (left n (bit rows) (own_of m t.rules j) c) n)) ≡ given (lowest_two (kinds_left n m t c j))
  pair_lowest rows same two =
      ap (λ (os : List ℕ). replied_as kinds_of (pair_of os)) by_links
      ∙ left_two n up own (λ os. replied_as kinds_of (pair_of os) ≡ given (lowest_two os)) c c<n two (λ o o' os h h' less first. refl)
    where
      by_links : passing (left n (bit rows) own c) n ≡ passing (left n up own c) n
      by_links = passing_same _ _ n (λ o l. left_agree n (bit rows) up same own own (λ _ _. refl) c o c<n l)
