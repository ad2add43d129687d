-- From what is known after a change to what `settle` asks.
--     untouched_awaiting    the walk visits what the change can touch, so the kinds that it leaves out have their lookups
--     untouched_stops       only whether the kinds of the book are stops plays a part
-- Assumes nothing.
use mathlib.Core.Path.{◌≡◌, refl, sym}
use mathlib.Core.Bool.{Bool}
use mathlib.Core.List.{List}
use Prim.Native.Nat.{ℕ, ◌<◌, ◌≤◌}
use Rattle.inheritance.proofs.TouchLaws.{below_carries}
use Rattle.propagation.specs.Spread.{under, stop, Touched}
use Rattle.relation.specs.declared.KindSet.{KindSet}
use Rattle.relation.specs.declared.Relation.{Relation}
use Rattle.relation.specs.Bit.{bit}
use Rattle.relation.specs.Turned.{Turned}
use Rattle.relation.proofs.Turning.{turned_within}
use Rattle.settling.specs.Settled.{Awaiting}
use Rattle.resettling.specs.Edits.{Untouched}

module _ (n m lo hi : ℕ) (e : ℕ) (rules entries : List ℕ) where
  pub untouched_stops : (up : ℕ → ℕ → Bool) (own own' : ℕ → Bool) → ((c : ℕ) → c < n → own c ≡ own' c)
      → Untouched n m lo hi up own e rules entries → Untouched n m lo hi up own' e rules entries
  unfolding Untouched
  untouched_stops up own own' same known visited reached =
      known visited (λ k hk below. reached k hk (below_carries n up up own own' e (λ c p hc hp ne. refl) (λ c hc ne. same c hc) hk below))

  pub untouched_awaiting : (rows children : Relation) (stops visited : KindSet) → n ≤ 128 → Turned n rows children
      → Touched n (under children) (stop stops) e visited → Untouched n m lo hi (bit rows) (stop stops) e rules entries
      → Awaiting n m lo hi (bit rows) rules visited entries
  unfolding Untouched
  untouched_awaiting rows children stops visited kinds turned touched known =
      known visited
      (λ k hk below. touched.complete k hk
      (below_carries n (bit rows) (under children) (stop stops) (stop stops) e (λ c p hc hp ne. turned_round c p hc hp) (λ c hc ne. refl) hk below))
    where
      turned_round : (c p : ℕ) → c < n → p < n → bit rows c p ≡ under children c p
      turned_round c p hc hp = sym (turned_within turned p c kinds hp hc)
