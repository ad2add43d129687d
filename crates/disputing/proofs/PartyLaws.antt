-- What parties answers, by where its checks end.
--     parties_refused, parties_at_place         refusals 1, 2 and 3 by the cases of `checked`, as code goes
--     unsound, no_dispute, disputed             refusals 5 and 11, and where neither is given
-- Assumes nothing.
use mathlib.Core.Path.{◌≡◌, refl, sym, ◌∙◌, ap}
use mathlib.Core.Bool.{true, false}
use Prim.Native.Nat.{ℕ, ◌+◌, ◌*◌, ◌<◌, ◌≤◌}
use borrow.Author.Tests.{le-leb, lt-leb}
use lib.ListN.{get_or}
use Rattle.std.specs.Prelude.{Result}
use Rattle.inheritance.specs.declared.Kind.{Kind}
use Rattle.inheritance.specs.declared.Mark.{Mark}
use Rattle.tables.specs.declared.Refusal.{Refusal}
use Rattle.books.specs.Ask.{checked}
use Rattle.tables.specs.Calls.{Outcome, check, kinds_left, lowest_two, parties}
use Rattle.tables.specs.Reply.{Reply, refused, given, TwoKinds, refusal_number}
use Rattle.tables.specs.Tables.{Tables, sound}
use Rattle.books.proofs.AskLaws.{place_passes, place_refuses, place_is}
use Rattle.disputing.specs.Parties.{parties_at}

module _ (n m : ℕ) (t : Tables) (c i : ℕ) where
  pub parties_refused : {why : Refusal} → checked n m t c i ≡ Result.Err why → refused (refusal_number why) ≡ (parties n m t c i).reply
  unfolding parties
  parties_refused e = sym (ap (λ (o : Outcome TwoKinds). o.reply) (place_refuses n m t c i _ e))

  pub parties_at_place : {reply : Reply TwoKinds} {k : Kind} {j : Mark} → checked n m t c i ≡ Result.Ok (k, j)
      → reply ≡ (parties_at n m t k.0 j.0).reply → reply ≡ (parties n m t c i).reply
  unfolding parties parties_at
  parties_at_place {reply} e is =
      let (k-is, j-is) = place_is n m t c i e in
      rw (k-is, j-is) at is ∙ sym (ap (λ (o : Outcome TwoKinds). o.reply) (place_passes n m t c i _ e))

  pub unsound : sound n m t ≡ false → refused 5 ≡ (parties_at n m t c i).reply
  unfolding parties_at check
  unsound is = rw is refl

  module _ (is : sound n m t ≡ true) where
    pub no_dispute : get_or t.entries (c * m + i) 0 < 257 → refused 11 ≡ (parties_at n m t c i).reply
    unfolding parties_at check
    no_dispute low = rw (is, lt-leb 257 _ low) refl

    pub disputed : 257 ≤ get_or t.entries (c * m + i) 0 → given (lowest_two (kinds_left n m t c i)) ≡ (parties_at n m t c i).reply
    unfolding parties_at check
    disputed high = rw (is, le-leb 257 _ high) refl
