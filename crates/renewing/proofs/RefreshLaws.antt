-- What refresh leaves and answers.
--     refresh_done                      every entry is settled
--     refresh_refused, refresh_unsound  refusals 1 and 5
-- Assumes nothing.
use mathlib.Core.Path.{◌≡◌, refl, sym, ◌∙◌}
use mathlib.Core.Bool.{Bool, true, false}
use mathlib.Core.List.{List}
use Prim.Native.Nat.{ℕ}
use Rattle.arranging.specs.declared.Order.{Order}
use Rattle.relation.specs.Bit.{bit}
use Rattle.settling.specs.Settled.{AllSettled}
use Rattle.settling.proofs.WholeLaws.{settle_ready}
use Rattle.soundness.specs.Examined.{LinksExamined}
use Rattle.soundness.proofs.Soundness.{examined_entries}
use Rattle.tables.specs.Reply.{refused, given}
use Rattle.tables.specs.Tables.{Tables, lent, shaped, links_right}
use Rattle.tables.specs.Calls.{leaves, check, refresh}

module _ (n m : ℕ) (t : Tables) where
  pub refresh_done : {order : Order} {entries disputes : List ℕ} {linked : Bool} {count : ℕ} → shaped n m t ≡ true → LinksExamined n t.links order linked → linked ≡ true
      → AllSettled n m (bit order.rows) t.rules t.entries entries disputes count → leaves (given count) (lent t.links t.rules entries t.tally disputes) ≡ refresh n m t
  unfolding refresh check
  refresh_done is x found s =
      let r = settle_ready n m t is t.entries refl refl in
      let good = sym x.answer ∙ found in
      let looked = s.looked ∙ examined_entries r.0.kinds r.1 x found m t.rules in
      rw (is, good, s.counted, s.recounted, looked) refl

  pub refresh_refused : shaped n m t ≡ false → leaves (refused 1) t ≡ refresh n m t
  unfolding refresh check
  refresh_refused is = rw is refl

  pub refresh_unsound : shaped n m t ≡ true → links_right n t.links ≡ false → leaves (refused 5) t ≡ refresh n m t
  unfolding refresh check
  refresh_unsound is bad = rw (is, bad) refl
