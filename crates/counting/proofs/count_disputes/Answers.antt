-- `counting::count_disputes` meets its contract. The loop's invariant: the entries of the kinds below c are counted. Assumes nothing.
use mathlib.Core.Path.{◌∙◌, ap}
use Prim.Native.Nat.{ℕ}
use lib.ListN.{replicate}
use Rattle.counting.proofs.CountLaws.{none_counted}
use Rattle.counting.proofs.count_disputes.Goals as goal

pub loop-c-init : goal.loop-c-init
loop-c-init c = c.fill.ensures.after (λ y is. is) ∙ ap (λ (k : ℕ). replicate k 0) c.requires.2 ∙ none_counted _ _
