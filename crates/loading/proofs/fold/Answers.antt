-- `loading::fold` meets its contract, by `folded`. Assumes nothing.
use Rattle.loading.proofs.Spacing.{folded}
use Rattle.loading.proofs.fold.Goals as goal

pub returns : goal.returns
returns c = folded _ _ _ c.eight-a.ensures
