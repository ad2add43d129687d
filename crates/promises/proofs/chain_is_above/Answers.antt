-- The laws of `above` are this.
use Rattle.inheritance.proofs.AboveLaws.{chain_above, above_chain}
use Rattle.promises.proofs.chain_is_above.Goals as goal

pub returns : goal.returns
returns c = λ n up k p. (chain_above n up, above_chain n up k p)
