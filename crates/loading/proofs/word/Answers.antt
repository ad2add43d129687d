-- `loading::word` meets its contract. The loop's invariant: the bits of the first 8 * q bytes are there. Assumes nothing.
use Rattle.std.proofs.Common.{arith, ◌*◌}
use Rattle.loading.proofs.Spacing.{flags_part, word_none, word_more}
use Rattle.loading.proofs.word.Goals as goal

pub loop-q-init : goal.loop-q-init
loop-q-init c = word_none _ _

pub fold-requires : goal.fold-requires
fold-requires c =
    (omega arith, flags_part c.args.links.now c.args.i (8 * c.args.k) (8 * c.loop-q.q) 8 c.requires.2 (omega arith))

pub loop-q-preserved : goal.loop-q-preserved
loop-q-preserved c = word_more _ _ _ _ _ (omega arith) c.loop-q.invariant c.fold.ensures
