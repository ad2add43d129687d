-- `loading::load_words` meets its contract, by `filled_words`. Assumes nothing.
use Rattle.loading.proofs.Spacing.{filled_words}
use Rattle.loading.proofs.load_words.Goals as goal

pub returns : goal.returns
returns c =
    filled_words c.args.n c.args.c _ c.args.links.now _ c.args.rows.now _ c.requires.1 c.requires.2
    c.min-low.ensures c.word.ensures c.word-2.ensures c.set_row.ensures c.requires.4
