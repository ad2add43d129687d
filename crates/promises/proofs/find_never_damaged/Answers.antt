-- The law is `never_10`, of the call that is a find.
use Rattle.tables.proofs.NeverLaws.{never_10}
use Rattle.tables.specs.Books.{answer_to}
use Rattle.tables.specs.Books.Request.{find}
use Rattle.promises.proofs.find_never_damaged.Goals as goal

pub returns : goal.returns
unfolding answer_to
returns c = λ n m t kind mark is_sound. never_10 (record { n = n; m = m; request = find kind mark }) t (λ _. is_sound)
