-- The law is `books_agree`.
use Rattle.stores.proofs.StoredBookLaws as laws
use Rattle.promises.proofs.books_agree.Goals as goal

pub returns : goal.returns
returns c = laws.books_agree
