-- The law is `parties_dispute`, whose two kinds are the two lowest.
use Rattle.tables.proofs.PartiesLaws as laws
use Rattle.promises.proofs.parties_dispute.Goals as goal

pub returns : goal.returns
returns c = λ n m t k j fits k-in j-in is_sound x is.
    let (pair, answered, two) = laws.parties_dispute n m t k j fits k-in j-in is_sound x is in
    (pair, answered, record { one_left = two.one_holds; other_left = two.other_holds; in_order = two.in_order; no_other = two.no_other })
