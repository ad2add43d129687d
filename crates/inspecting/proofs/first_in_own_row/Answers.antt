-- `inspecting::first_in_own_row` meets its contract: the first kind whose own row has it. Assumes nothing.
use Rattle.std.proofs.Common.{◌≡◌, rules, true, false}
use Rattle.std.proofs.lemmas.Iterator.{first_from_Range}
use Rattle.inspecting.specs.Faults.{off_own_row}
use Rattle.inspecting.proofs.InspectLaws.{own_found}
use Rattle.inspecting.proofs.first_in_own_row.Goals as goal

pub returns : goal.returns
returns c =
    let off = off_own_row c.args.rows.now in
    own_found off _ _ (first_from_Range _ _ _ _ (λ i. off i ≡ false) (λ i. off i ≡ true) c.find.ensures.ran
    (λ x q e. search rules) (λ x q e. search rules))
