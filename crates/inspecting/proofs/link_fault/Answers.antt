-- `inspecting::link_fault` meets its contract: the first byte above 1, and else the first kind above itself. Assumes nothing.
use Rattle.std.proofs.Common.{rules, tests, ◌≡◌, true, false, refl, leb, Some, None}
use Rattle.std.proofs.lemmas.Iterator.{YieldsList-from_slice, IsFirst-from_position}
use Rattle.inspecting.proofs.InspectLaws.{byte_found, own_mapped}
use Rattle.inspecting.proofs.link_fault.Goals as goal

pub returns-in-Some : goal.returns-in-Some
returns-in-Some c =
    let links = c.args.links.now in
    let found = byte_found links (Some c.in-Some.place) (IsFirst-from_position c.position.new.self _ (Some c.in-Some.place) (λ x. leb x 1 ≡ false) (λ x. leb x 1 ≡ true) c.in-Some.ensures.ran
    (YieldsList-from_slice links cc) (λ x q e. search (rules, tests)) (λ x q e. search (rules, tests))) in
    rw (found.1, found.2) refl

pub returns : goal.returns
returns c =
    let links = c.args.links.now in
    let right = byte_found links None (IsFirst-from_position c.position.new.self _ None (λ x. leb x 1 ≡ false) (λ x. leb x 1 ≡ true) c.in_default.ensures.ran
    (YieldsList-from_slice links cc) (λ x q e. search (rules, tests)) (λ x q e. search (rules, tests))) in
    own_mapped c.args.n links c.args.closed.now c.first_in_own_row.result _ right c.first_in_own_row.ensures c.map.ensures.cases (λ x r l e. search rules)
