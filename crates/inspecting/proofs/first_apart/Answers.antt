-- `inspecting::first_apart` meets its contract: the first pair whose numbers differ. Assumes nothing.
use Rattle.std.proofs.Common.{◌≡◌, rules, tests, ℕ, true, false, eqb}
use Rattle.std.proofs.lemmas.Iterator.{YieldsList-from_slice, YieldsList-from_zip, IsFirst-from_position}
use Rattle.inspecting.proofs.InspectLaws.{pair_found}
use Rattle.inspecting.proofs.first_apart.Goals as goal

pub returns : goal.returns
returns c =
    let a = c.args in
    pair_found _ _ c.requires _ (IsFirst-from_position c.position.new.self _ _ (λ (p : ℕ × ℕ). eqb p.0 p.1 ≡ false) (λ p. eqb p.0 p.1 ≡ true) c.position.ensures.ran
    (YieldsList-from_zip (YieldsList-from_slice a.xs.now cc) (YieldsList-from_slice a.ys.now cc)) (λ x q e. search (rules, tests)) (λ x q e. search (rules, tests)))
