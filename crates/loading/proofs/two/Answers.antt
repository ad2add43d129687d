-- `loading::two` meets its contract, by `spaced_one` and `spaced_join`. Assumes nothing.
use Rattle.std.proofs.Common.{arith, ◌+◌, ◌≡◌}
use Rattle.loading.proofs.Spacing.{spaced_one, spaced_join}
use Rattle.loading.proofs.two.Goals as goal

pub returns : goal.returns
returns c =
    let at : c.args.i + 0 ≡ c.args.i = omega arith in
    let zero = rw at at (c.requires.1 0 (omega arith)) in
    rw (c.from.ensures, c.from-2.ensures) (spaced_join _ c.args.i 1 _ _ (omega arith) (spaced_one _ c.args.i zero) (spaced_one _ (c.args.i + 1) (c.requires.1 1 (omega arith))))
