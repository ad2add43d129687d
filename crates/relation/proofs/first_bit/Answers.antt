-- `first_bit` meets its contract: the bits before `from` are taken out, by `on_tail`. Assumes nothing.
use Rattle.std.proofs.Common.{arith, ◌≡◌, sym, subst, ℕ, ◌*◌, ◌/◌, ◌%◌, ◌^◌}
use native.Mathlib.Nat.{mod-eq_of_lt}
use lib.Count.{count_trailing_zeros}
use lib.Pow.{split}
use Rattle.relation.specs.Bit.{on}
use Rattle.relation.specs.First.{First}
use Rattle.relation.proofs.Octets.{on_tail}
use Rattle.relation.proofs.Walking.{zeros_first, first_from}
use Rattle.relation.proofs.first_bit.Goals as goal

pub returns : goal.returns
returns c =
    let w = c.args.w in
    let from = c.args.from in
    let exact : (w / 2 ^ from * 2 ^ from) % 2 ^ 64 ≡ w / 2 ^ from * 2 ^ from = mod-eq_of_lt (omega (arith, split w from, c.ranges.w.fits)) in
    subst
    (λ (x : ℕ). First (on w) from 64 (count_trailing_zeros 64 x))
    (sym exact)
    (first_from (on w) (omega arith) (on_tail w from) (zeros_first (w / 2 ^ from * 2 ^ from)))
