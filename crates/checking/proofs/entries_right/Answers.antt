-- `checking::entries_right` meets its contract. The loop's invariant: `all` says so of the kinds below c, and their dispute
-- entries are counted. Assumes nothing.
use mathlib.Core.Path.{◌≡◌, refl, ap, ◌∙◌}
use Prim.Native.Nat.{ℕ}
use native.Mathlib.Omega.{arith}
use Rattle.tables.specs.Step.{right}
use Rattle.tables.specs.Tables.{all_below, disputes_of}
use Rattle.tables.proofs.TableLaws.{below_suc}
use Rattle.counting.proofs.CountLaws.{none_counted}
use Rattle.checking.proofs.entries_right.Goals as goal

pub loop-c-init : goal.loop-c-init
loop-c-init c = (omega arith, refl, unfold all_below in refl, c.requires.counts ∙ none_counted _ _)

pub loop-c-preserved : goal.loop-c-preserved
loop-c-preserved c =
    let l = c.loop-c.invariant in
    let e = c.kind_right-all.ensures in
    (omega arith, e.1, rw (below_suc, ← l.2, ← e.0) refl, e.2)

pub returns : goal.returns
unfolding right
returns c =
    let l = c.loop-c.invariant in
    let a = c.args in
    let end : c.loop-c.c ≡ a.size.n = omega arith in
    (rw end at l.2, l.3 ∙ ap (λ (k : ℕ). disputes_of k a.size.m a.entries.now) end)
