-- `settling::settle` meets its contract. The loop's invariant: the kinds at the last t places are worked out, and the counts are those of the entries.
-- Assumes nothing.
use mathlib.Core.Path.{◌≡◌, sym, ◌∙◌}
use mathlib.Core.Bool.{false≢true}
use native.Mathlib.Nat.{mul-le-mul}
use native.Mathlib.Omega.{arith}
use Rattle.settling.proofs.Order.{settling_none, settling_kind, settling_skip, settling_few, settled}
use Rattle.settling.proofs.settle.Goals.{then-contains, else-contains}
use Rattle.settling.proofs.settle.Goals as goal

pub loop-t-init : goal.loop-t-init
loop-t-init c =
    let s = c.requires in
    (omega arith, settling_none _ _ _ _ _ _ _ _ _ s.sized.kinds s.ready.arranged _ s.awaiting, s.counted)

pub overflow_add-count : goal.overflow_add-count
overflow_add-count c =
    let s = c.requires in
    let next = settling_kind _ _ _ _ _ _ _ _ _ s.sized.kinds s.ready.arranged _ _ (omega arith) c.loop-t.invariant.1 c.args.marks.high (rw c.from-c.ensures at c.settle_kind-count.ensures.1) in
    omega (arith, settling_few _ _ _ _ _ _ _ _ _ s.sized.kinds s.ready.arranged next, s.sized.entries_size, mul-le-mul s.sized.kinds s.sized.marks)

pub loop-t-preserved : goal.loop-t-preserved
loop-t-preserved c =
    let s = c.requires in
    let l = c.loop-t.invariant in
    elim c.if-contains.branch [
      | then-contains w ↦ (
        omega arith,
        rw (w.entries-is, w.count-is)
            (settling_kind _ _ _ _ _ _ _ _ _ s.sized.kinds s.ready.arranged _ _ (omega arith) l.1 c.args.marks.high (rw c.from-c.ensures at w.settle_kind-count.ensures.1)),
        rw (w.entries-is, w.disputes-is) w.settle_kind-count.ensures.2,
      )
      | else-contains w ↦ (
        omega arith,
        rw (w.entries-is, w.count-is)
            (settling_skip _ _ _ _ _ _ _ _ _ s.sized.kinds s.ready.arranged _ _ (omega arith) l.1 (λ v. false≢true (sym w.if-contains.false ∙ (rw c.from-c.ensures at c.contains.ensures) ∙ v))),
        rw (w.entries-is, w.disputes-is) l.2,
      )
    ]

pub returns : goal.returns
returns c =
    let s = c.requires in
    let end : c.loop-t.t ≡ c.args.marks.size.n = omega arith in
    (settled _ _ _ _ _ _ _ _ _ s.sized.kinds s.ready.arranged (rw end at c.loop-t.invariant.1), c.loop-t.invariant.2)
