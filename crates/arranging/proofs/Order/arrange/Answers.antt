-- `arranging::Order::arrange` meets its contract. The loop's invariant: the kinds below c are visited. Assumes nothing.
use Rattle.std.proofs.Common.{arith, refl, ◌≡◌, ◌∙◌, sym}
use borrow.Author.Tests.{eqb-true, eqb-false}
use Rattle.arranging.proofs.Placing.{same_new}
use Rattle.arranging.proofs.Arranging.{arranging_none, arranging_climb, arranging_keep, arrangement}
use Rattle.arranging.proofs.Order.arrange.Goals as goal
use Rattle.arranging.proofs.Order.arrange.Goals.{then-eq, else-eq}

pub loop-c-init : goal.loop-c-init
loop-c-init c = (refl, arranging_none _ _ 128 refl c.args.self.now.places c.requires.1)

pub climb-k-requires : goal.climb-k-requires
climb-k-requires c =
    (c.requires.0, record { kind = c.loop-c-test.true; new = eqb-true _ 0 (sym (c.eq.ensures ∙ same_new _) ∙ c.if-eq.true) }, c.loop-c.invariant.1.placed)

pub loop-c-preserved : goal.loop-c-preserved
loop-c-preserved c =
    let (same, visited) = c.loop-c.invariant in elim c.if-eq.branch [
      | then-eq w ↦ rw (w.self-is, w.states-is, w.k-is) (same, arranging_climb c.loop-c-test.true visited w.climb-k.ensures.0 w.climb-k.ensures.1)
      | else-eq w ↦ rw (w.self-is, w.states-is, w.k-is)
          (same, arranging_keep c.loop-c-test.true visited (eqb-false _ 0 (sym (c.eq.ensures ∙ same_new _) ∙ w.if-eq.false)))
    ]

pub returns : goal.returns
returns c =
    let (same, visited) = c.loop-c.invariant in
    let end : c.loop-c.c ≡ c.args.n = omega arith in
    record { rows = same; arranged = arrangement c.requires.0 (rw end at visited) }
