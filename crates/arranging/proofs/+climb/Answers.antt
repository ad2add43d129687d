-- `arranging::climb` meets its contract. The loop's invariant, `Climbing`, and each step of it are in `Climbing`. Assumes nothing.
use Rattle.std.proofs.Common.{◌≢◌, ◌<◌, ◌+◌, ℕ, set, subst, ◌∙◌, sym, arith}
use borrow.Author.Tests.{eqb-true, eqb-false}
use Rattle.inheritance.specs.Above.{count}
use Rattle.relation.specs.Bit.{bit}
use Rattle.relation.proofs.Taking.{rest_row, rest_some, rest_none, rest_more, fewer_left}
use Rattle.arranging.specs.declared.State.TheVariants.{Open}
use Rattle.arranging.specs.Arranged.{unvisited, state}
use Rattle.arranging.proofs.Placing.{widened, room, same_new, same_done}
use Rattle.arranging.proofs.Climbing.{Climbing, climbing_none, climbing_up, climbing_on, climbing_skip, on_way, marked, fewer, climbed_placed, climbed}
use Rattle.arranging.proofs.+climb.Goals as goal
use Rattle.arranging.proofs.+climb.Goals.{then-eq, else-eq}

pub loop-parent-init : goal.loop-parent-init
loop-parent-init t c =
    let (most, f, p₀) = c.requires in
    (0, rest_row _ _ c.row-rest.ensures, climbing_none most f p₀)

pub climb-k-requires : goal.climb-k-requires
climb-k-requires t c =
    let (most, f, p₀) = c.requires in
    let (p, r, m) = c.loop-parent.invariant in (
      subst (λ (j : ℕ). count (unvisited c.loop-parent.states) c.args.n < j) c.decreases (fewer most f p₀ m),
      (most, record { kind = c.in-Some.ensures.1; new = eqb-true _ 0 (sym (c.eq.ensures ∙ same_new _) ∙ c.if-eq.true) }, m.placed),
    )

-- by the way that the turn went: the parent is gone up from, or was visited already; then its row is gathered
pub loop-parent-preserved : goal.loop-parent-preserved
loop-parent-preserved t c =
    let (most, f, p₀) = c.requires in
    let a = c.loop-parent in
    let j = c.if-eq in
    let (t, lt, gone) = c.in-Some.ensures in
    let (p, r, m₁) = a.invariant in
    let first = rest_some most r t lt in
    let m₀ = climbing_skip most f.kind (marked most f p₀ m₁) m₁ first in
    let u = first.found lt in
    let turned : Climbing c.args.n (bit c.args.rows.now) c.args.c c.in-Some.parent j.k a.good a.above
    (set c.args.states.now c.args.c Open) j.states j.order c.args.reach.now j.reach
    × (state j.states c.in-Some.parent ≢ 0)
    = elim j.branch [
      | then-eq w ↦ rw (w.states-is, w.order-is, w.reach-is, w.k-is)
          (climbing_up most f.kind (marked most f p₀ m₀) m₀ lt u w.climb-k.ensures.0 w.climb-k.ensures.1, w.climb-k.ensures.1.gone)
      | else-eq w ↦ rw (w.states-is, w.order-is, w.reach-is, w.k-is) (m₀, eqb-false _ 0 (sym (c.eq.ensures ∙ same_new _) ∙ w.if-eq.false))
    ] in
    let (m, vis) = turned in
    (c.in-Some.parent + 1, rest_more most r first gone, rw (c.eq-good.ensures ∙ same_done _) (climbing_on most f.kind (marked most f p₀ m) m lt u vis c.row.ensures c.union-above.ensures))

pub loop-parent-smaller : goal.loop-parent-smaller
loop-parent-smaller t c =
    let (first, lt, gone) = c.in-Some.ensures in
    fewer_left (omega (arith, c.requires.0)) (first.found lt) gone

pub place-requires : goal.place-requires
place-requires t c =
    let (most, f, p₀) = c.requires in
    let (p, r, m) = c.loop-parent.invariant in
    (most, f.kind, room m.placed most f.kind (on_way most f.kind (marked most f p₀ m) m))

pub returns-then-good : goal.returns-then-good
returns-then-good t c =
    let (most, f, p₀) = c.requires in
    let (p, r, m₁) = c.loop-parent.invariant in
    let all = climbing_skip most f.kind (marked most f p₀ m₁) m₁ (rest_none most r m₁.within c.in_default.ensures) in
    let m = rw c.if-good.true at all in
    let (count, states, order, reach) = c.place.ensures in
    rw (count, states, order) (climbed_placed most f p₀ m c.set_row.ensures (widened _ _ reach))

pub returns-else-good : goal.returns-else-good
returns-else-good t c =
    let (most, f, p₀) = c.requires in
    let (p, r, m₁) = c.loop-parent.invariant in
    let all = climbing_skip most f.kind (marked most f p₀ m₁) m₁ (rest_none most r m₁.within c.in_default.ensures) in
    climbed most f p₀ (rw c.if-good.false at all) c.set_row.ensures
