-- `propagation::spread` meets its contract. The loop's invariant, `Passing`, and each step of it are in `Walk`. What is left here is where
-- each fact stands in the code. Assumes nothing.
use Rattle.std.proofs.Common.{◌<◌, ◌+◌, ◌∙◌, ℕ, arith, sym, subst}
use Rattle.relation.proofs.Taking.{rest_row, rest_some, rest_none, rest_more, fewer_left}
use Rattle.propagation.specs.Spread.{unvisited}
use Rattle.propagation.proofs.Walk.{may_walk, no_walk, ready, pass_none, pass_other, pass_child, pass_next, walked, fewer_passing}
use Rattle.propagation.proofs.+spread.Goals as goal

pub loop-c-init : goal.loop-c-init
loop-c-init t c = (0, rest_row _ _ c.row-rest.ensures, pass_none c.with-visited.result)

pub spread-visited-requires : goal.spread-visited-requires
spread-visited-requires t c =
    let (new, free) = may_walk c.contains.result c.contains-in-Some.result c.if-contains.true in (
      subst (λ (j : ℕ). unvisited c.args.n c.loop-c.visited < j) c.decreases (fewer_passing c.with-visited.ensures c.requires c.loop-c.invariant.2),
      ready c.requires c.in-Some.ensures.1 (sym c.contains.ensures ∙ new),
    )

-- by the way that the turn went: a walk from the child, or a child that is visited already or is a stop
pub loop-c-preserved-then-contains : goal.loop-c-preserved-then-contains
loop-c-preserved-then-contains t c =
    let (t, lt, gone) = c.in-Some.ensures in
    let (i, r, passing) = c.loop-c.invariant in
    let f = rest_some c.requires.room r t lt in
    let (new, free) = may_walk c.contains.result c.contains-in-Some.result c.if-contains.true in (
      c.in-Some.c + 1,
      rest_more c.requires.room r f gone,
      pass_child c.requires.room c.requires.kind_in (pass_next f passing) lt (f.found lt) (sym c.contains-in-Some.ensures ∙ free) c.spread-visited.ensures,
    )

pub loop-c-preserved : goal.loop-c-preserved
loop-c-preserved t c =
    let (t, lt, gone) = c.in-Some.ensures in
    let (i, r, passing) = c.loop-c.invariant in
    let f = rest_some c.requires.room r t lt in (
      c.in-Some.c + 1,
      rest_more c.requires.room r f gone,
      pass_other (pass_next f passing) lt
          (λ free new. no_walk c.contains.result c.contains-in-Some.result c.if-contains.false (c.contains-in-Some.ensures ∙ free) (c.contains.ensures ∙ new)),
    )

pub loop-c-smaller-then-contains : goal.loop-c-smaller-then-contains
loop-c-smaller-then-contains t c =
    let (first, lt, gone) = c.in-Some.ensures in
    fewer_left (omega (arith, c.requires.room)) (first.found lt) gone

pub loop-c-smaller : goal.loop-c-smaller
loop-c-smaller t c =
    let (first, lt, gone) = c.in-Some.ensures in
    fewer_left (omega (arith, c.requires.room)) (first.found lt) gone

pub returns : goal.returns
returns t c =
    let (i, r, passing) = c.loop-c.invariant in
    walked c.with-visited.ensures c.requires (pass_next (rest_none c.requires.room r passing.within c.in_default.ensures) passing)
