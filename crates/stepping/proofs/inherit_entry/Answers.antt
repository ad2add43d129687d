-- `stepping::inherit_entry` meets its contract. The loop's invariant: e is what the parents before some place give, and those from it on are left.
-- Assumes nothing.
use Rattle.std.proofs.Common.{ℕ, ◌+◌, sym, ◌∙◌, ap, arith}
use Rattle.relation.proofs.Taking.{rest_row, rest_some, rest_none, rest_more, fewer_left}
use Rattle.deciding.specs.Deciding.{apart, decided_at}
use Rattle.merging.proofs.Giving.{given_zero, given_next, given_merge, step_done}
use Rattle.stepping.proofs.inherit_entry.Goals as goal

pub loop-p-init : goal.loop-p-init
loop-p-init c = (0, omega arith, rest_row _ _ c.row-rest.ensures, sym (given_zero _ _ _ _ _))

pub loop-p-preserved : goal.loop-p-preserved
loop-p-preserved c =
    let (t, lt, gone) = c.in-Some.ensures in
    let (i, within, r, so_far) = c.loop-p.invariant in
    let most = c.requires.sized.kinds in
    let f = rest_some most r t lt in
    (c.in-Some.p + 1, omega arith, rest_more most r f gone, c.merge-e.ensures ∙ given_merge _ _ _ _ _ _ (f.found lt) (so_far ∙ sym (given_next _ _ _ _ f _)))

pub loop-p-smaller : goal.loop-p-smaller
loop-p-smaller c =
    let (t, lt, gone) = c.in-Some.ensures in
    fewer_left (omega (arith, c.requires.sized.kinds)) (t.found lt) gone

pub returns : goal.returns
returns c =
    let a = c.args in
    let s = c.requires in
    let (i, within, r, so_far) = c.loop-p.invariant in
    let all = so_far ∙ sym (given_next _ _ _ _ (rest_none s.sized.kinds r within c.in_default.ensures) _) in
    c.decide_entry.ensures ∙ ap (λ (e : ℕ). apart a.c e (decided_at a.prepared.now a.c a.j)) c.own-owned.ensures
    ∙ step_done s.ready s.sized.kinds _ _ s.kind_and_mark.0 _ s.kind_and_mark.1 all
