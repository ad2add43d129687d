-- `lane::lane_find` meets its contract: it answers by the cases of `asked`, and where that lets the call through, kind, mark and
-- tables are as `answer` requires. Assumes nothing.
use mathlib.Core.Path.{◌≡◌, sym, ◌∙◌}
use native.Mathlib.Omega.{arith}
use Rattle.std.specs.Prelude.{None, Result}
use Rattle.inheritance.specs.Checked.{kind_below, mark_below}
use Rattle.tables.specs.declared.Refusal.{Refusal}
use Rattle.books.specs.Ask.{asked_at, asked}
use Rattle.tables.specs.Tables.{Tables, lent}
use Rattle.tables.specs.Controller.{shaped_bytes}
use Rattle.lane.proofs.PackedLaws.{bytes_within, packed_at, packed_refused}
use Rattle.lane.proofs.lane_find.Goals as goal

pub returns-then-not-shaped : goal.returns-then-not-shaped
returns-then-not-shaped c =
    let a = c.args in
    let t : Tables = lent a.links.now a.rules.now a.entries.now a.tally.now a.disputes.now in
    let is : asked (shaped_bytes a.n a.m t) (asked_at (kind_below a.n a.kind) (mark_below a.m a.mark)) ≡ Result.Err Refusal.Shape = simp (sym c.if-not-shaped.ensures) in
    sym (packed_refused a.n a.m t a.kind a.mark is)

pub returns-in_default : goal.returns-in_default
returns-in_default c =
    let a = c.args in
    let t : Tables = lent a.links.now a.rules.now a.entries.now a.tally.now a.disputes.now in
    let none : kind_below a.n a.kind ≡ None = grind arith in
    let is : asked (shaped_bytes a.n a.m t) (asked_at (kind_below a.n a.kind) (mark_below a.m a.mark)) ≡ Result.Err Refusal.Kind = simp (sym c.if-not-shaped.ensures, none) in
    sym (packed_refused a.n a.m t a.kind a.mark is)

pub returns-in_default-new : goal.returns-in_default-new
returns-in_default-new c =
    let a = c.args in
    let t : Tables = lent a.links.now a.rules.now a.entries.now a.tally.now a.disputes.now in
    let none : mark_below a.m a.mark ≡ None = grind arith in
    let is : asked (shaped_bytes a.n a.m t) (asked_at (kind_below a.n a.kind) (mark_below a.m a.mark)) ≡ Result.Err Refusal.Mark = simp (sym c.if-not-shaped.ensures, sym c.in-Some.ensures, none) in
    sym (packed_refused a.n a.m t a.kind a.mark is)

pub answer-requires : goal.answer-requires
answer-requires c =
    let a = c.args in
    let t : Tables = lent a.links.now a.rules.now a.entries.now a.tally.now a.disputes.now in
    let at : asked (shaped_bytes a.n a.m t) (asked_at (kind_below a.n a.kind) (mark_below a.m a.mark)) ≡ Result.Ok (c.in-Some.k, c.in-Some-new.j) = simp (sym c.if-not-shaped.ensures, sym c.in-Some.ensures, sym c.in-Some-new.ensures) in
    bytes_within a.n a.m t a.kind a.mark at

pub returns : goal.returns
returns c =
    let a = c.args in
    let t : Tables = lent a.links.now a.rules.now a.entries.now a.tally.now a.disputes.now in
    let at : asked (shaped_bytes a.n a.m t) (asked_at (kind_below a.n a.kind) (mark_below a.m a.mark)) ≡ Result.Ok (c.in-Some.k, c.in-Some-new.j) = simp (sym c.if-not-shaped.ensures, sym c.in-Some.ensures, sym c.in-Some-new.ensures) in
    c.answer.ensures ∙ sym (packed_at a.n a.m t a.kind a.mark at)
