-- `returning::bring_back` meets its contract: the parts under the name are there, and together they are the state. Assumes nothing.
use mathlib.Core.Path.{◌∙◌}
use Prim.Native.Nat.{◌*◌}
use native.Mathlib.Nat.{mul-le-mul}
use native.Mathlib.Omega.{arith}
use Rattle.books.specs.Lent.{tables_of}
use Rattle.stores.specs.Lent.{store_read}
use Rattle.stores.proofs.StoreLaws.{Placed, placed}
use Rattle.tables.specs.Tables.{tallied}
use Rattle.tables.proofs.ShapeLaws.{sized_facts}
use Rattle.returning.proofs.PartLaws.{part_copy, state_parts}
use Rattle.std.proofs.Common.{◌≡◌, ℕ, ◌+◌, ◌-◌, ◌≤◌, List, length, take, drop, length-drop}
use Rattle.std.proofs.lemmas.List.{length-take-le}
use Rattle.returning.proofs.bring_back.Goals as goal

part_long : (name size : ℕ) (l : List ℕ) → name * size + size ≤ length l → length (take (name * size + size - name * size) (drop (name * size) l)) ≡ size
part_long name size l room =
    length-take-le (name * size + size - name * size) (drop (name * size) l) (omega (arith, length-drop (name * size) l)) ∙ omega arith

pub replace-requires-clause-new_sized : goal.replace-requires-clause-new_sized
replace-requires-clause-new_sized c =
    let a = c.args in
    let p = c.requires in
    let l = sized_facts 1 1 _ _ _ _ _ _ _ p.shaped in
    let links : Placed a.name.0 (a.book.now.n * a.book.now.n) a.store.now.links.now = placed _ _ _ p.name (mul-le-mul l.kinds.1 l.kinds.1) p.copies.links_length in
    let rules : Placed a.name.0 (a.book.now.n * a.book.now.m) a.store.now.rules.now = placed _ _ _ p.name (omega (arith, mul-le-mul l.kinds.1 l.marks.1)) p.copies.rules_length in
    let entries : Placed a.name.0 (a.book.now.n * a.book.now.m) a.store.now.entries.now = placed _ _ _ p.name (omega (arith, mul-le-mul l.kinds.1 l.marks.1)) p.copies.entries_length in
    let disputes : Placed a.name.0 a.book.now.m a.store.now.disputes.now = placed _ _ _ p.name (omega (arith, l.marks.1)) p.copies.disputes_length in
    rw (c.from-number.ensures, c.from-kinds.ensures, c.from-marks.ensures) (
      record {
        kinds = l.kinds.1;
        marks = l.marks.1;
        rules_size = part_long _ _ _ rules.room;
        entries_size = part_long _ _ _ entries.room;
      },
      part_long _ _ _ links.room,
      part_long _ _ _ disputes.room,
    )

pub returns-clause-outcome : goal.returns-clause-outcome
returns-clause-outcome c =
    let a = c.args in
    let n = a.book.now.n in
    let m = a.book.now.m in
    let k = a.name.0 in
    state_parts n m (tables_of a.book.now) (store_read a.store.now) k (tallied a.caller.0 a.book.now.tally.now) c.replace.ensures.outcome
    (rw (c.from-number.ensures, c.from-kinds.ensures) (part_copy k (n * n) a.store.now.links.now))
    (rw (c.from-number.ensures, c.from-kinds.ensures, c.from-marks.ensures) (part_copy k (n * m) a.store.now.rules.now))
    (rw (c.from-number.ensures, c.from-kinds.ensures, c.from-marks.ensures) (part_copy k (n * m) a.store.now.entries.now))
    (rw (c.from-number.ensures, c.from-marks.ensures) (part_copy k m a.store.now.disputes.now))
