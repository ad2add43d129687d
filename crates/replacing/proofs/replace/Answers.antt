-- `replacing::replace` meets its contract: the new tables are not sound, or each is copied over one as long. Assumes nothing.
use mathlib.Core.Path.{sym, ◌∙◌}
use native.Mathlib.Nat.{mul-le-mul}
use native.Mathlib.Omega.{arith}
use Rattle.books.specs.Lent.{tables_of}
use Rattle.tables.specs.Tables.{Tables, lent, LengthsOf, tallied}
use Rattle.tables.proofs.ShapeLaws.{sized_facts}
use Rattle.replacing.proofs.ReplaceLaws.{replace_unsound, replace_done}
use Rattle.replacing.proofs.replace.Goals as goal

pub invariant_of-size : goal.invariant_of-size
invariant_of-size c =
    let s = c.requires.new_sized.0 in
    record { kinds = s.kinds; marks = s.marks }

pub returns-then-not-sound-clause-outcome : goal.returns-then-not-sound-clause-outcome
returns-then-not-sound-clause-outcome c =
    let a = c.args in
    let t : Tables = tables_of a.book.now in
    let u : Tables = lent a.new_links.now a.new_rules.now a.new_entries.now (tallied a.caller.0 a.book.now.tally.now) a.new_disputes.now in
    replace_unsound _ _ t u (sym (c.is_sound-sound.ensures u.tally) ∙ c.if-not-sound.true)

pub count_differing-count-requires : goal.count_differing-count-requires
count_differing-count-requires c =
    let a = c.args in
    let t : Tables = tables_of a.book.now in
    let old : LengthsOf a.book.now.n a.book.now.m t = sized_facts 1 1 _ _ _ _ _ _ _ c.requires.shaped in
    let p = c.requires.new_sized in
    let s = p.0 in
    (omega (arith, old.entries_length, s.entries_size), omega (arith, old.entries_length, mul-le-mul s.kinds s.marks))

pub copy_over-requires : goal.copy_over-requires
copy_over-requires c =
    let a = c.args in
    let t : Tables = tables_of a.book.now in
    let old : LengthsOf a.book.now.n a.book.now.m t = sized_facts 1 1 _ _ _ _ _ _ _ c.requires.shaped in
    let p = c.requires.new_sized in
    omega (arith, old.links_length, p.1)

pub copy_over-requires-2 : goal.copy_over-requires-2
copy_over-requires-2 c =
    let a = c.args in
    let t : Tables = tables_of a.book.now in
    let old : LengthsOf a.book.now.n a.book.now.m t = sized_facts 1 1 _ _ _ _ _ _ _ c.requires.shaped in
    let p = c.requires.new_sized in
    omega (arith, old.rules_length, p.0.rules_size)

pub copy_over-requires-3 : goal.copy_over-requires-3
copy_over-requires-3 c =
    let a = c.args in
    let t : Tables = tables_of a.book.now in
    let old : LengthsOf a.book.now.n a.book.now.m t = sized_facts 1 1 _ _ _ _ _ _ _ c.requires.shaped in
    let p = c.requires.new_sized in
    omega (arith, old.entries_length, p.0.entries_size)

pub copy_over-requires-4 : goal.copy_over-requires-4
copy_over-requires-4 c =
    let a = c.args in
    let t : Tables = tables_of a.book.now in
    let old : LengthsOf a.book.now.n a.book.now.m t = sized_facts 1 1 _ _ _ _ _ _ _ c.requires.shaped in
    let p = c.requires.new_sized in
    omega (arith, old.disputes_length, p.2)

pub count_edit-requires : goal.count_edit-requires
count_edit-requires c =
    let a = c.args in
    let t : Tables = tables_of a.book.now in
    let old : LengthsOf a.book.now.n a.book.now.m t = sized_facts 1 1 _ _ _ _ _ _ _ c.requires.shaped in
    let p = c.requires.new_sized in
    omega (arith, old.tally_length, c.requires.caller)

pub returns-clause-outcome : goal.returns-clause-outcome
returns-clause-outcome c =
    let a = c.args in
    let t : Tables = tables_of a.book.now in
    let u : Tables = lent a.new_links.now a.new_rules.now a.new_entries.now (tallied a.caller.0 a.book.now.tally.now) a.new_disputes.now in
    let old : LengthsOf a.book.now.n a.book.now.m t = sized_facts 1 1 _ _ _ _ _ _ _ c.requires.shaped in
    let p = c.requires.new_sized in
    replace_done _ _ t u (sym (c.is_sound-sound.ensures u.tally) ∙ c.if-not-sound.false) c.count_differing-count.ensures
    c.copy_over.ensures
    c.copy_over-2.ensures
    c.copy_over-3.ensures
    c.count_edit.ensures
    c.copy_over-4.ensures
