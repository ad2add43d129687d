-- `writing::write_row` meets its contract. The loop's invariant: the marks below j are written, and the counts are those of the entries. Assumes nothing.
use mathlib.Core.Path.{◌≡◌, refl}
use native.Mathlib.Omega.{arith}
use Rattle.writing.proofs.WriteLaws.{written_store}
use Rattle.writing.proofs.write_row.Goals as goal

pub loop-j-preserved : goal.loop-j-preserved
loop-j-preserved c =
    let p = c.put_counted-count in
    let l = c.loop-j in (
      omega arith,
      omega arith,
      omega (arith, p.ensures.2),
      rw (p.ensures.0, p.ensures.1) (written_store _ l.invariant.3 l.invariant.0 (omega arith) refl),
      p.ensures.3,
    )

pub returns : goal.returns
returns c =
    let end : c.loop-j.j ≡ c.args.marks.hi = omega arith in
    (omega arith, rw end at c.loop-j.invariant.3, c.loop-j.invariant.4)
