-- `copying::count_differing` meets its contract: where one table is at its end nothing differs any more. Assumes nothing.
use Rattle.std.proofs.Common.{arith}
use Rattle.std.proofs.lemmas.Slice.Zip.{either_empty_from_Zip}
use Rattle.copying.proofs.CopyLaws.{differing_end}
use Rattle.copying.proofs.count_differing.Goals as goal

pub returns : goal.returns
returns c =
    let none = differing_end _ _ (either_empty_from_Zip c.loop-was.was-iterator c.next.new.self c.next.result c.in-None.is c.next.ensures.steps) in
    omega (arith, none, c.loop-was.invariant.so_far)
